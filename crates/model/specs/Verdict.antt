-- The verdict, and the one permitted answer to a table and a budget.
use Rattle.std.specs.Prelude.{◌≡◌, List, cond, ℕ, ◌≤◌, ◌<◌, ltb, get_or, length, replicate, Ok, Err}
use Rattle.model.specs.Notation.{first, last}
use Rattle.model.specs.Values.{Table, Measure, Judgement, Verdict, Outcome, Answer}
use Rattle.model.specs.Limits.{task_limit}
use Rattle.model.specs.Tasks.{round, load, horizon, judged}
use Rattle.model.specs.Demand.{demand, asks_too_much, late_at}
use Rattle.model.specs.Run.{tie_order, Worst}
use Rattle.model.specs.Idle.{first_idle}

-- The slots that an answer needs: the smallest late deadline, if one lies within the horizon, else the horizon.
unfoldable pub needed : Table → ℕ
needed t = first (late_at t) 0 (horizon t)

-- The largest start from which the interval to a late deadline asks too much.
unfoldable pub late_start : Table → ℕ → ℕ
late_start t to = last (λ from. asks_too_much t from to) to

-- The verdict, in this order: overload; undecided below the needed slots; late; passes.
unfoldable pub verdict : Table → ℕ → Verdict
verdict t budget =
    cond (ltb (round t) (load t)) Verdict.Overload
    (cond (ltb budget (needed t)) Verdict.Undecided
    (cond (late_at t (needed t))
    (Verdict.Late (late_start t (needed t)) (needed t) (demand t (late_start t (needed t)) (needed t)))
    Verdict.Passes))

-- Settled: 0 on overload, the budget where it does not reach, else the needed slots.
unfoldable pub settled_by : Table → ℕ → ℕ
settled_by t budget = cond (ltb (round t) (load t)) 0 (cond (ltb budget (needed t)) budget (needed t))

-- w holds the worst response of each task, and 0 past the last one.
pub record Worsts (t : Table) (w : List ℕ) : Type 0 where
  pub size : length w ≡ task_limit
  pub worst : (i : ℕ) → i < t.count → Worst t (tie_order t) i (get_or w i 0)
  pub past : (i : ℕ) → t.count ≤ i → get_or w i 0 ≡ 0

-- An answer that has no responses and no idle instant to tell.
abbrev pub brief : Outcome → Measure → ℕ → Answer
brief o m settled = record { outcome = o; measure = m; settled = settled; worst = replicate task_limit 0; idle = 0 }

-- The permitted answer, by its verdict.
abbrev pub Answers : Table → ℕ → Measure → Answer → Verdict → Type 0
Answers t budget m a Verdict.Passes =
    (w : List ℕ) × Worsts t w × (a ≡ record {
      outcome = Ok Verdict.Passes;
      measure = m;
      settled = settled_by t budget;
      worst = w;
      idle = first_idle t (tie_order t);
    })
Answers t budget m a Verdict.Overload = a ≡ brief (Ok Verdict.Overload) m (settled_by t budget)
Answers t budget m a (Verdict.Late from to asked) =
    a ≡ brief (Ok (Verdict.Late from to asked)) m (settled_by t budget)
Answers t budget m a Verdict.Undecided = a ≡ brief (Ok Verdict.Undecided) m (settled_by t budget)

-- The permitted answer, by what the table is judged to be.
abbrev pub PermittedBy : Table → ℕ → Answer → Judgement → Type 0
PermittedBy t budget a (Err r) =
    a ≡ brief (Err r) (record { round = 0; load = 0; horizon = 0 }) 0
PermittedBy t budget a (Ok m) = Answers t budget m a (verdict t budget)

-- The one permitted answer to any table and budget, refusals included.
unfoldable pub Permitted : Table → ℕ → Answer → Type 0
Permitted t budget a = PermittedBy t budget a (judged t)
