-- What holds of the range of costs before each trial.
use Rattle.std.specs.Prelude.{◌≡◌, true, false, ℕ, suc, ◌+◌, ◌-◌, ◌*◌, ◌/◌, ◌≤◌, ◌<◌, T, Ok}
use Rattle.std.proofs.Common.{sym, ap, arith}
use Rattle.values.specs.declared.Table.{Table}
use Rattle.values.specs.declared.Measure.{Measure}
use Rattle.values.specs.declared.Verdict.{Verdict}
use Rattle.values.specs.declared.Answer.{Answer}
use Rattle.model.specs.Limits.{task_limit, round_limit}
use Rattle.model.specs.Tasks.{task, judged}
use Rattle.model.specs.Verdict.{verdict, Permitted}
use Rattle.model.specs.Patterns.{quick_pass}
use Rattle.model.specs.Largest.{with_cost, passes_with, largest_cost}
use Rattle.wellformed.specs.Ranges.{Ranged}
use Rattle.wellformed.specs.Round.{load_le}
use Rattle.wellformed.specs.WellFormed.{judged_iff}
use Rattle.backlog.specs.AnswersSay.{answers_say}
use Rattle.backlog.proofs.Largest.{ranged_with, round_with, load_with, own_passes, largest_is}
use Rattle.patterns.specs.Quick.{quick_passes}

-- A well-formed table keeps its ranges.
pub ranged_of : (t : Table) (m : Measure) → judged t ≡ Ok m → Ranged t
ranged_of t m w = ((judged_iff t m).0 w).0

-- The load with more of that cost is no large number.
pub more_le : (t : Table) (m : Measure) → judged t ≡ Ok m → (i c : ℕ) → i < t.count → (task t i).cost ≤ c
    → c ≤ (task t i).deadline → m.load + (c - (task t i).cost) * (m.round / (task t i).period) ≤ task_limit * round_limit
more_le t m w i c l a b =
    let (r, h, same, _) = (judged_iff t m).0 w in
    let some : 1 ≤ c = omega (arith, (r.each i l).cost_pos) in
    let q = ranged_with t r i l c some b in
    rw same (omega (
      arith,
      load_with t r i l c a b,
      load_le (with_cost t i c) q,
      round_with t r i l c some b,
    ))

-- The test says the verdict of a well-formed table, and so does a quick pass, if the budget reaches the horizon.
pub says : (t : Table) (m : Measure) → judged t ≡ Ok m → (budget : ℕ) (a : Answer) → Permitted t budget a
    → a.outcome ≡ Ok (verdict t budget)
unfolding Permitted
says t m w budget a h = (answers_say t budget _ a (verdict t budget) (rw w at h)).0

pub quick_says : (t : Table) (m : Measure) → judged t ≡ Ok m → (budget : ℕ) → m.horizon ≤ budget → T (quick_pass t)
    → verdict t budget ≡ Verdict.Passes
quick_says t m w budget h pass =
    let (r, _, same, _) = (judged_iff t m).0 w in
    quick_passes t r pass budget (omega (arith, ap (λ (x : Measure). x.horizon) same))

-- A cost from the present one on passes, and one above it does not, or is past the deadline.
pub record Halving (t : Table) (i budget passes fails : ℕ) : Type 0 where
  pub least : (task t i).cost ≤ passes
  pub apart : passes < fails
  pub upto : fails ≤ (task t i).deadline + 1
  pub passed : T (passes_with t i budget passes)
  pub failed : fails ≤ (task t i).deadline → T (passes_with t i budget fails) → ⊥

module _ (t : Table) (m : Measure) (w : judged t ≡ Ok m) (i budget : ℕ) (l : i < t.count) (pass : verdict t budget ≡ Verdict.Passes) where
  -- At the start: the present cost, and the first past the deadline.
  pub halving_start : (fails : ℕ) → fails ≡ (task t i).deadline + 1 → Halving t i budget (task t i).cost fails
  halving_start fails e =
      let k = (ranged_of t m w).each i l in
      record {
        least = omega arith;
        apart = omega (arith, k.cost_le);
        upto = omega arith;
        passed = own_passes t (ranged_of t m w) i l budget pass;
        failed = λ h. absurd (omega arith);
      }

  -- At the end: the cost that passes is the largest.
  pub halving_end : (passes fails : ℕ) → Halving t i budget passes fails → fails ≤ suc passes → passes ≡ largest_cost t i budget
  halving_end passes fails h e =
      let next : fails ≡ suc passes = omega (arith, h.apart) in
      let r = ranged_of t m w in
      sym (largest_is t r i l budget pass passes (omega (arith, h.least, (r.each i l).cost_pos)) (omega (arith, h.upto)) h.passed (rw next at h.failed))

-- A trial that passes raises the one, and one that does not lowers the other.
module _ (t : Table) (i budget passes fails middle : ℕ) (h : Halving t i budget passes fails) where
  pub halving_up : passes < middle → middle < fails → passes_with t i budget middle ≡ true → Halving t i budget middle fails
  halving_up a b e = record { least = omega (arith, h.least); apart = b; upto = h.upto; passed = rw e tt; failed = h.failed }

  pub halving_down : passes < middle → middle < fails → passes_with t i budget middle ≡ false → Halving t i budget passes middle
  halving_down a b e = record { least = h.least; apart = a; upto = omega (arith, h.upto); passed = h.passed; failed = λ m w. rw e at w }
