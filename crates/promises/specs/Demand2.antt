-- DEMAND 2: the test passes a table exactly when some schedule is good for all time; else overload,
-- or the first late deadline with its shortest interval; with exact worst responses; a short budget gives undecided and
-- a longer one alters no other verdict. What asks for a well-formed table says so: `judged t ≡ Ok m`.
use Rattle.std.specs.Prelude.{◌≡◌, refl, ◌∷◌, ◌↔◌, ◌⊎◌, ◌≢◌, ℕ, ◌≤◌, ◌<◌, T, get_or, Ok}
use Rattle.std.proofs.Common.{ap, ◌∙◌, arith, inl, inr}
use Rattle.std.proofs.Math.Decide.{dec_le}
use Rattle.values.specs.declared.Table.{Table}
use Rattle.values.specs.declared.Measure.{Measure}
use Rattle.values.specs.declared.Verdict.{Verdict}
use Rattle.values.specs.declared.Answer.{Answer}
use Rattle.model.specs.Notation.{Least}
use Rattle.model.specs.Values.{verdict_said, answer_said}
use Rattle.model.specs.Tasks.{task, release, due, round, load, horizon, judged}
use Rattle.model.specs.Demand.{demand, asks_too_much, late_at}
use Rattle.model.specs.Schedule.{none, job, Schedule, given, Good}
use Rattle.model.specs.Run.{Order, tie_order, run}
use Rattle.model.specs.Idle.{first_idle}
use Rattle.model.specs.Verdict.{needed, late_start, verdict, settled_by, Worsts, Permitted}
use Rattle.wellformed.specs.WellFormed.{well_formed}
use Rattle.backlog.proofs.Sufficient.{sufficient}
use Rattle.backlog.specs.Needed.{needed_le, needed_is, none_within}
use Rattle.backlog.specs.Verdicts.{is_overload, is_undecided, is_late_lem, is_passed_lem, overload_iff, undecided_iff}
use Rattle.backlog.specs.Verdicts.{passes_needed_iff}
use Rattle.backlog.specs.Longer.{longer}
use Rattle.backlog.proofs.RunRule.{run_rule}
use Rattle.backlog.proofs.Worst.{worst_range}
use Rattle.backlog.proofs.TableSystem.{system_of, tie_system}
use Rattle.backlog.proofs.Passes.{never_of_passed, passes_iff, overload_infeasible, late_infeasible}
use Rattle.backlog.proofs.PassedWorst.{met_of_passed}
use Rattle.backlog.proofs.Unique.{permitted_unique}
use Rattle.backlog.specs.AnswersSay.{answers_say}
use Rattle.patterns.specs.IdleInstants.{idle_iff}
use Rattle.patterns.specs.FirstIdle.{passed_idle}
use Rattle.telling.specs.Late.{late_named}
use Rattle.telling.specs.Passed.{passing}
use Rattle.telling.specs.Longer.{still_permitted}

module _ (t : Table) (m : Measure) (well : judged t ≡ Ok m) where
  -- With a budget that reaches the horizon it passes exactly if some schedule is good.
  pub passes_exactly : (budget : ℕ) → horizon t ≤ budget
      → (verdict t budget ≡ Verdict.Passes) ↔ ((σ : Schedule) × Good t σ)
  passes_exactly = passes_iff t (well_formed t m well).ranged

  -- Overload and late are never said of a table that has a good schedule, whatever the budget.
  pub overload_rightly : (budget : ℕ) → verdict t budget ≡ Verdict.Overload → (σ : Schedule) → Good t σ → ⊥
  overload_rightly budget e σ g = overload_infeasible t (well_formed t m well).ranged budget e (σ, g)

  pub late_rightly : (budget from to asked : ℕ)
      → verdict t budget ≡ Verdict.Late from to asked → (σ : Schedule) → Good t σ → ⊥
  late_rightly budget from to asked e σ g =
      late_infeasible t (well_formed t m well).ranged budget from to asked e (σ, g)

  -- The run of a passed table is itself a good schedule, in whatever order its ties go,
  -- so every job of it finishes, and by its deadline.
  pub run_is_good : (budget : ℕ) → verdict t budget ≡ Verdict.Passes → (rank : Order) → Good t (run t rank)
  run_is_good budget e rank =
      let r = (well_formed t m well).ranged in
      sufficient (system_of t r rank) (never_of_passed t r budget e).1

-- Overload is said exactly if the load is above 1, whatever the budget.
pub overload_exactly : (t : Table) (budget : ℕ) → (verdict t budget ≡ Verdict.Overload) ↔ (round t < load t)
overload_exactly = overload_iff

-- Of any table: undecided exactly below the needed count, where there is no overload.
pub undecided_exactly : (t : Table) (budget : ℕ)
    → (verdict t budget ≡ Verdict.Undecided) ↔ ((load t ≤ round t) × (budget < needed t))
undecided_exactly = undecided_iff

-- The needed count is at most the horizon, so a budget that reaches the horizon is never undecided.
pub needed_within : (t : Table) → needed t ≤ horizon t
needed_within = needed_le

-- Settled: nothing on overload, the budget where undecided, the horizon where it passes;
-- `late_exactly` says it of a late one.
pub settled_exactly : (t : Table) (budget : ℕ)
    → (verdict t budget ≡ Verdict.Overload → settled_by t budget ≡ 0)
    × (verdict t budget ≡ Verdict.Undecided → settled_by t budget ≡ budget)
    × (verdict t budget ≡ Verdict.Passes → settled_by t budget ≡ horizon t)
settled_exactly t budget = (
  λ e. (is_overload t budget ((overload_iff t budget).0 e)).1,
  λ e. let (light, short) = (undecided_iff t budget).0 e in (is_undecided t budget light short).1,
  λ e. let (light, enough, quiet) = (passes_needed_iff t budget).0 e in
      (is_passed_lem t budget light enough quiet).1 ∙ (none_within t quiet).0,
)

-- A longer budget alters no other verdict, nor the settled count of one.
pub longer_alters_nothing : (t : Table) (budget more : ℕ) → budget ≤ more → verdict t budget ≢ Verdict.Undecided
    → (verdict t more ≡ verdict t budget) × (settled_by t more ≡ settled_by t budget)
longer_alters_nothing = longer

-- A late verdict names the smallest late deadline, the largest start that asks too much up to there,
-- and that interval's demand.
pub record LateRight (t : Table) (from to asked : ℕ) : Type 0 where
  pub smallest : Least (λ u. T (late_at t u)) to
  pub asks : T (asks_too_much t from to)
  pub largest_start : (later : ℕ) → from < later → T (asks_too_much t later to) → ⊥
  pub demands : asked ≡ demand t from to

pub late_exactly : (t : Table) (budget from to asked : ℕ) → verdict t budget ≡ Verdict.Late from to asked
    → LateRight t from to asked × (settled_by t budget ≡ to)
late_exactly t budget from to asked e =
    let (least, asks, largest, demands, settled) = late_named t budget from to asked e in
    (record { smallest = least; asks = asks; largest_start = largest; demands = demands }, settled)

-- And it is said wherever there is one within the horizon and the budget, and no overload.
pub late_said : (t : Table) (budget to : ℕ) → load t ≤ round t → Least (λ u. T (late_at t u)) to → to ≤ horizon t
    → to ≤ budget → verdict t budget ≡ Verdict.Late (late_start t to) to (demand t (late_start t to) to)
late_said t budget to light (l, before) h b =
    let e : needed t ≡ to = needed_is t to h before (λ x. l) in
    (is_late_lem t budget light (omega arith) (rw e l)).0 ∙ rw e

-- With a budget that reaches the horizon one of three ways is said, and rightly: some schedule is good, and it passes; or
-- none is, and it is overload, for a load above 1, or late, with the first late deadline.
pub three_ways : (t : Table) (m : Measure) → judged t ≡ Ok m → (budget : ℕ) → horizon t ≤ budget
    → ((verdict t budget ≡ Verdict.Passes) × ((σ : Schedule) × Good t σ))
    ⊎ ((((σ : Schedule) × Good t σ) → ⊥)
    × (((verdict t budget ≡ Verdict.Overload) × (round t < load t))
    ⊎ ((from : ℕ) × (to : ℕ) × (asked : ℕ) × (verdict t budget ≡ Verdict.Late from to asked) × (load t ≤ round t)
    × LateRight t from to asked)))
three_ways t m well budget reach = by (verdict t budget) refl
  where
    by : (v : Verdict) → verdict t budget ≡ v
        → ((v ≡ Verdict.Passes) × ((σ : Schedule) × Good t σ))
        ⊎ ((((σ : Schedule) × Good t σ) → ⊥)
        × (((v ≡ Verdict.Overload) × (round t < load t))
        ⊎ ((from : ℕ) × (to : ℕ) × (asked : ℕ) × (v ≡ Verdict.Late from to asked) × (load t ≤ round t) × LateRight t from to asked)))
    by Verdict.Passes e = inl (refl, (passes_exactly t m well budget reach).0 e)
    by Verdict.Overload e = inr (λ (σ, g). overload_rightly t m well budget e σ g, inl (refl, (overload_iff t budget).0 e))
    by Verdict.Undecided e = absurd (omega (arith, ((undecided_iff t budget).0 e).1, needed_le t))
    by (Verdict.Late from to asked) e =
        let light : load t ≤ round t = elim (dec_le (load t) (round t)) [
          | yes l ↦ l
          | no l ↦ (let o = (overload_iff t budget).1 (omega arith) in let z : ◌≡◌ {A = ℕ} 0 1 = cc in absurd (omega arith))
        ] in
        inr (λ (σ, g). late_rightly t m well budget from to asked e σ g, inr (from, to, asked, refl, light, (late_exactly t budget from to asked e).0))

-- The answer says the verdict, the settled count and the measures, in the specification's numbers too.
pub record Says (t : Table) (budget : ℕ) (m : Measure) (a : Answer) : Type 0 where
  pub outcome : a.outcome ≡ Ok (verdict t budget)
  pub said : answer_said a ≡ 0 ∷ verdict_said (verdict t budget) (settled_by t budget) a.idle a.worst
  pub values : verdict t budget ≡ Verdict.Passes → Worsts t a.worst × (a.idle ≡ first_idle t (tie_order t))
  pub settled : a.settled ≡ settled_by t budget
  pub measures : a.measure ≡ m

pub answer_exactly : (t : Table) (m : Measure)
    → judged t ≡ Ok m → (budget : ℕ) (a : Answer) → Permitted t budget a → Says t budget m a
unfolding Permitted
answer_exactly t m well budget a h =
    let (o, s, k) = answers_say t budget m a (verdict t budget) (rw well at h) in
    record {
      outcome = o;
      said = rw (o, s);
      values = λ e. let (_, worst, idle) = passing t budget a (o ∙ ap Ok e) h in (worst, idle);
      settled = s;
      measures = k;
    }

-- The worst responses of a passing answer are exact, for all jobs for ever,
-- and its idle instant is the run's first after 0.
pub passed_exactly : (t : Table) (budget : ℕ) (a : Answer)
    → Permitted t budget a → a.outcome ≡ Ok Verdict.Passes
    → (verdict t budget ≡ Verdict.Passes) × Worsts t a.worst × (a.idle ≡ first_idle t (tie_order t))
passed_exactly t budget a p o = passing t budget a o p

-- By u every job that was released strictly before u is finished. A job that is released at u does not matter.
abbrev AllFinished : Table → ℕ → Type 0
AllFinished t u =
    (i j : ℕ) → i < t.count → release (task t i) j < u → (task t i).cost ≤ given (run t (tie_order t)) i j 0 u

-- The first idle instant is the least after 0 by which every job released before is finished;
-- there always is one, and it is at most H.
pub idle_exactly : (t : Table) (m : Measure) → judged t ≡ Ok m
    → (budget : ℕ) (a : Answer) → Permitted t budget a → a.outcome ≡ Ok Verdict.Passes
    → Least (λ u. (0 < u) × AllFinished t u) a.idle × (a.idle ≤ round t)
idle_exactly t m well budget a p o =
    let r = (well_formed t m well).ranged in
    let (v, w, e) = passed_exactly t budget a p o in
    let (((pos, idle), least), soon) = passed_idle t r budget v _ in
    rw e (
      ((pos, (idle_iff (tie_system t r) _).0 idle), λ u l h. least u l (h.0, (idle_iff (tie_system t r) u).1 h.1)),
      soon,
    )

-- A worst response is at least 1 and at most the deadline.
pub worst_by_deadline : (t : Table) (m : Measure) → judged t ≡ Ok m → (budget : ℕ) (a : Answer)
    → Permitted t budget a → a.outcome ≡ Ok Verdict.Passes → (i : ℕ) → i < t.count
    → (0 < get_or a.worst i 0) × (get_or a.worst i 0 ≤ (task t i).deadline)
worst_by_deadline t m well budget a p o i l =
    let r = (well_formed t m well).ranged in
    let (v, w, e) = passed_exactly t budget a p o in
    worst_range (tie_system t r) (met_of_passed t r budget v _) i l (get_or a.worst i 0) (w.worst i l)

-- A longer budget alters no answer but undecided.
pub longer_same_answer : (t : Table) (budget more : ℕ) (a b : Answer)
    → budget ≤ more → a.outcome ≢ Ok Verdict.Undecided → Permitted t budget a → Permitted t more b → a ≡ b
longer_same_answer t budget more a b l u p = permitted_unique t more a b (still_permitted t budget more a l u p)

-- The run that the responses are taken from is that of section 3.3 of the specification:
-- each slot goes to the released, unfinished job with the earliest deadline,
-- ties to the shorter period and then to the lower task number, and to none only if no such job is there.
abbrev Waits : Table → ℕ → ℕ → ℕ → Type 0
Waits t u i j = (i < t.count) × (release (task t i) j ≤ u) × (given (run t (tie_order t)) i j 0 u < (task t i).cost)

pub run_is_the_rule : (t : Table) (m : Measure) → judged t ≡ Ok m → (u : ℕ)
    → ((run t (tie_order t) u ≡ none) × ((i j : ℕ) → Waits t u i j → ⊥))
    ⊎ ((i : ℕ) × (j : ℕ) × (run t (tie_order t) u ≡ job i j) × Waits t u i j
    × ((k n : ℕ) → Waits t u k n → (due (task t i) j < due (task t k) n)
    ⊎ ((due (task t i) j ≡ due (task t k) n)
    × (((task t i).period < (task t k).period) ⊎ (((task t i).period ≡ (task t k).period) × (i ≤ k))))))
run_is_the_rule t m well = run_rule (tie_system t (well_formed t m well).ranged)
