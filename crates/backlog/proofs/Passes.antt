-- PASSES (`passes_iff`): with a budget that reaches the horizon the test passes a table that keeps its ranges exactly if some schedule of it is good
-- for all time.
use Rattle.std.specs.Prelude.{◌≡◌, ◌↔◌, ℕ, ◌≤◌, T}
use Rattle.std.proofs.Math.Decide.{dec_lt}
use Rattle.std.proofs.Common.{arith}
use Rattle.values.specs.declared.Table.{Table}
use Rattle.values.specs.declared.Verdict.{Verdict}
use Rattle.model.specs.Tasks.{round, load, horizon}
use Rattle.model.specs.Verdict.{needed, verdict}
use Rattle.model.specs.Demand.{late_at}
use Rattle.wellformed.specs.Ranges.{Ranged}
use Rattle.backlog.specs.TooMuch.{NeverTooMuch, never_iff}
use Rattle.backlog.proofs.Feasible.{Feasible, feasible_iff}
use Rattle.backlog.proofs.Horizon.{late_soon}
use Rattle.backlog.proofs.OverloadLate.{overload_late}
use Rattle.backlog.specs.Needed.{needed_le, none_within}
use Rattle.backlog.specs.Verdicts.{overload_iff, late_needed, passes_needed_iff}

module _ (t : Table) (r : Ranged t) where
  -- What a pass says of the intervals, whatever the budget was.
  pub never_of_passed : (budget : ℕ) → verdict t budget ≡ Verdict.Passes → (load t ≤ round t) × NeverTooMuch t
  never_of_passed budget e =
      let (light, enough, quiet) = (passes_needed_iff t budget).0 e in
      (light, (never_iff t).1 (λ to w. let (u, m, h) = late_soon t r light to w in (none_within t quiet).1 u m h))

  -- With no interval that ever asks too much, a budget that reaches the horizon gives a pass.
  passed_of_never : (budget : ℕ) → horizon t ≤ budget → NeverTooMuch t → verdict t budget ≡ Verdict.Passes
  passed_of_never budget b h = (passes_needed_iff t budget).1 (light, omega (arith, needed_le t), quiet (needed t))
    where
      quiet : (to : ℕ) → T (late_at t to) → ⊥
      quiet = (never_iff t).0 h

      light : load t ≤ round t
      light = elim (dec_lt (round t) (load t)) [ yes p ↦ (let (to, w) = overload_late t r p in absurd (quiet to w)) | no p ↦ omega arith ]

  pub passes_iff : (budget : ℕ) → horizon t ≤ budget → (verdict t budget ≡ Verdict.Passes) ↔ Feasible t
  passes_iff budget b = (λ e. (feasible_iff t r).1 (never_of_passed budget e).1, λ h. passed_of_never budget b ((feasible_iff t r).0 h))

  -- Overload and late mean that no schedule is good, whatever the budget was.
  pub overload_infeasible : (budget : ℕ) → verdict t budget ≡ Verdict.Overload → Feasible t → ⊥
  overload_infeasible budget e h = let (to, w) = overload_late t r ((overload_iff t budget).0 e) in (never_iff t).0 ((feasible_iff t r).0 h) to w

  pub late_infeasible : (budget from to asked : ℕ) → verdict t budget ≡ Verdict.Late from to asked → Feasible t → ⊥
  late_infeasible budget from to asked e h = (never_iff t).0 ((feasible_iff t r).0 h) (needed t) (late_needed t budget from to asked e).0
