-- EVERY INSTANT (`missed_iff`): at u the run has a job due by u and unfinished, exactly if some interval that ends at u asks too much.
use Rattle.std.specs.Prelude.{◌↔◌, ℕ, ◌≤◌, ◌<◌, T}
use Rattle.std.proofs.Common.{arith}
use Rattle.model.specs.Notation.{Least}
use Rattle.model.specs.Demand.{late_at}
use Rattle.model.specs.Schedule.{given}
use Rattle.model.specs.Run.{run}
use Rattle.counting.specs.Search.{least_iff}
use Rattle.backlog.specs.Criterion.{Over, late_iff_over}
use Rattle.backlog.specs.System.{System, size, cost_of, due_of}
use Rattle.backlog.proofs.System.{jobs, dues, demand_streams}
use Rattle.backlog.proofs.ModelRun.{served_of, model_run}
use Rattle.backlog.proofs.RunSchedule.{undone_iff}
use Rattle.backlog.specs.TooMuch.{too_much_iff, late_at_iff}

module _ (S : System) where
  -- A late deadline, in terms of the streams.
  pub over_iff : (to : ℕ) → T (late_at S.table to) ↔ Over (jobs S) (dues S) to
  over_iff to = (
    λ h. let (from, w) =
        (late_at_iff S.table to).0 h in let (l, d) = (too_much_iff S.table from to).0 w in (from, l, omega (arith, demand_streams S from to)),
    λ h. let (from, l, d) = h in (late_at_iff S.table to).1 (from, (too_much_iff S.table from to).1 (l, omega (arith, demand_streams S from to))),
  )

  -- At u the run has not finished a job that is due by u.
  abbrev pub Missed : ℕ → Type 0
  Missed u = (i : ℕ) × (j : ℕ) × (i < size S) × (due_of S i j ≤ u) × (given (run S.table S.rank) i j 0 u < cost_of S i)

  pub missed_iff : (u : ℕ) → Missed u ↔ T (late_at S.table u)
  missed_iff u = (
    λ h. let (i, j, l, d, g) = h in (over_iff u).1 ((late_iff_over (jobs S) (dues S) (served_of S) (model_run S) u).0 (i, j, l, d, (undone_iff S i j u l).0 g)),
    λ h. let (i, j, l, d, g) = (late_iff_over (jobs S) (dues S) (served_of S) (model_run S) u).1 ((over_iff u).0 h) in (i, j, l, d, (undone_iff S i j u l).1 g),
  )

  -- So the first miss is the smallest late deadline.
  pub first_missed : (u : ℕ) → Least Missed u ↔ Least (λ u. T (late_at S.table u)) u
  first_missed = least_iff Missed (λ u. T (late_at S.table u)) missed_iff
