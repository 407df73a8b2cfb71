-- SUFFICIENT (`sufficient`): if no interval ever asks too much, the run is good, in any order of the tasks.
use Rattle.std.specs.Prelude.{ℕ, ◌-◌, ◌≤◌, ◌<◌}
use Rattle.std.proofs.Math.Decide.{dec_le}
use Rattle.std.proofs.Common.{arith}
use Rattle.model.specs.Schedule.{Good}
use Rattle.model.specs.Run.{run}
use Rattle.backlog.specs.Criterion as streams
use Rattle.backlog.specs.Criterion.{Met, met_iff}
use Rattle.backlog.specs.System.{System}
use Rattle.backlog.proofs.System.{jobs, dues, demand_streams}
use Rattle.backlog.proofs.ModelRun.{served_of, model_run}
use Rattle.backlog.proofs.RunSchedule.{run_good}
use Rattle.backlog.specs.TooMuch.{NeverTooMuch, too_much_iff}

module _ (S : System) where
  -- Then the run meets every deadline.
  pub met_of_never : NeverTooMuch S.table → Met (jobs S) (dues S) (served_of S)
  met_of_never h = (met_iff (jobs S) (dues S) (served_of S) (model_run S)).1 (λ t1 t2 l. fits t1 t2 l (dec_le _ _))
    where
      fits : (t1 t2 : ℕ) → t1 < t2 → Dec (streams.demand (jobs S) (dues S) t1 t2 ≤ t2 - t1) → streams.demand (jobs S) (dues S) t1 t2 ≤ t2 - t1
      fits t1 t2 l (yes p) = p
      fits t1 t2 l (no p) = absurd (h t1 t2 ((too_much_iff S.table t1 t2).1 (l, omega (arith, demand_streams S t1 t2))))

  pub sufficient : NeverTooMuch S.table → Good S.table (run S.table S.rank)
  sufficient h = run_good S (met_of_never h)
