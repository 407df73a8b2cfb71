-- EVERY TASK OF A PASSED TABLE HAS A WORST RESPONSE (`worst_of`), in any order of the tasks.
use Rattle.std.specs.Prelude.{◌≡◌, ℕ, ◌<◌}
use Rattle.values.specs.declared.Table.{Table}
use Rattle.values.specs.declared.Verdict.{Verdict}
use Rattle.model.specs.Run.{Worst, Order}
use Rattle.model.specs.Verdict.{verdict}
use Rattle.wellformed.specs.Ranges.{Ranged}
use Rattle.backlog.specs.Criterion.{Met}
use Rattle.backlog.specs.System.{System}
use Rattle.backlog.proofs.System.{jobs, dues}
use Rattle.backlog.proofs.ModelRun.{served_of}
use Rattle.backlog.proofs.WorstExists.{worst_exists}
use Rattle.backlog.proofs.TableSystem.{system_of, cycle_of}
use Rattle.backlog.proofs.Sufficient.{met_of_never}
use Rattle.backlog.proofs.Passes.{never_of_passed}

module _ (t : Table) (r : Ranged t) (budget : ℕ) (pass : verdict t budget ≡ Verdict.Passes) (rank : Order) where
  abbrev S : System
  S = system_of t r rank

  -- Its run meets every deadline.
  pub met_of_passed : Met (jobs S) (dues S) (served_of S)
  met_of_passed = met_of_never S (never_of_passed t r budget pass).1

  pub worst_of : (i : ℕ) → i < t.count → (w : ℕ) × Worst t rank i w
  worst_of i l = worst_exists S met_of_passed i l (cycle_of t r rank)
