-- ANY ORDER (`good_any_order`): if the run is good in one order of a table's tasks, so it is in any other.
use Rattle.std.proofs.Common.{le_refl}
use Rattle.values.specs.declared.Table.{Table}
use Rattle.model.specs.Tasks.{horizon}
use Rattle.model.specs.Schedule.{Good}
use Rattle.model.specs.Run.{Order, run}
use Rattle.wellformed.specs.Ranges.{Ranged}
use Rattle.backlog.proofs.Sufficient.{sufficient}
use Rattle.backlog.proofs.TableSystem.{system_of}
use Rattle.backlog.proofs.Passes.{never_of_passed, passes_iff}

pub good_any_order : (t : Table) → Ranged t → (rank other : Order) → Good t (run t rank) → Good t (run t other)
good_any_order t r rank other g =
    let passes = (passes_iff t r (horizon t) (le_refl (horizon t))).1 (run t rank, g) in
    sufficient (system_of t r other) (never_of_passed t r (horizon t) passes).1
