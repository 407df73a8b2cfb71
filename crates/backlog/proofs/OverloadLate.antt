-- OVERLOAD MAKES LATE (`overload_late`): a table that keeps its ranges and has a load above 1 has a late deadline.
use Rattle.std.specs.Prelude.{ℕ, ◌<◌, T}
use Rattle.std.proofs.Common.{arith}
use Rattle.values.specs.declared.Table.{Table}
use Rattle.model.specs.Tasks.{round, load}
use Rattle.model.specs.Demand.{late_at}
use Rattle.model.specs.Run.{tie_order}
use Rattle.wellformed.specs.Ranges.{Ranged}
use Rattle.backlog.proofs.Overload.{over_of_load}
use Rattle.backlog.proofs.TableSystem.{load_is, tie_system, tie_cycle}
use Rattle.backlog.proofs.EveryInstant.{over_iff}

pub overload_late : (t : Table) (r : Ranged t) → round t < load t → (to : ℕ) × T (late_at t to)
overload_late t r heavy =
    let (u, o) = over_of_load (tie_system t r) (tie_cycle t r) (omega (arith, load_is t r (tie_order t))) in
    (u, (over_iff (tie_system t r) u).1 o)
