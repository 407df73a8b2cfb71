-- The demand so far is the sum over the tasks read, and fits.
use mathlib.Core.Path.{◌≡◌}
use Prim.Native.Nat.{◌≤◌, ◌*◌}
use Rattle.model.specs.Notation.{sum}
use Rattle.wellformed.specs.Demand.{asks, asks_limit}
use Rattle.intervals.proofs.demand.Given as goal

abbrev pub invariant-loop-task : goal.invariant-loop-task
invariant-loop-task l = (l.asked ≤ l.task-index * asks_limit) × (l.asked ≡ sum l.task-index (asks l.fn.t l.from l.to))
