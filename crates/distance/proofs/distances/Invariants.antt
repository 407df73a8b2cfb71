-- The loop has the distances of the tasks that it has passed.
use mathlib.Core.Path.{◌≡◌}
use Rattle.model.specs.Tasks.{task}
use Rattle.model.specs.Patterns.{distance}
use Rattle.slots.specs.Columns.{column}
use Rattle.distance.proofs.distances.Given as goal

abbrev pub invariant-loop-k : goal.invariant-loop-k
invariant-loop-k l = l.start ≡ column l.k (λ k. distance (task l.fn.t l.fn.i) (task l.fn.t k))
