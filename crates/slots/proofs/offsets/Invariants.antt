-- The loop has the offsets of the tasks that it has passed.
use mathlib.Core.Path.{◌≡◌}
use Rattle.model.specs.Tasks.{task, offset}
use Rattle.slots.specs.Columns.{column}
use Rattle.slots.proofs.offsets.Given as goal

abbrev pub invariant-loop-i : goal.invariant-loop-i
invariant-loop-i l = l.wait ≡ column l.i (λ k. offset (task l.fn.t k))
