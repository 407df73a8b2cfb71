-- The loop has the tasks that it has passed with their new offsets.
use mathlib.Core.Path.{◌≡◌}
use Rattle.model.specs.Notation.{fill}
use Rattle.model.specs.Tasks.{task}
use Rattle.patterns.specs.Starting.{starting_task}
use Rattle.slots.specs.Slot.{at}
use Rattle.calm.proofs.starting.Given as goal

abbrev pub invariant-loop-i : goal.invariant-loop-i
invariant-loop-i l =
    (l.started.count ≡ l.fn.t.count) × (l.started.tasks ≡ fill l.i (λ k. starting_task (at l.offsets k) (task l.fn.t k)) l.fn.t.tasks)
