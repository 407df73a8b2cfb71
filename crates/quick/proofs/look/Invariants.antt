-- What is asked for so far is the sum over the tasks read, and fits; so does each next deadline.
use mathlib.Core.Path.{◌≡◌}
use Prim.Native.Nat.{◌≤◌, ◌*◌}
use Rattle.model.specs.Notation.{sum}
use Rattle.patterns.specs.Asked.{asked_of}
use Rattle.quick.specs.Fits.{asked_limit}
use Rattle.quick.proofs.look.Given as goal

abbrev pub invariant-loop-task : goal.invariant-loop-task
invariant-loop-task l = (l.asked ≤ l.task-index * asked_limit) × (l.asked ≡ sum l.task-index (asked_of l.fn.t l.u))
