-- The loop has put the number for the set's members among the tasks that it has passed.
use mathlib.Core.Path.{◌≡◌}
use mathlib.Core.Bool.{cond}
use Rattle.model.specs.Notation.{in_set, fill}
use Rattle.slots.specs.Slot.{at}
use Rattle.slots.proofs.put_all.Given as goal

abbrev pub invariant-loop-i : goal.invariant-loop-i
invariant-loop-i l = l.own-items ≡ fill l.i (λ k. cond (in_set l.set k) l.number (at l.initial.own-items k)) l.initial.own-items
