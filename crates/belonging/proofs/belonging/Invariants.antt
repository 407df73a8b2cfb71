-- The loop has passed no task that does not belong; then the other two ways out of the tests.
use Rattle.model.specs.Dispatcher.{strange}
use Rattle.counting.specs.Search.{NoneFrom}
use Rattle.belonging.proofs.belonging.Given as goal

abbrev pub invariant-loop-i : goal.invariant-loop-i
invariant-loop-i l = NoneFrom (strange l.fn.t l.fn.d) 0 l.i
