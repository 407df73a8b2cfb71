-- Each turn keeps what the search has found.
use Rattle.easing.specs.Searching.{Searching}
use Rattle.easing.proofs.compare.Given as goal

abbrev pub invariant-loop-i : goal.invariant-loop-i
invariant-loop-i l = Searching l.old l.fn.new l.i l.kept l.from
