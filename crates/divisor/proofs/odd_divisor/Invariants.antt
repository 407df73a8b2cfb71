-- The larger of two odd numbers gives way to the odd part of their difference. The sum falls at each turn.
use Prim.Native.Nat.{◌+◌}
use Rattle.divisor.specs.Halves.{Odds}
use Rattle.divisor.proofs.odd_divisor.Given as goal

abbrev pub invariant-loop-x : goal.invariant-loop-x
invariant-loop-x l = Odds l.a l.b l.x l.y

abbrev pub decreases-loop-x : goal.decreases-loop-x
decreases-loop-x l = l.x + l.y
