-- The larger of two odd numbers gives way to the odd part of their difference. The sum falls at each turn.
use native.Mathlib.Omega.{arith}
use Rattle.divisor.specs.Halves.{odds_right, odds_left, odds_end}
use Rattle.divisor.proofs.odd_divisor.Goals as goal

pub loop-x-preserved-then-x-y : goal.loop-x-preserved-then-x-y
loop-x-preserved-then-x-y c = odds_right c.loop-x.invariant c.odd_part-y.ensures (omega arith)

pub loop-x-preserved : goal.loop-x-preserved
loop-x-preserved c = odds_left c.loop-x.invariant c.odd_part-x.ensures (omega arith)

pub returns : goal.returns
returns c = odds_end c.loop-x.invariant (omega arith)
