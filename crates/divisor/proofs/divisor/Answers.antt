-- The divisor of the odd parts, doubled as often as both numbers are, is that of the numbers.
use native.Mathlib.Omega.{arith}
use Rattle.divisor.specs.Halves.{gcd_none, gcd_shifted}
use Rattle.divisor.proofs.divisor.Goals as goal

pub returns-then-a-eq0 : goal.returns-then-a-eq0
returns-then-a-eq0 c = gcd_none (omega arith) (omega arith)

pub returns : goal.returns
returns c =
    gcd_shifted (omega arith) c.odd_part.ensures c.odd_part-2.ensures c.odd_divisor.ensures
    (omega (arith, c.shared_twos.ensures))
