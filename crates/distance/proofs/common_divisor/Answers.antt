-- There is one greatest common divisor, and it is at most the first number.
use native.Mathlib.Nat.{le_of_dvd}
use native.Mathlib.Omega.{arith}
use Rattle.counting.specs.Divisors.{gcd_unique}
use Rattle.patterns.proofs.Distance.{divisor_is}
use Rattle.distance.proofs.common_divisor.Goals as goal

pub overflow_cast-result : goal.overflow_cast-result
overflow_cast-result c = omega (arith, le_of_dvd c.requires (rw c.from.ensures at c.divisor.ensures.divides_left))

pub returns : goal.returns
returns c = gcd_unique (rw (c.from.ensures, c.from-2.ensures) at c.divisor.ensures) (divisor_is _ _ c.requires)
