-- Above the limit, a multiple already, or by the greatest common divisor.
use native.Mathlib.Omega.{arith}
use Rattle.counting.specs.Divisors.{gcd_pos, lcm_by, lcm_multiple}
use Rattle.wellformed.specs.Round.{multiple_le}
use Rattle.table.proofs.common_multiple.Goals as goal

pub returns-then-round-period-eq0 : goal.returns-then-round-period-eq0
returns-then-round-period-eq0 c = (λ l. lcm_multiple c.args.round c.args.period c.if-round-period-eq0.true, λ l. absurd (omega arith))

pub nonzero_div-result : goal.nonzero_div-result
nonzero_div-result c = gcd_pos c.divisor.ensures c.requires.0

pub overflow_mul-result : goal.overflow_mul-result
overflow_mul-result c = omega (arith, multiple_le c.args.round c.divisor.result c.args.period (omega arith) c.requires.1)

pub returns : goal.returns
returns c = (λ l. lcm_by c.divisor.ensures, λ l. absurd (omega arith))
