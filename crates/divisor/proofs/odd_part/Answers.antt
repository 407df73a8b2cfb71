-- The lowest zeros are shifted out. A number that is not 0 has fewer of them than bits.
use native.Mathlib.Omega.{arith}
use Rattle.divisor.specs.Halves.{odd_part_shift}
use Rattle.divisor.proofs.odd_part.Goals as goal

pub returns : goal.returns
returns c = odd_part_shift 64 c.args.n c.requires (omega arith)
