-- The bit k stands above the others.
use native.Mathlib.Omega.{arith}
use Rattle.counting.specs.Bits.{set_bit}
use Rattle.easing.proofs.with_task.Goals as goal

pub returns : goal.returns
returns c = set_bit _ _ (omega arith) c.requires.1
