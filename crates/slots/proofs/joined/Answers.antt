-- The bit i stands above the others.
use native.Mathlib.Omega.{arith}
use Rattle.counting.specs.Bits.{set_bit}
use Rattle.slots.proofs.joined.Goals as goal

pub returns-then-member : goal.returns-then-member
returns-then-member c = simp c.if-member.true (omega (arith, set_bit _ _ (omega arith) c.requires.1))

pub returns-else-member : goal.returns-else-member
returns-else-member c = simp c.if-member.false (omega arith)
