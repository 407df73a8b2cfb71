-- The last bit of the set moved down to i.
use Prim.Native.Nat.{◌/◌, ◌^◌}
use lib.Bits.{and_mask}
use Rattle.slots.proofs.is_member.Goals as goal

pub returns : goal.returns
returns c = rw (and_mask (c.args.set / 2 ^ c.args.i) 1)
