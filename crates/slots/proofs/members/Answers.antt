-- The loop has the members among those that it has passed.
use Rattle.std.proofs.Common.{ℕ, Bool, ◌&&◌, ltb, arith, lt-ltb, ◌^◌, ◌+◌, ◌*◌, ◌<◌, true, false, add-one}
use Rattle.model.specs.Notation.{bit}
use Rattle.counting.specs.Bits.{bits_none, bits_more}
use Rattle.slots.specs.Laws.{found_done}
use Rattle.slots.proofs.members.Goals as goal

-- One member more keeps the set below the next power.
below_next : (b : Bool) (i set : ℕ) → set < 2 ^ i → set + bit b * 2 ^ i < 2 ^ (i + 1)
below_next true i set h = rw (add-one i) (omega arith)
below_next false i set h = rw (add-one i) (omega arith)

pub loop-i-init : goal.loop-i-init
loop-i-init g c = (omega arith, λ p h. bits_none _)

pub joined-set-requires : goal.joined-set-requires
joined-set-requires g c = (omega (arith, c.requires.few), c.loop-i.invariant.0)

pub loop-i-preserved : goal.loop-i-preserved
loop-i-preserved g c = let l = lt-ltb c.loop-i.i c.args.n (omega arith) in (
  rw c.joined-set.ensures (below_next _ _ _ c.loop-i.invariant.0),
  λ p h. bits_more (λ k. ltb k c.args.n && p k) _ (c.loop-i.invariant.1 p h) (rw (c.joined-set.ensures, l, h c.loop-i.i _ (omega arith) c.is_member.ensures)),
)

pub returns : goal.returns
returns g c p h = found_done p _ _ (omega arith) (omega arith) c.requires.few (c.loop-i.invariant.1 p h)
