-- What is left and what was taken make what can be counted.
use Rattle.std.proofs.Common.{arith, length}
use Rattle.belonging.specs.Room.{room_start, room_again, room_beyond, room_end}
use Rattle.belonging.proofs.room_for.Goals as goal

pub loop-slots-init : goal.loop-slots-init
loop-slots-init c = room_start c.args.given.now c.args.empty (omega arith)

pub returns-then-room-slots : goal.returns-then-room-slots
returns-then-room-slots c =
    rw c.strange_state.ensures (room_beyond _ _ _ _ _ c.loop-slots.invariant c.loop-slots-test.true c.if-room-slots.true)

pub loop-slots-preserved : goal.loop-slots-preserved
loop-slots-preserved c = room_again _ _ (length c.args.given.now) _ c.loop-slots.room c.loop-slots.invariant (omega arith)

pub returns : goal.returns
returns c = room_end _ _ _ _ _ c.loop-slots.invariant (omega arith)
