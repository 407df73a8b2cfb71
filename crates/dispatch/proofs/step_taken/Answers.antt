-- The rules, and the slot counted.
use Rattle.std.proofs.Common.{arith}
use Rattle.model.specs.Dispatcher.{slot_count}
use Rattle.dispatch.specs.Step.{owner_room, taken_is}
use Rattle.dispatch.proofs.step_taken.Goals as goal

-- What the lists are then, of any such table, is what `advance` says.
pub count_given-requires : goal.count_given-requires
count_given-requires c =
    let (t, unpacked, unrefused) = c.requires in
    owner_room t _ _ unrefused _ (c.advance-owner.ensures t unpacked unrefused)

pub count_empty-requires : goal.count_empty-requires
unfolding slot_count
count_empty-requires c =
    let (t, unpacked, unrefused) = c.requires in
    omega (arith, unrefused.room)

pub returns : goal.returns
returns c t unpacked unrefused =
    taken_is t c.args.d c.args.done unrefused c.advance-owner.result (c.advance-owner.ensures t unpacked unrefused)
    c.count_given.ensures c.turn_of.ensures c.count_empty.ensures
