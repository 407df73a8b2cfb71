-- The rules, and the slot counted.
use Rattle.std.proofs.Common.{arith}
use Rattle.model.specs.Dispatcher.{slot_count}
use Rattle.presses.specs.Step.{owner_room, taken_is}
use Rattle.presses.proofs.step_taken.Goals as goal

pub count_given-requires : goal.count_given-requires
count_given-requires c = owner_room _ _ _ _ c.requires _ c.advance-owner.ensures

pub count_empty-requires : goal.count_empty-requires
unfolding slot_count
count_empty-requires c = omega (arith, c.requires.room)

pub returns : goal.returns
returns c =
    let s = c.args in
    taken_is s.t s.d s.done s.pressed c.requires c.advance-owner.result c.advance-owner.ensures
    c.count_given.ensures c.turn_of.ensures c.count_empty.ensures
