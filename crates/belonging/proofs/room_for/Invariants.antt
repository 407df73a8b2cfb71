-- What is left and what was taken make what can be counted.
use Rattle.belonging.specs.Room.{Left}
use Rattle.belonging.proofs.room_for.Given as goal

abbrev pub invariant-loop-slots : goal.invariant-loop-slots
invariant-loop-slots l = Left l.given l.empty l.slots-index l.room
