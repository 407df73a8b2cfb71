-- The turn is made from what the releases leave.
use Rattle.leaps.proofs.Leaping.{due_now, ready_now}
use Rattle.leaps.proofs.leap.Goals as goal

pub release_all-requires : goal.release_all-requires
release_all-requires c = (due_now c.requires.0, c.requires.1)

pub turn-requires : goal.turn-requires
turn-requires c = rw c.release_all.ensures.worst (ready_now c.requires.0 c.release_all.ensures.held.0, c.release_all.ensures.held.1)
