-- The waits are the offsets.
use Rattle.model.specs.Dispatcher.{start_of}
use Rattle.dispatch.proofs.first_state.Goals as goal

pub returns : goal.returns
unfolding start_of
returns c = rw c.offsets.ensures
