-- The dispatcher, and what is kept beside it.
use mathlib.Core.Path.{ap, ◌∙◌}
use Rattle.model.specs.Dispatcher.{State}
use Rattle.model.specs.StateBuffer.{state_in}
use Rattle.model.specs.LogBuffer.{log_in}
use Rattle.slotlog.specs.State.{joined}
use Rattle.logbuffer.proofs.log_in.Goals as goal

pub returns : goal.returns
unfolding log_in
returns c = ap (λ (d : State). joined d c.reading_in-reading.result) c.state_in-state.ensures
    ∙ ap (joined (state_in c.args.buffer.now)) c.reading_in-reading.ensures
