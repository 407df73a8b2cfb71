-- The parts stand one after another, and fill the buffer.
use Rattle.std.proofs.Common.{sym, ◌∙◌, arith}
use Rattle.model.specs.LogBuffer.{log_buffer_of}
use Rattle.slotlog.specs.Fits.{Sized}
use Rattle.slotlog.specs.State.{log_state_of}
use Rattle.counting.specs.Put.{Put}
use Rattle.words.specs.Out.{Fits, Puts, fresh, both, first, second}
use Rattle.statebuffer.specs.Words.{whole}
use Rattle.logbuffer.specs.Parts.{log_length}
use borrow.Author.Rules.{rules}
use Rattle.logbuffer.proofs.write_log.Goals.{Start, After-new-out}
use Rattle.logbuffer.proofs.write_log.Goals as goal

-- The arrays of the state have their length.
sizes : (c : Start) → Sized c.args.log.state
sizes c = record { waits = search rules; lefts = search rules; gives = search rules }

room : (c : After-new-out) → Fits (log_buffer_of (log_state_of c.args.log)) c.new-out.result
room c =
    let long = log_length (log_state_of c.args.log) (sizes (goal.at.After-new-out c).Start) in
    fresh c.new-out.ensures.at c.new-out.ensures.buffer (omega (arith, long, c.requires))

pub put_state-requires : goal.put_state-requires
unfolding log_buffer_of
put_state-requires c = rw c.quiet.ensures (first _ (first _ (first _ (room (goal.at.put_state-requires c).After-new-out))))

pub put_words-requires : goal.put_words-requires
unfolding log_buffer_of
put_words-requires c =
    second (rw c.quiet.ensures at c.put_state.ensures) (first _ (first _ (room (goal.at.put_words-requires c).After-new-out)))

pub put_long-requires : goal.put_long-requires
unfolding log_buffer_of
put_long-requires c =
    let two = both (rw c.quiet.ensures at c.put_state.ensures) c.put_words.ensures in
    second two (first _ (room (goal.at.put_long-requires c).After-new-out))

pub put_long-requires-2 : goal.put_long-requires-2
unfolding log_buffer_of
put_long-requires-2 c =
    let two = both (rw c.quiet.ensures at c.put_state.ensures) c.put_words.ensures in
    second (both two c.put_long.ensures) (room (goal.at.put_long-requires-2 c).After-new-out)

pub returns : goal.returns
unfolding log_buffer_of
returns c =
    let two = both (rw c.quiet.ensures at c.put_state.ensures) c.put_words.ensures in
    let all : Puts (log_buffer_of (log_state_of c.args.log)) c.new-out.result c.put_long-2.new.self = both (both two c.put_long.ensures) c.put_long-2.ensures in
    let put = all.put in
    let same = all.same_reference in
    let at_end : Put (log_buffer_of (log_state_of c.args.log)) 0 c.args.buffer.now _ c.put_long-2.new.self.at = grind arith in
    whole at_end (c.requires ∙ sym (log_length (log_state_of c.args.log) (sizes (goal.at.returns c).Start)))
