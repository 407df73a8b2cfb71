-- Each part is read by itself.
use Rattle.model.specs.StateBuffer.{state_in}
use Rattle.statebuffer.proofs.state_in.Goals as goal

pub returns : goal.returns
unfolding state_in
returns c =
    rw (c.words_in.ensures, c.words_in-2.ensures, c.word_at.ensures, c.counts_in.ensures, c.long_at.ensures)
