-- What was said is told.
use Rattle.writecalls.proofs.file_from_text.Goals as goal

pub returns : goal.returns
returns c = rw (← c.file_of.ensures) (c.told.ensures _)
