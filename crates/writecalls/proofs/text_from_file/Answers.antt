-- What was said is told.
use Rattle.writecalls.proofs.text_from_file.Goals as goal

pub returns : goal.returns
returns c = rw (← c.text_of.ensures) (c.told.ensures _)
