use Rattle.model.specs.Notation.{text}
use Rattle.words.specs.Out.{both, second}
use Rattle.text.proofs.put_line.Goals as goal

pub put-requires : goal.put-requires
unfolding text
put-requires c = second c.put_number.ensures c.requires

pub returns : goal.returns
unfolding text
returns c = both c.put_number.ensures c.put.ensures
