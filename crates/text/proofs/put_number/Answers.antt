use Rattle.words.specs.Out.{both, second}
use Rattle.text.proofs.put_number.Goals as goal

pub put_decimal-requires : goal.put_decimal-requires
put_decimal-requires c = second c.put.ensures c.requires

pub returns : goal.returns
returns c = both c.put.ensures c.put_decimal.ensures
