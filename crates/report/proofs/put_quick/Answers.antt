use Rattle.model.specs.Notation.{text}
use Rattle.report.proofs.put_quick.Goals as goal

pub put-requires : goal.put-requires
unfolding text
put-requires c = rw c.if-quick.true at c.requires

pub put-requires-else-quick : goal.put-requires-else-quick
unfolding text
put-requires-else-quick c = rw c.if-quick.false at c.requires

pub returns-then-quick : goal.returns-then-quick
unfolding text
returns-then-quick c = rw c.if-quick.true c.put.ensures

pub returns-else-quick : goal.returns-else-quick
unfolding text
returns-else-quick c = rw c.if-quick.false c.put-else-quick.ensures
