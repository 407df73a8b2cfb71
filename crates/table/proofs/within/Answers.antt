use borrow.Author.Tests.{le-leb, lt-leb}
use Rattle.table.proofs.within.Goals as goal

pub returns-then-least-x : goal.returns-then-least-x
returns-then-least-x c = rw (le-leb _ _ c.if-least-x.true)

pub returns-else-least-x : goal.returns-else-least-x
returns-else-least-x c = rw (lt-leb _ _ c.if-least-x.false)
