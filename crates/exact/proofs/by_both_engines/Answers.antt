-- One answer is permitted.
use Rattle.backlog.proofs.Unique.{permitted_unique}
use Rattle.exact.proofs.by_both_engines.Goals as goal

pub returns : goal.returns
returns c = (c.test.ensures, permitted_unique _ _ _ _ c.test.ensures c.test-2.ensures)
