-- There is a report, or none.
use Rattle.dispatch.proofs.hear_report.Goals as goal

pub returns-then-done : goal.returns-then-done
returns-then-done c = rw c.if-done.true c.close.ensures
