-- A task has its slots closed, and no task has none.
use borrow.Author.Tests.{lt-ltb, le-ltb}
use Rattle.slots.specs.Slot.{closed}
use Rattle.slots.proofs.close.Goals as goal

pub returns-then-task-lt-NO_TASK : goal.returns-then-task-lt-NO_TASK
unfolding closed
returns-then-task-lt-NO_TASK c = simp (lt-ltb _ _ c.if-task-lt-NO_TASK.true)

pub returns-else-task-lt-NO_TASK : goal.returns-else-task-lt-NO_TASK
unfolding closed
returns-else-task-lt-NO_TASK c = simp (le-ltb _ _ c.if-task-lt-NO_TASK.false)
