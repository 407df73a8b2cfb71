-- The owner is a task, or none.
use borrow.Author.Tests.{le-ltb}
use native.Mathlib.Omega.{arith}
use Rattle.dispatch.specs.Accounts.{counted, counted_owner}
use Rattle.dispatch.proofs.count_given.Goals as goal

pub overflow_add-given : goal.overflow_add-given
overflow_add-given c = omega (arith, c.requires c.if-owner-lt-NO_TASK.true)

pub returns-then-owner-lt-NO_TASK : goal.returns-then-owner-lt-NO_TASK
returns-then-owner-lt-NO_TASK c = counted_owner _ _ _ c.if-owner-lt-NO_TASK.true (omega arith)

pub returns-else-owner-lt-NO_TASK : goal.returns-else-owner-lt-NO_TASK
unfolding counted
returns-else-owner-lt-NO_TASK c = simp (le-ltb _ _ c.if-owner-lt-NO_TASK.false)
