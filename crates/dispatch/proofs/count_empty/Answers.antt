-- The slot is empty, or not.
use borrow.Author.Tests.{eq-eqb, ne_eqb}
use native.Mathlib.Omega.{arith}
use Rattle.dispatch.proofs.count_empty.Goals as goal

pub returns-then-owner-eq-NO_TASK : goal.returns-then-owner-eq-NO_TASK
returns-then-owner-eq-NO_TASK c = rw (eq-eqb _ _ c.if-owner-eq-NO_TASK.true)

pub returns-else-owner-eq-NO_TASK : goal.returns-else-owner-eq-NO_TASK
returns-else-owner-eq-NO_TASK c = rw (ne_eqb _ _ c.if-owner-eq-NO_TASK.false) (omega arith)
