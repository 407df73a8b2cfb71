-- Each return rewrites with the tests that led to it.
use Rattle.model.specs.Tasks.{task_fault}
use Rattle.table.proofs.check_ranges.Goals as goal

pub returns-then-not-within : goal.returns-then-not-within
unfolding task_fault
returns-then-not-within c = rw (c.new.ensures, rw c.within.ensures at c.if-not-within.true)

pub returns-then-not-within-2 : goal.returns-then-not-within-2
unfolding task_fault
returns-then-not-within-2 c =
    rw (c.new-then-not-within-2.ensures, rw c.within.ensures at c.if-not-within.false, rw c.within-2.ensures at c.if-not-within-2.true)

pub returns-then-not-within-3 : goal.returns-then-not-within-3
unfolding task_fault
returns-then-not-within-3 c =
    rw (
      c.new-then-not-within-3.ensures,
      rw c.within.ensures at c.if-not-within.false,
      rw c.within-2.ensures at c.if-not-within-2.false,
      rw c.within-3.ensures at c.if-not-within-3.true,
    )

pub returns-then-not-within-4 : goal.returns-then-not-within-4
unfolding task_fault
returns-then-not-within-4 c =
    rw (
      c.new-then-not-within-4.ensures,
      rw c.within.ensures at c.if-not-within.false,
      rw c.within-2.ensures at c.if-not-within-2.false,
      rw c.within-3.ensures at c.if-not-within-3.false,
      rw (c.within-4.ensures, c.offset_of.ensures) at c.if-not-within-4.true,
    )

pub returns : goal.returns
unfolding task_fault
returns c =
    rw (
      rw c.within.ensures at c.if-not-within.false,
      rw c.within-2.ensures at c.if-not-within-2.false,
      rw c.within-3.ensures at c.if-not-within-3.false,
      rw (c.within-4.ensures, c.offset_of.ensures) at c.if-not-within-4.false,
    )
