-- By the kind of the byte that stands there.
use borrow.Author.Rules.{part_to_end}
use borrow.Author.Tests.{eq-eqb, ne_eqb, le-leb, lt-leb}
use Rattle.tablefile.specs.Kinds.{kind_is, no_kind}
use Rattle.tablefile.specs.Reading.{reading_at}
use Rattle.tablefile.proofs.reading_at.Goals as goal

pub returns-then-at-eq0 : goal.returns-then-at-eq0
unfolding reading_at
returns-then-at-eq0 c = simp (c.refusal.ensures, le-leb _ _ c.if-file-at.true, eq-eqb _ _ c.if-at-eq0.true)

pub returns-then-file-at : goal.returns-then-file-at
unfolding reading_at
returns-then-file-at c = simp (c.refusal-then-file-at.ensures, le-leb _ _ c.if-file-at.true, ne_eqb _ _ c.if-at-eq0.false)

pub returns-in-Ok-Budget : goal.returns-in-Ok-Budget
unfolding reading_at
returns-in-Ok-Budget c =
    simp (lt-leb _ _ c.if-file-at.false, kind_is _ _ _ _ c.in-Ok-Budget.is c.in-Ok-Budget.field-0-is c.try_from.ensures)
    (simp part_to_end at c.budget_reading.ensures)

pub returns-in-Ok-Task : goal.returns-in-Ok-Task
unfolding reading_at
returns-in-Ok-Task c =
    simp (lt-leb _ _ c.if-file-at.false, kind_is _ _ _ _ c.in-Ok-Task.is c.in-Ok-Task.field-0-is c.try_from.ensures)
    (simp part_to_end at c.task_reading.ensures)

pub returns-in-Ok-Button : goal.returns-in-Ok-Button
unfolding reading_at
returns-in-Ok-Button c =
    simp (lt-leb _ _ c.if-file-at.false, kind_is _ _ _ _ c.in-Ok-Button.is c.in-Ok-Button.field-0-is c.try_from.ensures)
    (simp part_to_end at c.task_reading-in-Ok-Button.ensures)

pub returns-in-Ok-End : goal.returns-in-Ok-End
unfolding reading_at
returns-in-Ok-End c =
    simp (lt-leb _ _ c.if-file-at.false, kind_is _ _ _ _ c.in-Ok-End.is c.in-Ok-End.field-0-is c.try_from.ensures)
    (simp part_to_end at c.end_reading.ensures)

pub returns-in-Err : goal.returns-in-Err
unfolding reading_at
returns-in-Err c =
    let none = no_kind _ _ _ c.in-Err.is c.try_from.ensures in
    simp (lt-leb _ _ c.if-file-at.false, none.0, none.1, none.2, none.3, c.refusal-in-Err.ensures)
