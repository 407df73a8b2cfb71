use Rattle.model.specs.Notation.{text}
use Rattle.words.specs.Out.{none, both, first, second}
use Rattle.report.proofs.put_details.Goals as goal

pub put_worst_lines-requires-clause-room : goal.put_worst_lines-requires-clause-room
put_worst_lines-requires-clause-room c = first _ (rw c.in-Passes.is at c.requires.room)

pub put_line-requires : goal.put_line-requires
unfolding text
put_line-requires c = second c.put_worst_lines.ensures.put (rw c.in-Passes.is at c.requires.room)

pub put_interval-requires : goal.put_interval-requires
put_interval-requires c = rw c.in-Late.is at c.requires.room

pub returns-in-Passes : goal.returns-in-Passes
unfolding text
returns-in-Passes c = rw c.in-Passes.is (both c.put_worst_lines.ensures.put c.put_line.ensures)

pub returns-in-Overload : goal.returns-in-Overload
returns-in-Overload c = rw c.in-Overload.is (none _)

pub returns-in-Late : goal.returns-in-Late
returns-in-Late c = rw c.in-Late.is c.put_interval.ensures

pub returns-in-Undecided : goal.returns-in-Undecided
returns-in-Undecided c = rw c.in-Undecided.is (none _)
