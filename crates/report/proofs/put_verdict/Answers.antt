use Rattle.model.specs.Notation.{text}
use Rattle.report.proofs.put_verdict.Goals as goal

pub put-requires : goal.put-requires
unfolding text
put-requires c = rw c.in-Passes.is at c.requires

pub put-requires-in-Overload : goal.put-requires-in-Overload
unfolding text
put-requires-in-Overload c = rw c.in-Overload.is at c.requires

pub put-requires-in-Late : goal.put-requires-in-Late
unfolding text
put-requires-in-Late c = rw c.in-Late.is at c.requires

pub put-requires-in-Undecided : goal.put-requires-in-Undecided
unfolding text
put-requires-in-Undecided c = rw c.in-Undecided.is at c.requires

pub returns-in-Passes : goal.returns-in-Passes
unfolding text
returns-in-Passes c = rw c.in-Passes.is c.put.ensures

pub returns-in-Overload : goal.returns-in-Overload
unfolding text
returns-in-Overload c = rw c.in-Overload.is c.put-in-Overload.ensures

pub returns-in-Late : goal.returns-in-Late
unfolding text
returns-in-Late c = rw c.in-Late.is c.put-in-Late.ensures

pub returns-in-Undecided : goal.returns-in-Undecided
unfolding text
returns-in-Undecided c = rw c.in-Undecided.is c.put-in-Undecided.ensures
