-- The budget's line, then those of the tasks.
use native.Mathlib.Omega.{arith}
use Rattle.model.specs.Notation.{text}
use Rattle.model.specs.PlainText.{text_of}
use Rattle.model.specs.Writer.{tasks_of}
use Rattle.words.specs.Out.{Fits, Puts, fresh, both, first, second}
use Rattle.plaintext.specs.Texts.{text_short}
use Rattle.plaintext.proofs.put_text.Goals.{After-new-out}
use Rattle.plaintext.proofs.put_text.Goals as goal

room : (c : After-new-out) → Fits (text_of c.args.budget (tasks_of c.args.table)) c.new-out.result
room c =
    let short = text_short c.args.table c.args.budget c.requires.ranged (omega arith) in
    fresh c.new-out.ensures.at c.new-out.ensures.buffer (omega (arith, short, c.requires.longest_text_in_bounds))

pub put_line-requires : goal.put_line-requires
unfolding text
put_line-requires c = first _ (room (goal.at.put_line-requires c).After-new-out)

pub put_tasks-requires : goal.put_tasks-requires
unfolding text
put_tasks-requires c = second c.put_line.ensures (room (goal.at.put_tasks-requires c).After-new-out)

pub returns : goal.returns
unfolding text
returns c =
    let all : Puts (text_of c.args.budget (tasks_of c.args.table)) c.new-out.result c.put_tasks.new.out = both c.put_line.ensures c.put_tasks.ensures in
    let put = all.put in
    let same = all.same_reference in
    let place = put.place in
    let short = text_short c.args.table c.args.budget c.requires.ranged (omega arith) in
    record { put = grind arith; upper_bound = omega arith }
