-- The length decides first.
use borrow.Author.Tests.{eq-eqb, ne_eqb}
use Rattle.numbers.proofs.form_for.Goals as goal

pub returns-then-bytes-wanted : goal.returns-then-bytes-wanted
returns-then-bytes-wanted c = rw (ne_eqb _ _ c.if-bytes-wanted.true, c.refused_file.ensures, c.refusal_at.ensures)

pub returns : goal.returns
returns c = rw (eq-eqb _ _ c.if-bytes-wanted.false) c.form_of.ensures
