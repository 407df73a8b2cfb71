-- The line decides.
use mir.Val.{bool_byte}
use mathlib.Core.Bool.{Bool, true, false}
use mathlib.Core.Path.{◌≡◌, refl}
use Rattle.std.specs.Prelude.{cond}
use Rattle.model.specs.Notation.{text}
use Rattle.model.specs.PlainText.{lines_of}
use Rattle.model.specs.ReportRead.{has_line}
use borrow.Author.Tests.{le-leb}
use Rattle.checkcalls.proofs.passes.Goals as goal

as_number : (b : Bool) → bool_byte b ≡ cond b 1 0
as_number true = refl
as_number false = refl

pub returns : goal.returns
unfolding text
returns c =
    rw (le-leb _ _ c.if-report-gt-REPORT_BYTES.false, c.from.ensures, c.has_line.ensures)
    (as_number (has_line (text "verdict passes") (lines_of c.args.report.now)))
