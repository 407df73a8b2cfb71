-- What is left has the line exactly if the text has it. The measure is what is left of it.
use mathlib.Core.Path.{◌≡◌}
use Prim.Native.Nat.{◌≤◌}
use lib.ListN.{length}
use Rattle.model.specs.PlainText.{lines_of}
use Rattle.model.specs.ReportRead.{has_line}
use Rattle.pieces.proofs.has_line.Given as goal

abbrev pub invariant-loop-line : goal.invariant-loop-line
invariant-loop-line l = (length l.left ≤ length l.text) × (has_line l.line (lines_of l.left) ≡ has_line l.line (lines_of l.text))

abbrev pub decreases-loop-line : goal.decreases-loop-line
decreases-loop-line l = length l.left
