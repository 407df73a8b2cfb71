-- Reading on from the lines that are left makes the form of the text. The measure is what is left of it.
use Rattle.std.proofs.Common.{◌≤◌, length}
use Rattle.std.specs.Option.{is_some, unwrap_or}
use Rattle.model.specs.PlainText.{lines_of, largest_budget}
use Rattle.plaintext.specs.Lines.{Reached}
use Rattle.plaintext.proofs.form_of.Given as goal

abbrev pub invariant-loop-entry : goal.invariant-loop-entry
invariant-loop-entry l = record {
  part : length l.left ≤ length l.text;
  reached : Reached l.text (is_some l.budget) (unwrap_or l.budget largest_budget) l.table l.line (lines_of l.left);
}

abbrev pub decreases-loop-entry : goal.decreases-loop-entry
decreases-loop-entry l = length l.left
