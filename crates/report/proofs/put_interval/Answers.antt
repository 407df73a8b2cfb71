use Rattle.std.specs.Prelude.{◌++◌}
use Rattle.std.proofs.Common.{List, ℕ, append_assoc}
use Rattle.model.specs.Notation.{text, decimal}
use Rattle.model.specs.Report.{line}
use Rattle.words.specs.Out.{Fits, both, first, second}
use Rattle.report.proofs.put_interval.Goals.{Start}
use Rattle.report.proofs.put_interval.Goals as goal

-- The words are put in three pieces.
abbrev pieces : ℕ → ℕ → ℕ → List ℕ
pieces from to demand = text "interval " ++ decimal from ++ ((text " " ++ decimal to) ++ line (text " demand " ++ decimal demand))

room : (c : Start) → Fits (pieces c.args.from c.args.to c.args.demand) c.args.out.now
room c = simp append_assoc (simp append_assoc at c.requires)

pub put_number-requires : goal.put_number-requires
unfolding text
put_number-requires c = first _ (room (goal.at.put_number-requires c).Start)

pub put_number-requires-2 : goal.put_number-requires-2
unfolding text
put_number-requires-2 c = first _ (second c.put_number.ensures (room (goal.at.put_number-requires-2 c).Start))

pub put_line-requires : goal.put_line-requires
unfolding text
put_line-requires c = second c.put_number-2.ensures (second c.put_number.ensures (room (goal.at.put_line-requires c).Start))

pub returns : goal.returns
unfolding text
returns c = simp append_assoc (both c.put_number.ensures (both c.put_number-2.ensures c.put_line.ensures))
