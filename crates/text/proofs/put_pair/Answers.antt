use Rattle.std.proofs.Common.{◌≡◌}
use Rattle.std.specs.Prelude.{◌++◌}
use Rattle.model.specs.Notation.{decimal}
use Rattle.model.specs.Report.{line}
use Rattle.text.specs.Pieces.{line_end}
use Rattle.words.specs.Out.{both, second}
use Rattle.text.proofs.put_pair.Goals.{Start}
use Rattle.text.proofs.put_pair.Goals as goal

apart : (c : Start) → line (c.args.name.now ++ decimal c.args.first ++ c.args.between.now ++ decimal c.args.second)
    ≡ c.args.name.now ++ decimal c.args.first ++ line (c.args.between.now ++ decimal c.args.second)
apart c = line_end (c.args.name.now ++ decimal c.args.first) c.args.between.now (decimal c.args.second)

pub put_line-requires : goal.put_line-requires
put_line-requires c = second c.put_number.ensures (rw (apart (goal.at.put_line-requires c).Start) at c.requires)

pub returns : goal.returns
returns c = rw (apart (goal.at.returns c).Start) (both c.put_number.ensures c.put_line.ensures)
