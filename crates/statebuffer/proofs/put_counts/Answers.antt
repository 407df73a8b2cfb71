-- The counts passed are put.
use mathlib.Core.Path.{◌≡◌}
use native.Mathlib.Omega.{arith}
use lib.ListN.{length}
use borrow.Author.Rules.{rules}
use Rattle.model.specs.Limits.{task_limit}
use Rattle.model.specs.TableFile.{bytes_of}
use Rattle.model.specs.StateBuffer.{halves}
use Rattle.words.specs.Out.{none}
use Rattle.statebuffer.specs.Words.{next_fits, next_count}
use Rattle.statebuffer.proofs.put_counts.Goals as goal

pub loop-count-init : goal.loop-count-init
unfolding bytes_of halves
loop-count-init c = (omega arith, none _)

pub put_long-requires : goal.put_long-requires
put_long-requires c =
    let size : length c.args.counts ≡ task_limit = search rules in
    next_fits c.args.counts c.loop-count.count-index (omega arith) c.loop-count.invariant.1 c.requires

pub loop-count-preserved : goal.loop-count-preserved
loop-count-preserved c =
    let size : length c.args.counts ≡ task_limit = search rules in
    (omega arith, next_count c.args.counts c.loop-count.count-index (omega arith) c.loop-count.invariant.1 c.put_long.ensures)
