-- The loop has the shares of the tasks that it has passed.
use mathlib.Core.Path.{refl}
use native.Mathlib.Omega.{arith}
use Rattle.std.proofs.lemmas.List.{get_or-take}
use Rattle.model.specs.Tasks.{no_task}
use Rattle.model.specs.Fitting.{shared}
use Rattle.counting.specs.Fill.{fill_none, fill_put, fill_read}
use Rattle.changes.proofs.with_share.Goals as goal

pub loop-i-init : goal.loop-i-init
loop-i-init c = (refl, fill_none _ _)

pub loop-i-preserved : goal.loop-i-preserved
loop-i-preserved c =
    let (n, v) = c.loop-i.invariant in
    let read = fill_read c.loop-i.i (shared c.args.t c.args.thousandths) c.args.t.tasks no_task v in
    (n, fill_put _ _ _ v (rw (read, c.share_of.ensures, get_or-take c.args.t.count c.args.t.tasks c.loop-i.i no_task (omega arith))))
