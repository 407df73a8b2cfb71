-- The loop has the tasks that it has passed with their new offsets.
use mathlib.Core.Path.{refl}
use native.Mathlib.Omega.{arith}
use Rattle.std.proofs.lemmas.List.{get_or-take}
use Rattle.model.specs.Tasks.{no_task}
use Rattle.counting.specs.Fill.{fill_none, fill_put}
use Rattle.calm.proofs.starting.Goals as goal

pub loop-i-init : goal.loop-i-init
loop-i-init c = (refl, fill_none _ _)

pub loop-i-preserved : goal.loop-i-preserved
loop-i-preserved c =
    let (n, v) = c.loop-i.invariant in
    (n, fill_put _ _ _ v (rw (get_or-take c.args.t.count c.args.t.tasks c.loop-i.i no_task (omega arith))))
