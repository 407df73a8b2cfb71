-- The loop has the distances of the tasks that it has passed.
use native.Mathlib.Omega.{arith}
use Rattle.std.proofs.lemmas.List.{get_or-take}
use Rattle.model.specs.Tasks.{no_task}
use Rattle.counting.specs.Fill.{fill_none, fill_put}
use Rattle.distance.proofs.distances.Goals as goal

pub loop-k-init : goal.loop-k-init
loop-k-init c = fill_none _ _

pub loop-k-preserved : goal.loop-k-preserved
loop-k-preserved c =
    fill_put _ _ _ c.loop-k.invariant
    (rw (get_or-take c.args.t.count c.args.t.tasks c.loop-k.k no_task (omega arith)) at c.distance_of.ensures)
