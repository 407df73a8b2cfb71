-- The load so far is the sum over the tasks read, and at most a whole round for each; the latest offset so far is the largest.
use mathlib.Core.Path.{◌≡◌}
use Prim.Native.Nat.{◌*◌, ◌/◌, ◌≤◌}
use native.Mathlib.Omega.{arith}
use Rattle.std.proofs.lemmas.List.{get_or-take}
use Rattle.model.specs.Limits.{round_limit}
use Rattle.model.specs.Tasks.{no_task, load, horizon}
use Rattle.counting.specs.Sum.{sum_none, sum_more}
use Rattle.counting.specs.Search.{largest_none, largest_more}
use Rattle.wellformed.specs.Round.{share, share_le}
use Rattle.table.proofs.measure_of.Invariants.{start}
use Rattle.table.proofs.measure_of.Goals.{After-from-in-loop-task}
use Rattle.table.proofs.measure_of.Goals as goal

-- What a task asks for in a round, and that it is no large number.
product : (c : After-from-in-loop-task) → c.from.result * (c.args.round / c.from-in-loop-task.result) ≡ share c.args.t c.args.round c.loop-task.task-index
product c = rw (c.from.ensures, c.from-in-loop-task.ensures, get_or-take c.args.t.count c.args.t.tasks c.loop-task.task-index no_task (omega arith))

fits : (c : After-from-in-loop-task) → share c.args.t c.args.round c.loop-task.task-index ≤ round_limit
fits c = omega (arith, share_le c.args.t c.requires.ranged c.args.round c.loop-task.task-index (omega arith), c.requires.round_kept.le)

pub loop-task-init : goal.loop-task-init
loop-task-init c = (omega arith, sum_none (share c.args.t c.args.round), omega arith, largest_none (start c.args.t))

pub nonzero_div-load : goal.nonzero_div-load
nonzero_div-load c =
    let i = c.loop-task.task-index in
    rw (c.from-in-loop-task.ensures, get_or-take c.args.t.count c.args.t.tasks i no_task (omega arith)) (c.requires.ranged.each i (omega arith)).period_pos

pub overflow_mul-load : goal.overflow_mul-load
overflow_mul-load c = let at = (goal.at.overflow_mul-load c).After-from-in-loop-task in omega (arith, product at, fits at)

pub overflow_add-load : goal.overflow_add-load
overflow_add-load c = let at = (goal.at.overflow_add-load c).After-from-in-loop-task in omega (arith, product at, fits at)

pub loop-task-preserved : goal.loop-task-preserved
loop-task-preserved c =
    let at = (goal.at.loop-task-preserved c).After-from-in-loop-task in
    let i = c.loop-task.task-index in
    let one = rw (get_or-take c.args.t.count c.args.t.tasks i no_task (omega arith)) at c.offset_of.ensures in (
      omega (arith, product at, fits at),
      sum_more (share c.args.t c.args.round) i c.loop-task.invariant.1 (rw (product at)),
      omega (arith, one, (c.requires.ranged.each i (omega arith)).offset_le),
      largest_more (start c.args.t) i c.loop-task.invariant.3 (rw (← one, c.max-latest.ensures)),
    )

pub returns : goal.returns
unfolding load horizon
returns c =
    let all : c.loop-task.task-index ≡ c.args.t.count = omega arith in
    rw (rw all at c.loop-task.invariant.1, c.from-2.ensures, rw all at c.loop-task.invariant.3, c.requires.round_kept.is)
