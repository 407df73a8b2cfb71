-- What is asked for so far is the sum over the tasks read, and fits.
use mathlib.Core.Path.{◌≡◌}
use Prim.Native.Nat.{◌≤◌, ◌*◌}
use native.Mathlib.Omega.{arith}
use Rattle.std.proofs.lemmas.List.{get_or-take}
use Rattle.model.specs.Tasks.{task, no_task}
use Rattle.counting.specs.Sum.{sum_none, sum_more}
use Rattle.patterns.specs.Asked.{asked_of, asked}
use Rattle.quick.specs.Fits.{asked_limit, asked_le}
use Rattle.quick.proofs.look.Goals.{After-from-in-loop-task}
use Rattle.quick.proofs.look.Goals as goal

product : (c : After-from-in-loop-task)
    → c.from-in-loop-task.result * c.due_by-jobs.result ≡ asked_of c.args.t c.args.u c.loop-task.task-index
product c =
    rw (c.from-in-loop-task.ensures, c.due_by-jobs.ensures, get_or-take c.args.t.count c.args.t.tasks c.loop-task.task-index no_task (omega arith))

fits : (c : After-from-in-loop-task) → asked_of c.args.t c.args.u c.loop-task.task-index ≤ asked_limit
fits c =
    asked_le (task c.args.t c.loop-task.task-index) (c.requires.ranged.each c.loop-task.task-index (omega arith)) c.args.u c.requires.u_le_round_limit

pub loop-task-init : goal.loop-task-init
loop-task-init c = (omega arith, sum_none _)

pub loop-task-preserved : goal.loop-task-preserved
loop-task-preserved c = let at = (goal.at.loop-task-preserved c).After-from-in-loop-task in (
  omega (arith, product at, fits at),
  sum_more (asked_of c.args.t c.args.u) c.loop-task.task-index c.loop-task.invariant.1 (rw (product at)),
)

pub returns : goal.returns
unfolding asked
returns c = let all : c.loop-task.task-index ≡ c.args.t.count = omega arith in rw all at c.loop-task.invariant.1
