-- The demand so far is the sum over the tasks read, and fits.
use mathlib.Core.Path.{◌≡◌}
use Prim.Native.Nat.{◌*◌, ◌≤◌}
use Rattle.std.proofs.lemmas.List.{get_or-take}
use native.Mathlib.Omega.{arith}
use Rattle.model.specs.Tasks.{no_task}
use Rattle.model.specs.Demand.{demand}
use Rattle.counting.specs.Sum.{sum_none, sum_more}
use Rattle.wellformed.specs.Demand.{asks, asks_limit, asks_le}
use Rattle.intervals.proofs.demand.Goals.{After-jobs_in}
use Rattle.intervals.proofs.demand.Goals as goal

-- What a task asks for, and that it is no large number.
product : (c : After-jobs_in) → c.from.result * c.jobs_in.result ≡ asks c.args.t c.args.from c.args.to c.loop-task.task-index
product c = rw (c.from.ensures, c.jobs_in.ensures, get_or-take c.args.t.count c.args.t.tasks c.loop-task.task-index no_task (omega arith))

fits : (c : After-jobs_in) → asks c.args.t c.args.from c.args.to c.loop-task.task-index ≤ asks_limit
fits c = asks_le c.args.t c.requires.ranged c.args.from c.args.to c.loop-task.task-index (omega arith) c.requires.from_le_to.1

pub loop-task-init : goal.loop-task-init
loop-task-init c = (omega arith, sum_none _)

pub overflow_mul-asked : goal.overflow_mul-asked
overflow_mul-asked c = let at = (goal.at.overflow_mul-asked c).After-jobs_in in omega (arith, product at, fits at)

pub overflow_add-asked : goal.overflow_add-asked
overflow_add-asked c = let at = (goal.at.overflow_add-asked c).After-jobs_in in omega (arith, product at, fits at)

pub loop-task-preserved : goal.loop-task-preserved
loop-task-preserved c = let at = (goal.at.loop-task-preserved c).After-jobs_in in (
  omega (arith, product at, fits at),
  sum_more (asks c.args.t c.args.from c.args.to) c.loop-task.task-index c.loop-task.invariant.1 (rw (product at)),
)

pub returns : goal.returns
unfolding demand
returns c = let all : c.loop-task.task-index ≡ c.args.t.count = omega arith in rw all at c.loop-task.invariant.1
