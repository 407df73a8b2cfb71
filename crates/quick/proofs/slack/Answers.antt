-- The slack so far is the sum over the tasks read, and fits.
use mathlib.Core.Path.{◌≡◌}
use Prim.Native.Nat.{◌≤◌}
use native.Mathlib.Omega.{arith}
use Rattle.std.proofs.lemmas.List.{get_or-take}
use Rattle.model.specs.Tasks.{no_task}
use Rattle.counting.specs.Sum.{sum_none, sum_more}
use Rattle.patterns.specs.Slack.{slack, slack_at}
use Rattle.quick.specs.Fits.{slack_limit, slack_le}
use Rattle.quick.proofs.slack.Goals.{After-slack_of-total}
use Rattle.quick.proofs.slack.Goals as goal

part : (c : After-slack_of-total) → c.slack_of-total.result ≡ slack_at c.args.t c.loop-task.task-index
part c =
    rw (
      c.slack_of-total.ensures,
      get_or-take c.args.t.count c.args.t.tasks c.loop-task.task-index no_task (omega arith),
      c.requires.round_kept.is,
    )

fits : (c : After-slack_of-total) → slack_at c.args.t c.loop-task.task-index ≤ slack_limit
fits c =
    slack_le _ (c.requires.ranged.each c.loop-task.task-index (omega arith)) _ (omega (arith, c.requires.round_kept.is, c.requires.round_kept.le))

pub loop-task-init : goal.loop-task-init
loop-task-init c = (omega arith, sum_none _)

pub loop-task-preserved : goal.loop-task-preserved
loop-task-preserved c = let at = (goal.at.loop-task-preserved c).After-slack_of-total in (
  omega (arith, part at, fits at),
  sum_more (slack_at c.args.t) c.loop-task.task-index c.loop-task.invariant.1 (rw (part at)),
)

pub returns : goal.returns
unfolding slack
returns c = let all : c.loop-task.task-index ≡ c.args.t.count = omega arith in rw all at c.loop-task.invariant.1
