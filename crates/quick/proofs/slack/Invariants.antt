-- The slack so far is the sum over the tasks read, and fits.
use mathlib.Core.Path.{◌≡◌}
use Prim.Native.Nat.{◌≤◌, ◌*◌}
use Rattle.model.specs.Notation.{sum}
use Rattle.patterns.specs.Slack.{slack_at}
use Rattle.quick.specs.Fits.{slack_limit}
use Rattle.quick.proofs.slack.Given as goal

abbrev pub invariant-loop-task : goal.invariant-loop-task
invariant-loop-task l = (l.total ≤ l.task-index * slack_limit) × (l.total ≡ sum l.task-index (slack_at l.fn.t))
