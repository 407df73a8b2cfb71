use Rattle.std.proofs.Common.{◌-◌, ◌≤◌, rules}
use Rattle.model.specs.Limits.{task_limit}
use Rattle.trials.proofs.tables.most.Given as goal

abbrev pub invariant-loop-i : goal.invariant-loop-i
invariant-loop-i l = l.i ≤ task_limit

abbrev pub decreases-loop-i : goal.decreases-loop-i
decreases-loop-i l = task_limit - l.i
