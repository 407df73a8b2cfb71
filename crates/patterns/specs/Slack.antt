-- The slack of the deadlines.
use Rattle.std.specs.Prelude.{ℕ, ◌-◌, ◌*◌, ◌/◌}
use Rattle.values.specs.declared.Task.{Task}
use Rattle.values.specs.declared.Table.{Table}
use Rattle.model.specs.Notation.{sum}
use Rattle.model.specs.Tasks.{task, round}

-- The slots from a task's deadline to its next release, once for each slot that it asks for in h slots; and these of all tasks in a round.
abbrev pub slack_of : Task → ℕ → ℕ
slack_of k h = k.cost * ((k.period - k.deadline) * (h / k.period))

abbrev pub slack_at : Table → ℕ → ℕ
slack_at t i = slack_of (task t i) (round t)

unfoldable pub slack : Table → ℕ
slack t = sum t.count (slack_at t)
