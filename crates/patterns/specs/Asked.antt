-- What is asked for by an instant.
use Rattle.std.specs.Prelude.{ℕ, ◌+◌, ◌-◌, ◌*◌, ◌/◌}
use Rattle.values.specs.declared.Task.{Task}
use Rattle.values.specs.declared.Table.{Table}
use Rattle.model.specs.Notation.{sum}
use Rattle.model.specs.Tasks.{task}

-- The jobs of a task that are due by u, all released from 0 on, and the slots that those of all tasks ask for.
abbrev pub due_by : Task → ℕ → ℕ
due_by k u = (u + k.period - k.deadline) / k.period

abbrev pub asked_of : Table → ℕ → ℕ → ℕ
asked_of t u i = (task t i).cost * due_by (task t i) u

unfoldable pub asked : Table → ℕ → ℕ
asked t u = sum t.count (asked_of t u)
