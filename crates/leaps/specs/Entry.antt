-- An entry of a queue: a time, below it a rank, and below that a task.
use Rattle.std.specs.Prelude.{ℕ, ◌+◌, ◌*◌, ◌^◌}
use Rattle.values.specs.declared.Table.{Table}
use Rattle.model.specs.Run.{tie_order}

-- Tasks are below the one, marks below the other, and times below the last.
abbrev pub places : ℕ
places = 32

abbrev pub span : ℕ
span = 2097152

abbrev pub time_limit : ℕ
time_limit = 2 ^ 42

-- What stands below the time in a task's entries.
abbrev pub mark_of : Table → ℕ → ℕ
mark_of t i = tie_order t i * places + i

abbrev pub entry : Table → ℕ → ℕ → ℕ
entry t time i = time * span + mark_of t i
