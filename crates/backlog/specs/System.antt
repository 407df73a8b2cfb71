-- What the theory asks of a table, and its parts.
use Rattle.std.specs.Prelude.{◌≡◌, ◌⊎◌, ℕ, suc, ◌+◌, ◌*◌, ◌≤◌, ◌<◌}
use Rattle.values.specs.declared.Table.{Table}
use Rattle.model.specs.Limits.{task_limit}
use Rattle.model.specs.Notation.{largest}
use Rattle.model.specs.Tasks.{task, offset, release, due}
use Rattle.model.specs.Run.{Order}
use Rattle.counting.specs.Below.{below}
use Rattle.backlog.specs.Choice.{standing}

-- What the theory asks of a table; of the order it asks nothing.
pub record System : Type 0 where
  pub table : Table
  pub rank : Order
  pub size_le : table.count ≤ task_limit
  pub cost_pos : (i : ℕ) → i < table.count → 0 < (task table i).cost
  pub deadline_pos : (i : ℕ) → i < table.count → 0 < (task table i).deadline
  pub deadline_le : (i : ℕ) → i < table.count → (task table i).deadline ≤ (task table i).period

-- Its parts, by task number.
abbrev pub size : System → ℕ
size S = S.table.count

abbrev pub offset_of : System → ℕ → ℕ
offset_of S i = offset (task S.table i)

abbrev pub cost_of : System → ℕ → ℕ
cost_of S i = (task S.table i).cost

abbrev pub period_of : System → ℕ → ℕ
period_of S i = (task S.table i).period

abbrev pub release_of : System → ℕ → ℕ → ℕ
release_of S i j = release (task S.table i) j

abbrev pub due_of : System → ℕ → ℕ → ℕ
due_of S i j = due (task S.table i) j

-- How many jobs of task i are released before slot n.
abbrev pub released_by : System → ℕ → ℕ → ℕ
released_by S i n = below (release_of S i) n

-- A number that every task stands below in the system's order.
unfoldable pub spread : System → ℕ
spread S = (largest (size S) S.rank + 1) * task_limit

-- Job j of task i comes no later than job m of task k: by the earlier deadline, then the lower rank, then the lower number.
abbrev pub JobNoLater : System → ℕ → ℕ → ℕ → ℕ → Type 0
JobNoLater S i j k m = (due_of S i j < due_of S k m) ⊎ ((due_of S i j ≡ due_of S k m) × ((S.rank i < S.rank k) ⊎ ((S.rank i ≡ S.rank k) × (i ≤ k))))

-- Job j of task i may come at `rel i j`, at least the task's period after the job before.
abbrev pub Apart : System → (ℕ → ℕ → ℕ) → Type 0
Apart S rel = (i j : ℕ) → i < size S → rel i j + period_of S i ≤ rel i (suc j)

-- When it is due then; and one number for that and its task's standing: an earlier deadline goes first, and ties by the order. No two jobs share it.
abbrev pub due_from : System → (ℕ → ℕ → ℕ) → ℕ → ℕ → ℕ
due_from S rel i j = rel i j + (task S.table i).deadline

abbrev pub key_from : System → (ℕ → ℕ → ℕ) → ℕ → ℕ → ℕ
key_from S rel i j = due_from S rel i j * spread S + standing S.rank i

abbrev pub key_of : System → ℕ → ℕ → ℕ
key_of S = key_from S (release_of S)
