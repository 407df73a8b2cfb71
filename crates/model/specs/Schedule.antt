-- Schedules, and when one is good.
use Rattle.std.specs.Prelude.{Bool, false, ◌&&◌, ℕ, ◌≤◌, ◌<◌, leb, eqb}
use Rattle.model.specs.Notation.{count}
use Rattle.model.specs.Values.{Table}
use Rattle.model.specs.Tasks.{task, release, due}

-- Who has a slot: none, or the job j of task i.
pub data Slot : Type 0 where
  none : Slot
  job : ℕ → ℕ → Slot

-- A schedule gives each slot to one job or none.
abbrev pub Schedule : Type 0
Schedule = ℕ → Slot

-- The slot is job j's of task i.
abbrev pub belongs : ℕ → ℕ → Slot → Bool
belongs i j none = false
belongs i j (job a b) = eqb a i && eqb b j

-- The slots from `from` up to `to` that job j of task i has.
unfoldable pub given : Schedule → ℕ → ℕ → ℕ → ℕ → ℕ
given σ i j from to = count (λ u. leb from u && belongs i j (σ u)) to

-- Good: every job of every task has its C slots between release and deadline, without end in time.
unfoldable pub Good : Table → Schedule → Type 0
Good t σ = (i j : ℕ) → i < t.count → (task t i).cost ≤ given σ i j (release (task t i) j) (due (task t i) j)
