-- Arrivals that keep to a table of both sorts, and schedules that are good for them (T-13).
use Rattle.std.specs.Prelude.{◌≡◌, true, false, map, ℕ, ◌+◌, ◌≤◌, ◌<◌, T}
use Rattle.model.specs.Notation.{count}
use Rattle.model.specs.Values.{Sort, Task, Table}
use Rattle.model.specs.Tasks.{task, is_button, offset}
use Rattle.model.specs.Demand.{Arrivals, released}
use Rattle.model.specs.Schedule.{Schedule, given}

-- Arrivals respect a table: its periodic tasks arrive when they are released,
-- and a button never sooner after an arrival than its spacing.
pub record Respects (t : Table) (a : Arrivals) : Type 0 where
  pub periodic : (i u : ℕ) → i < t.count → is_button (task t i) ≡ false → a i u ≡ released (task t i) u
  pub spaced : (i u v : ℕ) → i < t.count → is_button (task t i) ≡ true → T (a i u) → T (a i v) → u < v
      → u + (task t i).period ≤ v

-- Good for arrivals: every job that arrives has its C slots between arrival and deadline.
-- Its number is that of the arrivals of its task before.
unfoldable pub GoodFor : Table → Arrivals → Schedule → Type 0
GoodFor t a σ =
    (i u : ℕ) → i < t.count → T (a i u) → (task t i).cost ≤ given σ i (count (a i) u) u (u + (task t i).deadline)

-- A button that is pressed at 0 and every spacing after is a periodic task of offset 0. Any other task is as it was.
abbrev pub as_task : Task → Task
as_task k = record { sort = Sort.Periodic (offset k); cost = k.cost; deadline = k.deadline; period = k.period }

abbrev pub as_tasks : Table → Table
as_tasks t = record { count = t.count; tasks = map as_task t.tasks }
