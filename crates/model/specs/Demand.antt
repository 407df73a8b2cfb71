-- Arrivals, demand, and intervals that ask too much, for tasks of both sorts at once.
use Rattle.std.specs.Prelude.{Bool, ◌&&◌, ℕ, ◌+◌, ◌-◌, ◌*◌, ◌%◌, leb, ltb, eqb}
use Rattle.model.specs.Notation.{sum, count, some}
use Rattle.model.specs.Values.{Task, Table}
use Rattle.model.specs.Tasks.{task, offset}

-- Who arrives when: whether a job of task i arrives at u. A task may arrive for ever, or a last time, or never.
abbrev pub Arrivals : Type 0
Arrivals = ℕ → ℕ → Bool

-- The jobs of a task that arrive at or after `from`, with their deadline, d later, at or before `to`.
unfoldable pub arrived_in : (ℕ → Bool) → ℕ → ℕ → ℕ → ℕ
arrived_in a d from to = count (λ u. a u && (leb from u && leb (u + d) to)) to

-- The summed cost of all jobs inside an interval, for any arrivals.
abbrev pub demand_for : Table → Arrivals → ℕ → ℕ → ℕ
demand_for t a from to = sum t.count (λ i. (task t i).cost * arrived_in (a i) (task t i).deadline from to)

-- A periodic task arrives when it is released: at O, O + T, O + 2 T and so on.
abbrev pub released : Task → ℕ → Bool
released k u = leb (offset k) u && eqb ((u - offset k) % k.period) 0

abbrev pub releases : Table → Arrivals
releases t i = released (task t i)

-- The jobs of a periodic task inside an interval, and the demand of a table of such tasks.
abbrev pub jobs_in : Task → ℕ → ℕ → ℕ
jobs_in k = arrived_in (released k) k.deadline

unfoldable pub demand : Table → ℕ → ℕ → ℕ
demand t = demand_for t (releases t)

-- An interval asks too much if its demand exceeds its length.
abbrev pub asks_too_much : Table → ℕ → ℕ → Bool
asks_too_much t from to = ltb from to && ltb (to - from) (demand t from to)

-- A late deadline: some interval that ends there asks too much.
unfoldable pub late_at : Table → ℕ → Bool
late_at t to = some (λ from. asks_too_much t from to) to
