-- Idle instants of a run, and the deadlines that it misses.
use Rattle.std.specs.Prelude.{Bool, ℕ, leb}
use Rattle.model.specs.Notation.{some, every, first}
use Rattle.model.specs.Values.{Table}
use Rattle.model.specs.Tasks.{task, release, due, round}
use Rattle.model.specs.Run.{Order, current, served}

-- By u every job that was released strictly before u has finished:
-- the job that each task is at is released at u or later.
unfoldable pub idle_at : Table → Order → ℕ → Bool
idle_at t rank u = every (λ i. leb u (release (task t i) (current t (served t rank u) i))) t.count

-- The first idle instant after 0, looked for up to H, or H + 1.
unfoldable pub first_idle : Table → Order → ℕ
first_idle t rank = first (idle_at t rank) 1 (round t)

-- By u some deadline is missed: the job that some task is at, which has not had its C slots, was due by u.
unfoldable pub missed_at : Table → Order → ℕ → Bool
missed_at t rank u = some (λ i. leb (due (task t i) (current t (served t rank u) i)) u) t.count
