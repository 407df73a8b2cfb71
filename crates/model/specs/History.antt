-- Histories: what the dispatcher does step after step from a start, under any pattern of done reports,
-- by its rules for ever; that a step is taken is promised for as many as can be counted.
use Rattle.std.specs.Prelude.{◌≡◌, ◌⊎◌, Bool, ◌&&◌, ℕ, zero, suc, min, ◌≤◌, ◌<◌, T, leb, eqb}
use Rattle.model.specs.Notation.{count}
use Rattle.model.specs.Values.{Table}
use Rattle.model.specs.Tasks.{task, release}
use Rattle.model.specs.Run.{Order, tie_order}
use Rattle.model.specs.Dispatcher.{State, start_of, after_by, owner_now_by}

-- In any order of the tasks.
module _ (t : Table) (rank : Order) (done : ℕ → Bool) where
  -- The state before slot n; `done n` is the report that step n is given.
  unfoldable pub state_at_by : ℕ → State
  state_at_by zero = start_of t
  state_at_by (suc n) = after_by t rank (state_at_by n) (done n)

  -- The task that owns slot n, or `task_limit`.
  abbrev pub owner_at_by : ℕ → ℕ
  owner_at_by n = owner_now_by t rank (state_at_by n) (done n)

  -- Step n is told that task i, which ran last, is done.
  abbrev pub said_done_by : ℕ → ℕ → Bool
  said_done_by i n = done n && eqb (state_at_by n).last i

  -- The slots from `from` up to `to` that task i had.
  unfoldable pub had_by : ℕ → ℕ → ℕ → ℕ
  had_by i from to = count (λ n. leb from n && eqb (owner_at_by n) i) to

  -- Job j of task i is finished by n: by n, and by its task's next release,
  -- it had its whole cost, or was reported done.
  abbrev pub FinishedBy : ℕ → ℕ → ℕ → Type 0
  FinishedBy i j n =
      let from = release (task t i) j in
      let to = min n (release (task t i) (suc j)) in
      (had_by i from to ≡ (task t i).cost) ⊎ ((u : ℕ) × (from < u) × (u ≤ to) × T (said_done_by i u))

-- In our order, which is the dispatcher's: each word at it.
module _ (t : Table) where
  abbrev pub state_at : (ℕ → Bool) → ℕ → State
  state_at = state_at_by t (tie_order t)

  abbrev pub owner_at : (ℕ → Bool) → ℕ → ℕ
  owner_at = owner_at_by t (tie_order t)

  abbrev pub said_done : (ℕ → Bool) → ℕ → ℕ → Bool
  said_done = said_done_by t (tie_order t)

  abbrev pub had : (ℕ → Bool) → ℕ → ℕ → ℕ → ℕ
  had = had_by t (tie_order t)

  abbrev pub Finished : (ℕ → Bool) → ℕ → ℕ → ℕ → Type 0
  Finished = FinishedBy t (tie_order t)
