-- What the lists of a walk by leaps hold.
use Rattle.std.specs.Prelude.{◌≡◌, List, ℕ, ◌+◌, ◌-◌, ◌<◌, length}
use Rattle.values.specs.declared.Table.{Table}
use Rattle.model.specs.Limits.{task_limit}
use Rattle.slots.specs.Slot.{at}
use Rattle.leaps.specs.Entry.{entry}
use Rattle.leaps.specs.Leap.{slack}
use Rattle.leaps.specs.Queue.{Queue}

-- The next release of a task, and the deadline of its open job, by waits W and slots left L at n.
abbrev pub Coming : Table → ℕ → (ℕ → ℕ) → ℕ → Type 0
Coming t n W x = (i : ℕ) × (i < t.count) × (x ≡ entry t (n + W i) i)

abbrev pub Waiting : Table → ℕ → (ℕ → ℕ) → (ℕ → ℕ) → ℕ → Type 0
Waiting t n W L x = (i : ℕ) × (i < t.count) × (0 < L i) × (x ≡ entry t (n + (W i - slack t i)) i)

pub record Held (t : Table) (n : ℕ) (W L : ℕ → ℕ) (releases ready left : List ℕ) (jobs : ℕ) : Type 0 where
  pub coming : Queue (Coming t n W) releases t.count
  pub waiting : Queue (Waiting t n W L) ready jobs
  pub lefts : (i : ℕ) → i < t.count → at left i ≡ L i
  pub size : length left ≡ task_limit
  -- No open job is at its deadline.
  pub ahead : (i : ℕ) → i < t.count → 0 < L i → slack t i < W i
