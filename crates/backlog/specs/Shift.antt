-- A round of a system, and its horizon.
use Rattle.std.specs.Prelude.{◌≡◌}
use Prim.Native.Nat.{ℕ, ◌+◌, ◌*◌, ◌≤◌, ◌<◌}
use Rattle.model.specs.Notation.{sum}
use Rattle.backlog.specs.System.{System, size, offset_of, cost_of, period_of}

-- A round is a common multiple of the periods; by the start every task has had its offset.
pub record Cycle (S : System) : Type 0 where
  pub round : ℕ
  pub start : ℕ
  pub times : ℕ → ℕ
  pub round_pos : 0 < round
  pub common : (i : ℕ) → i < size S → times i * period_of S i ≡ round
  pub starts : (i : ℕ) → i < size S → offset_of S i ≤ start

-- The horizon: the start and two rounds.
abbrev pub horizon_of : (S : System) → Cycle S → ℕ
horizon_of S Y = Y.start + 2 * Y.round

-- The jobs of a round ask for this many slots; without overload they fit it.
unfoldable pub load_of : (S : System) → Cycle S → ℕ
load_of S Y = sum (size S) (λ i. cost_of S i * Y.times i)

abbrev pub Light : (S : System) → Cycle S → Type 0
Light S Y = load_of S Y ≤ Y.round
