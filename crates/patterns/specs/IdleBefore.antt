-- IDLE A ROUND BEFORE (`idle_before`): an instant is idle if the one a round later is, whatever the order of the tasks.
use Rattle.std.specs.Prelude.{ℕ, ◌+◌, ◌*◌}
use native.Mathlib.Omega.{arith}
use Rattle.counting.specs.Sum.{sum_zero, sum_member}
use Rattle.backlog.specs.Streams.{Run, left, left_of, work_at}
use Rattle.backlog.specs.System.{System, size, spread, key_of, released_by}
use Rattle.backlog.proofs.System.{jobs}
use Rattle.backlog.specs.Shift.{Cycle}
use Rattle.backlog.proofs.Shift.{left_up}
use Rattle.patterns.specs.Waiting.{Idle}

module _ (S : System) (Y : Cycle S) (s : ℕ → ℕ → ℕ) (R : Run (jobs S) s) where
  pub idle_before : (t : ℕ) → Idle (jobs S) s (t + Y.round) → Idle (jobs S) s t
  unfolding left
  idle_before t h i l =
      let κ = key_of S i (released_by S i t) in
      omega (
        arith,
        work_at (jobs S) i (released_by S i t) l,
        sum_member (size S) (left_of (jobs S) κ t (s t)) i l,
        left_up S Y s R κ t,
        sum_zero (size S) (left_of (jobs S) (κ + spread S * Y.round) (t + Y.round) (s (t + Y.round))) (λ k m. omega (arith, h k m)),
      )
