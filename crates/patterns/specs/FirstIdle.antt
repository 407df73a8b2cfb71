-- THE FIRST IDLE INSTANT (`first_idle_lem`): without overload a table that keeps its ranges has one after 0 and up to H, in any order of its tasks, and
-- the model's search finds it.
use Rattle.std.specs.Prelude.{◌≡◌, ℕ, ◌+◌, ◌≤◌, ◌<◌, T}
use Rattle.std.proofs.Common.{subst, mul-le-mul_left, zero-add}
use Rattle.std.proofs.Math.Decide.{dec_lt}
use native.Mathlib.Omega.{arith}
use Rattle.values.specs.declared.Table.{Table}
use Rattle.values.specs.declared.Verdict.{Verdict}
use Rattle.model.specs.Notation.{Least}
use Rattle.model.specs.Tasks.{round, load}
use Rattle.model.specs.Run.{Order}
use Rattle.model.specs.Verdict.{verdict}
use Rattle.model.specs.Idle.{idle_at, first_idle}
use Rattle.counting.specs.Sum.{sum_le}
use Rattle.counting.specs.Search.{first_from, first_before, first_passes, first_eq}
use Rattle.counting.specs.Below.{below, below_none, below_later_le}
use Rattle.wellformed.specs.Ranges.{Ranged}
use Rattle.wellformed.specs.Round.{round_pos}
use Rattle.backlog.specs.System.{System, size, cost_of, release_of}
use Rattle.backlog.proofs.System.{jobs}
use Rattle.backlog.proofs.ModelRun.{served_of, model_run}
use Rattle.backlog.specs.Shift.{Cycle, load_of}
use Rattle.backlog.proofs.Shift.{release_later}
use Rattle.backlog.proofs.TableSystem.{system_of, cycle_of, load_is}
use Rattle.backlog.proofs.Passes.{never_of_passed}
use Rattle.patterns.specs.Waiting.{all_released}
use Rattle.patterns.specs.IdleSoon.{idle_soon}
use Rattle.patterns.specs.IdleInstants.{idle_streams, idle_any_order}

-- In the slots of the first round no more is released than the load.
released_round : (S : System) (Y : Cycle S) → all_released (jobs S) Y.round ≤ load_of S Y
unfolding load_of
released_round S Y = sum_le (size S) _ _ (λ i l. mul-le-mul_left (cost_of S i) (each i l))
  where
    each : (i : ℕ) → i < size S → below (release_of S i) Y.round ≤ Y.times i
    each i l =
        let h : below (release_of S i) (0 + Y.round) ≤ below (release_of S i) 0 + Y.times i = below_later_le (release_of S i) ((jobs S).rel_grows i l)
        (Y.times i) Y.round (release_later S Y i l) 0 in
        omega (arith, subst (λ (x : ℕ). below (release_of S i) x ≤ below (release_of S i) 0 + Y.times i) (zero-add Y.round) h, below_none (release_of S i))

module _ (t : Table) (r : Ranged t) (rank : Order) where
  pub first_idle_lem : load t ≤ round t → Least (λ u. (0 < u) × T (idle_at t rank u)) (first_idle t rank) × (first_idle t rank ≤ round t)
  unfolding first_idle
  first_idle_lem light = (
    (
      (first_from (idle_at t rank) 1 (round t), first_passes (idle_at t rank) 1 (round t) (omega (arith, soon))),
      λ u l h. first_before (idle_at t rank) 1 (round t) u h.0 l h.1,
    ),
    soon,
  )
    where
      soon : first_idle t rank ≤ round t
      soon =
          let (u, p, h, i) = idle_soon (jobs (system_of t r rank)) (served_of (system_of t r rank)) (model_run (system_of t r rank)) (round t)
          (round_pos t r) (omega (arith, released_round (system_of t r rank) (cycle_of t r rank), load_is t r rank)) in
          elim (dec_lt u (first_idle t rank)) [
            | yes l ↦ absurd
                (first_before (idle_at t rank) 1 (round t) u p l ((idle_streams (system_of t r rank) u).1 i))
            | no l ↦ omega arith
          ]

-- So a table that the test passes has one.
pub passed_idle : (t : Table) → Ranged t → (budget : ℕ) → verdict t budget ≡ Verdict.Passes → (rank : Order)
    → Least (λ u. (0 < u) × T (idle_at t rank u)) (first_idle t rank) × (first_idle t rank ≤ round t)
passed_idle t r budget e rank = first_idle_lem t r rank (never_of_passed t r budget e).0

-- The order of the tasks does not matter.
pub first_any_order : (t : Table) (r : Ranged t) (rank rank' : Order) → first_idle t rank ≡ first_idle t rank'
unfolding first_idle
first_any_order t r rank rank' = first_eq (idle_at t rank) (idle_at t rank') 1 (round t) (λ u a b. idle_any_order t r rank rank' u)
