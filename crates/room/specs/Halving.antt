-- What holds of the range of costs before each trial.
use Rattle.values.specs.declared.ByDistance.{ByDistance}
use Rattle.std.specs.Prelude.{◌≡◌, true, false, ℕ, suc, ◌+◌, ◌≤◌, ◌<◌, T, Ok}
use Rattle.std.proofs.Common.{sym, arith}
use Rattle.values.specs.declared.Table.{Table}
use Rattle.values.specs.declared.Measure.{Measure}
use Rattle.model.specs.Tasks.{task, judged_mixed}
use Rattle.model.specs.Patterns.{distance_answer}
use Rattle.model.specs.Room.{room_with, room}
use Rattle.wellformed.specs.Ranges.{Ranged}
use Rattle.wellformed.specs.WellFormed.{well_mixed}
use Rattle.patterns.proofs.Room.{own_room, room_is}

-- A table that is not refused, with its measure.
abbrev pub Well : Table → Type 0
Well t = (m : Measure) × (judged_mixed t ≡ Ok m)

pub ranged_of : (t : Table) → Well t → Ranged t
ranged_of t (m, well) = (well_mixed t m well).ranged

-- A cost from the present one on passes, and one above it does not, or is past the deadline.
pub record Halving (t : Table) (i passes fails : ℕ) : Type 0 where
  pub least : (task t i).cost ≤ passes
  pub apart : passes < fails
  pub upto : fails ≤ (task t i).deadline + 1
  pub passed : T (room_with t i passes)
  pub failed : fails ≤ (task t i).deadline → T (room_with t i fails) → ⊥

module _ (t : Table) (w : Well t) (i : ℕ) (l : i < t.count) where
  -- At the start: the present cost, and the first past the deadline.
  pub halving_start : distance_answer t ≡ Ok ByDistance.Pass → (fails : ℕ) → fails ≡ (task t i).deadline + 1 → Halving t i (task t i).cost fails
  halving_start pass fails e =
      record {
        least = omega arith;
        apart = omega (arith, ((ranged_of t w).each i l).cost_le);
        upto = omega arith;
        passed = own_room t w.0 w.1 i l pass;
        failed = λ h. absurd (omega arith);
      }

  -- At the end: the cost that passes is the largest.
  pub halving_end : (passes fails : ℕ) → Halving t i passes fails → fails ≤ suc passes → passes ≡ room t i
  halving_end passes fails h e =
      let next : fails ≡ suc passes = omega (arith, h.apart) in
      sym (room_is t w.0 w.1 i l passes (omega (arith, h.least, ((ranged_of t w).each i l).cost_pos)) (omega (arith, h.upto)) h.passed
      (rw next at h.failed))

-- A trial that passes raises the one, and one that does not lowers the other.
module _ (t : Table) (i passes fails middle : ℕ) (h : Halving t i passes fails) where
  pub halving_up : passes < middle → middle < fails → room_with t i middle ≡ true → Halving t i middle fails
  halving_up a b e = record { least = omega (arith, h.least); apart = b; upto = h.upto; passed = rw e tt; failed = h.failed }

  pub halving_down : passes < middle → middle < fails → room_with t i middle ≡ false → Halving t i passes middle
  halving_down a b e = record { least = h.least; apart = a; upto = omega (arith, h.upto); passed = h.passed; failed = λ m w. rw e at w }
