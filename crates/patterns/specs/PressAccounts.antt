-- EVERY SLOT IS COUNTED, UNDER PRESSES (`slots_are`): from a start on a table that keeps its ranges the slots that are counted are the steps, and
-- each number is the count in the history of owners.
use Rattle.std.specs.Prelude.{◌≡◌, refl, Bool, eqb}
use Prim.Native.Nat.{ℕ, zero, suc, ◌<◌}
use native.Mathlib.Omega.{arith}
use Rattle.values.specs.declared.Table.{Table}
use Rattle.model.specs.Limits.{task_limit}
use Rattle.model.specs.Notation.{count}
use Rattle.model.specs.Dispatcher.{given_of, slot_count, start_of}
use Rattle.model.specs.Presses.{comes, after_come, state_under, owner_under}
use Rattle.counting.specs.Fill.{get_d_same}
use Rattle.counting.specs.Sum.{sum_zero}
use Rattle.wellformed.specs.Ranges.{Ranged}
use Rattle.backlog.specs.Coming.{given_come, slots_come}
use Rattle.patterns.specs.TakenArrivals.{belongs_under}

-- The empty slots are those that went to none. Of any table.
pub empty_is : (t : Table) (done : ℕ → Bool) (pressed : ℕ → ℕ) (n : ℕ) → (state_under t done pressed n).empty ≡ count
    (λ k. eqb (owner_under t done pressed k) task_limit) n
unfolding state_under start_of after_come count
empty_is t done pressed zero = refl
empty_is t done pressed (suc n) = omega (arith, empty_is t done pressed n)

module _ (t : Table) (r : Ranged t) (done : ℕ → Bool) (pressed : ℕ → ℕ) where
  -- The slots given to a task are those that it owned.
  pub given_is : (n i : ℕ) → i < t.count → given_of (state_under t done pressed n) i ≡ count (λ k. eqb (owner_under t done pressed k) i) n
  unfolding state_under start_of count
  given_is zero i l = get_d_same task_limit 0 i
  given_is (suc n) i l =
      omega (
        arith,
        given_come t r (state_under t done pressed n) (done n) (comes t (state_under t done pressed n) (pressed n))
            (belongs_under t r done pressed n) i l,
        given_is n i l,
      )

  pub slots_are : (n : ℕ) → slot_count t (state_under t done pressed n) ≡ n
  unfolding state_under start_of slot_count
  slots_are zero = omega (arith, sum_zero t.count (given_of (start_of t)) (λ i l. get_d_same task_limit 0 i))
  slots_are (suc n) =
      omega (
        arith,
        slots_come t r (state_under t done pressed n) (done n) (comes t (state_under t done pressed n) (pressed n))
            (belongs_under t r done pressed n),
        slots_are n,
      )
