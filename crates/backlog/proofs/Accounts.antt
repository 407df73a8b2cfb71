-- EVERY SLOT IS COUNTED (`slots_are`): from a start on a table that keeps its ranges the slots that are counted are the steps, and each number is the
-- count in the history of owners.
use Rattle.std.specs.Prelude.{◌≡◌, refl, Bool, eqb}
use Prim.Native.Nat.{ℕ, zero, suc, ◌<◌}
use Rattle.std.proofs.Common.{arith}
use Rattle.values.specs.declared.Table.{Table}
use Rattle.model.specs.Limits.{task_limit}
use Rattle.model.specs.Notation.{count}
use Rattle.model.specs.Run.{Order}
use Rattle.model.specs.Dispatcher.{given_of, slot_count, start_of, after_by}
use Rattle.model.specs.History.{state_at_by, owner_at_by}
use Rattle.counting.specs.Fill.{get_d_same}
use Rattle.counting.specs.Sum.{sum_zero}
use Rattle.wellformed.specs.Ranges.{Ranged}
use Rattle.backlog.specs.Taken.{given_after, slots_after}
use Rattle.backlog.proofs.Stepping.{sound}

-- The empty slots are those that went to none. Of any table.
pub empty_is : (t : Table) (rank : Order) (done : ℕ → Bool) (n : ℕ) → (state_at_by t rank done n).empty ≡ count
    (λ k. eqb (owner_at_by t rank done k) task_limit) n
unfolding state_at_by start_of after_by count
empty_is t rank done zero = refl
empty_is t rank done (suc n) = omega (arith, empty_is t rank done n)

module _ (t : Table) (r : Ranged t) (rank : Order) (done : ℕ → Bool) where
  -- The slots given to a task are those that it owned.
  pub given_is : (n i : ℕ) → i < t.count → given_of (state_at_by t rank done n) i ≡ count (λ k. eqb (owner_at_by t rank done k) i) n
  unfolding state_at_by start_of count
  given_is zero i l = get_d_same task_limit 0 i
  given_is (suc n) i l = omega (arith, given_after t r rank (state_at_by t rank done n) (done n) (sound t r rank done n).belongs i l, given_is n i l)

  pub slots_are : (n : ℕ) → slot_count t (state_at_by t rank done n) ≡ n
  unfolding state_at_by start_of slot_count
  slots_are zero = omega (arith, sum_zero t.count (given_of (start_of t)) (λ i l. get_d_same task_limit 0 i))
  slots_are (suc n) = omega (arith, slots_after t r rank (state_at_by t rank done n) (done n) (sound t r rank done n).belongs, slots_are n)
