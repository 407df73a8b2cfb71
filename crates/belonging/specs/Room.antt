-- How many slots a state that belongs to a table can still count.
use Rattle.std.specs.Prelude.{◌≡◌, refl, List, Result, Ok, Err, cond, ℕ, suc, ◌+◌, ◌-◌, ◌≤◌, ◌<◌, ltb}
use Rattle.std.proofs.Math.Path.{ap}
use Rattle.std.proofs.Common.{add-one, lt-ltb, le-ltb}
use native.Mathlib.Omega.{arith}
use Rattle.std.proofs.Math.ListN.{get_or}
use Rattle.values.specs.declared.Table.{Table}
use Rattle.values.specs.declared.Refusal.{Refusal}
use Rattle.model.specs.Limits.{slot_count_limit, sum_place}
use Rattle.model.specs.Notation.{sum}
use Rattle.model.specs.Values.{refusal, Admission}
use Rattle.model.specs.Tasks.{measure}
use Rattle.model.specs.Dispatcher.{State, slot_count, admitted_by}
use Rattle.counting.specs.Sum.{sum_longer}

-- By whether a state is admitted, and the slots that it counts.
abbrev pub room_by : Admission → ℕ → Result ℕ Refusal
room_by (Err r) slots = Err r
room_by (Ok u) slots = Ok (slot_count_limit - slots)

-- Of a well-formed table; and where nothing but the sum can be against a state.
abbrev pub belonging : Table → State → Result ℕ Refusal
belonging t d = room_by (admitted_by t d (Ok (measure t))) (slot_count t d)

unfoldable pub room_for : List ℕ → ℕ → ℕ → Result ℕ Refusal
room_for given empty n =
    let slots = sum n (λ i. get_or given i 0) + empty in
    room_by (cond (ltb slot_count_limit slots) (Err (refusal 8 sum_place)) (Ok tt)) slots

-- What the room tells of the admission.
pub refused_tells : (a : Admission) (slots : ℕ) (r : Refusal) → room_by a slots ≡ Err r → a ≡ Err r
refused_tells (Err q) slots r e = let same : q ≡ r = cc in rw same
refused_tells (Ok u) slots r e = let z : ◌≡◌ {A = ℕ} 0 1 = cc in absurd (omega arith)

pub slots_tell : (a : Admission) (slots room : ℕ) → room_by a slots ≡ Ok room → (a ≡ Ok tt) × (room ≡ slot_count_limit - slots)
slots_tell (Err q) slots room e = let z : ◌≡◌ {A = ℕ} 0 1 = cc in absurd (omega arith)
slots_tell (Ok u) slots room e = (refl, cc)

-- What is left once the first i counts are taken from what can be counted.
abbrev pub Left : List ℕ → ℕ → ℕ → ℕ → Type 0
Left given empty i room = room + (sum i (λ k. get_or given k 0) + empty) ≡ slot_count_limit

pub room_start : (given : List ℕ) (empty : ℕ) → empty ≤ slot_count_limit → Left given empty 0 (slot_count_limit - empty)
unfolding sum
room_start given empty l = omega arith

-- A count that is above what is left is one too many; else it is taken; at the end the rest is told.
module _ (given : List ℕ) (empty n i room : ℕ) (e : Left given empty i room) where
  pub room_again : get_or given i 0 ≤ room → Left given empty (i + 1) (room - get_or given i 0)
  unfolding sum
  room_again l = rw (add-one i) (omega arith)

  pub room_beyond : i < n → room < get_or given i 0 → Err (refusal 8 sum_place) ≡ room_for given empty n
  unfolding room_for sum
  room_beyond l h = rw (lt-ltb slot_count_limit (sum n (λ k. get_or given k 0) + empty)
      (omega (arith, sum_longer (λ k. get_or given k 0) (suc i) n (omega arith))))

  pub room_end : i ≡ n → Ok room ≡ room_for given empty n
  unfolding room_for
  room_end same =
      let all : sum i (λ k. get_or given k 0) ≡ sum n (λ k. get_or given k 0) = ap (λ (k : ℕ). sum k (λ k. get_or given k 0)) same in
      let rest : slot_count_limit - (sum n (λ k. get_or given k 0) + empty) ≡ room = omega arith in
      rw (le-ltb slot_count_limit (sum n (λ k. get_or given k 0) + empty) (omega arith), rest)
