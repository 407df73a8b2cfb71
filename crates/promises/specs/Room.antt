-- THE ROOM OF A TABLE WITH BUTTONS (section 3.12 of the specification): the number told passes the distance test, and no larger
-- one within the deadline does; with lower costs the test still passes.
use Rattle.values.specs.declared.ByDistance.{ByDistance}
use Rattle.std.specs.Prelude.{◌≡◌, ◌⊎◌, List, ℕ, ◌+◌, min, ◌≤◌, ◌<◌, Ok, Err}
use Rattle.std.proofs.Common.{◌∙◌, inl, inr, arith}
use Rattle.std.proofs.Math.Decide.{dec_lt}
use borrow.Author.Tests.{le-ltb, lt-ltb}
use Rattle.values.specs.declared.Table.{Table}
use Rattle.values.specs.declared.Refusal.{Refusal}
use Rattle.values.specs.declared.Measure.{Measure}
use Rattle.model.specs.Limits.{slot_limit}
use Rattle.model.specs.Values.{refusal}
use Rattle.model.specs.Tasks.{task, judged_mixed}
use Rattle.model.specs.Patterns.{distance_answer}
use Rattle.model.specs.TableFile.{file_read}
use Rattle.model.specs.Report.{refusal_number}
use Rattle.model.specs.Easing.{Lowered}
use Rattle.model.specs.Largest.{with_cost}
use Rattle.model.specs.Room.{room, room_told, room_answer, room_exported}
use Rattle.wellformed.specs.WellFormed.{well_mixed}
use Rattle.patterns.proofs.DistancePass.{distance_case, distance_told}
use Rattle.patterns.proofs.CostsFall.{lowered_distance}
use Rattle.tablefile.specs.Refused.{read_tellable}
use Rattle.telling.specs.Refusals.{admitted_or_told}
use Rattle.telling.specs.Rooms as rooms
use Rattle.promises.specs.FileNumbers.{refused_file_lem, read_file}

-- What the distance test passes it passes with costs alone lowered.
pub lower_costs_pass : (t t' : Table) (m m' : Measure)
    → judged_mixed t ≡ Ok m → judged_mixed t' ≡ Ok m' → Lowered t t'
    → distance_answer t ≡ Ok ByDistance.Pass → distance_answer t' ≡ Ok ByDistance.Pass
unfolding distance_answer
lower_costs_pass t t' m m' well well' e pass =
    let p = (distance_case t (judged_mixed t) pass).1 in
    rw well' (distance_told t' m' (lowered_distance t t' (well_mixed t m well).ranged (well_mixed t' m' well').ranged e p))

-- The table's refusal comes first, and then 12 for a number that is none of its tasks', at that number.
pub room_refused : (t : Table) (i : ℕ) (r : Refusal) → judged_mixed t ≡ Err r → room_answer t i ≡ refusal_number r
unfolding room_answer
room_refused t i r e = rw e

-- The number is at least the present cost and at most the deadline. With it the distance test passes, and with a larger one up
-- to the deadline it does not.
pub record RoomRight (t : Table) (i c : ℕ) : Type 0 where
  pub at_least : (task t i).cost ≤ c
  pub at_most : c ≤ (task t i).deadline
  pub passes : distance_answer (with_cost t i c) ≡ Ok ByDistance.Pass
  pub none_larger : (larger : ℕ) → c < larger → larger ≤ (task t i).deadline
      → distance_answer (with_cost t i larger) ≡ Ok ByDistance.Pass → ⊥

module _ (t : Table) (m : Measure) (well : judged_mixed t ≡ Ok m) (i : ℕ) where
  pub room_no_such_task : t.count ≤ i → room_answer t i ≡ refusal_number (refusal 12 i)
  unfolding room_answer
  room_no_such_task l = rw (well, le-ltb i t.count l)

  -- Of a table that does not pass the answer says so, by the test's own, and gives no number.
  pub room_by_answer : i < t.count → room_answer t i ≡ room_told t i (distance_answer t)
  unfolding room_answer
  room_by_answer l = rw (well, lt-ltb i t.count l)

  pub room_exactly : i < t.count → distance_answer t ≡ Ok ByDistance.Pass → RoomRight t i (room_answer t i)
  room_exactly l pass =
      let is : room_answer t i ≡ room t i = room_by_answer l ∙ rw pass in
      let (low, high, passes, none) = rooms.room_right t m well i l pass in
      rw is (record { at_least = low; at_most = high; passes = passes; none_larger = none })

-- Only one number is right.
pub one_room : (t : Table) (i c d : ℕ) → RoomRight t i c → RoomRight t i d → c ≡ d
one_room t i c d a b = elim (dec_lt c d) [
  | yes l ↦ absurd (a.none_larger d l b.at_most b.passes)
  | no l ↦ elim (dec_lt d c) [ yes k ↦ absurd (b.none_larger c k a.at_most a.passes) | no k ↦ omega arith ]
]

-- A refused file is refused as by reading it; of any other its table is answered for.
pub room_refused_file : (file : List ℕ) (i : ℕ) (r : Refusal)
    → (file_read file).admission ≡ Err r → room_exported file i ≡ refusal_number r
room_refused_file file i = refused_file_lem file (λ t. room_answer t (min i 65535)) (λ t r e. room_refused t (min i 65535) r e)

pub room_exported_lem : (file : List ℕ) (i : ℕ) → (file_read file).admission ≡ Ok tt
    → room_exported file i ≡ room_answer (file_read file).table (min i 65535)
room_exported_lem file i = read_file file (λ t. room_answer t (min i 65535))

-- A number up to 60,003 is an answer; any other is the refusal of the file or of the task,
-- by a number above 0 and a place below 65,536.
pub room_or_refusal : (file : List ℕ) (i : ℕ) → let n = room_exported file i in
    (n ≤ slot_limit + 3) ⊎ ((r : Refusal) × (n ≡ refusal_number r) × ((0 < r.number) × (r.place < 65536)))
room_or_refusal file i = elim (admitted_or_told (file_read file).admission (read_tellable file)) [
  | inr (r, e, h) ↦ inr (r, room_refused_file file i r e, h)
  | inl e ↦ rw (room_exported_lem file i e) (rooms.room_apart (file_read file).table (min i 65535) (omega arith))
]
