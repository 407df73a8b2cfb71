-- THE ROOM TOLD (`room_right`): where the distance test passes a table, the room of a task is a cost with which it passes, and no larger one up to the
-- deadline is.
use Rattle.values.specs.declared.ByDistance.{ByDistance}
use Rattle.std.proofs.Math.Path.{◌≡◌, refl}
use Rattle.std.specs.Prelude.{◌⊎◌, ◌↔◌, T, ltb, Ok, Err}
use Rattle.std.proofs.Math.Logic.{inl}
use Rattle.std.proofs.Common.{inr, ltb-true}
use Rattle.std.proofs.Math.Bool.{Bool, true, false, cond}
use Prim.Native.Nat.{ℕ, suc, ◌+◌, ◌≤◌, ◌<◌}
use Rattle.std.proofs.Math.Decide.{dec_le}
use native.Mathlib.Omega.{arith}
use Rattle.values.specs.declared.Table.{Table}
use Rattle.values.specs.declared.Refusal.{Refusal}
use Rattle.values.specs.declared.Measure.{Measure}
use Rattle.model.specs.Limits.{slot_limit}
use Rattle.model.specs.Values.{refusal, Judgement, DistanceAnswer}
use Rattle.model.specs.Notation.{last}
use Rattle.model.specs.Tasks.{task, measure, judged_mixed}
use Rattle.model.specs.Patterns.{light, distance_pass, distance_judged, distance_answer}
use Rattle.model.specs.Report.{refusal_number}
use Rattle.model.specs.Largest.{with_cost}
use Rattle.model.specs.Room.{room_with, room, room_told, room_judged, room_answer}
use Rattle.counting.specs.Search.{last_lt, last_behind, last_passes}
use Rattle.wellformed.specs.Ranges.{Ranged}
use Rattle.wellformed.specs.WellFormed.{mixed_iff, mixed_of}
use Rattle.wellformed.specs.Refused.{Tellable, JudgementTellable, mixed_tellable}
use Rattle.backlog.proofs.Largest.{ranged_with, round_with}
use Rattle.patterns.proofs.DistancePass.{distance_case, distance_told}
use Rattle.patterns.proofs.Room.{own_room}

module _ (t : Table) (m : Measure) (well : judged_mixed t ≡ Ok m) (i : ℕ) (l : i < t.count) where
  ranged : Ranged t
  ranged = ((mixed_iff t m).0 well).0

  answer_with : (c : ℕ) → 1 ≤ c → c ≤ (task t i).deadline → (distance_answer (with_cost t i c) ≡ Ok ByDistance.Pass) ↔ T (room_with t i c)
  unfolding distance_answer
  answer_with c a b = (
    λ e. (distance_case (with_cost t i c) (judged_mixed (with_cost t i c)) e).1,
    λ h. rw (mixed_of (with_cost t i c) (ranged_with t ranged i l c a b) (omega (arith, ((mixed_iff t m).0 well).1, round_with t ranged i l c a b)))
        (distance_told (with_cost t i c) (measure (with_cost t i c)) h),
  )

  pub room_right : distance_answer t ≡ Ok ByDistance.Pass → let c = room t i in
      ((task t i).cost ≤ c) × (c ≤ (task t i).deadline) × (distance_answer (with_cost t i c) ≡ Ok ByDistance.Pass)
      × ((larger : ℕ) → c < larger → larger ≤ (task t i).deadline → distance_answer (with_cost t i larger) ≡ Ok ByDistance.Pass → ⊥)
  unfolding room
  room_right pass = (
    low,
    high,
    (answer_with _ (omega (arith, low, some)) high).1 (last_passes p n (task t i).cost own mine),
    λ d x y w. last_behind p n d x (omega arith) ((answer_with d (omega (arith, low, some)) y).0 w),
  )
    where
      p : ℕ → Bool
      p = room_with t i

      n : ℕ
      n = suc (task t i).deadline

      some : 1 ≤ (task t i).cost
      some = (ranged.each i l).cost_pos

      own : (task t i).cost < n
      own = omega (arith, (ranged.each i l).cost_le)

      mine : T (p (task t i).cost)
      mine = own_room t m well i l pass

      low : (task t i).cost ≤ last p n
      low = elim (dec_le (task t i).cost (last p n)) [ yes h ↦ h | no h ↦ absurd (last_behind p n (task t i).cost (omega arith) own mine) ]

      high : last p n ≤ (task t i).deadline
      high = omega (arith, last_lt p n (omega arith))

-- The number is at most 60,003, or that of a refusal.
module _ (t : Table) (i : ℕ) (below : i < 65536) where
  abbrev Apart : ℕ → Type 0
  Apart n = (n ≤ slot_limit + 3) ⊎ ((r : Refusal) × (n ≡ refusal_number r) × Tellable r)

  by_answer : (m : Measure) → judged_mixed t ≡ Ok m → i < t.count → (a : DistanceAnswer) → distance_answer t ≡ a → Apart (room_told t i a)
  unfolding distance_answer
  by_answer m well l (Err r) e = absurd (none (rw well at e))
    where
      none : distance_judged t (Ok m) ≡ Err r → ⊥
      none = unrefused (light t) (distance_pass t) r
        where
          unrefused : (a b : Bool) (r : Refusal)
              → cond a (cond b (Ok ByDistance.Pass) (Ok ByDistance.NoAnswer)) (Ok ByDistance.Overload) ≡ Err r → ⊥
          unrefused true true r q = let z : ◌≡◌ {A = ℕ} 0 1 = cc in omega arith
          unrefused true false r q = let z : ◌≡◌ {A = ℕ} 0 1 = cc in omega arith
          unrefused false b r q = let z : ◌≡◌ {A = ℕ} 0 1 = cc in omega arith
  by_answer m well l (Ok ByDistance.Overload) e = inl (omega arith)
  by_answer m well l (Ok ByDistance.Pass) e =
      let k = ((mixed_iff t m).0 well).0.each i l in
      inl (omega (arith, (room_right t m well i l e).1, k.deadline_le, k.period_le))
  by_answer m well l (Ok ByDistance.NoAnswer) e = inl (omega arith)

  by_judgement : (j : Judgement) → judged_mixed t ≡ j → JudgementTellable j → Apart (room_judged t i j)
  by_judgement (Err r) e n = inr (r, refl, n)
  by_judgement (Ok m) e n = go (ltb i t.count) refl
    where
      go : (b : Bool) → ltb i t.count ≡ b → Apart (cond b (room_told t i (distance_answer t)) (refusal_number (refusal 12 i)))
      go true q = by_answer m e (ltb-true i t.count q) (distance_answer t) refl
      go false q = inr (refusal 12 i, refl, (omega arith, below))

  pub room_apart : (room_answer t i ≤ slot_limit + 3) ⊎ ((r : Refusal) × (room_answer t i ≡ refusal_number r) × Tellable r)
  unfolding room_answer
  room_apart = by_judgement (judged_mixed t) refl (mixed_tellable t)
