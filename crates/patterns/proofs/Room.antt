-- THE ROOM OF A TABLE (`room_is`): a cost with which the distance test passes, while it does not with the next one, is the largest.
use Rattle.values.specs.declared.ByDistance.{ByDistance}
use Rattle.std.specs.Prelude.{◌≡◌, Bool, cond, ℕ, suc, ◌≤◌, ◌<◌, Ok}
use Rattle.std.proofs.Math.Path.{refl}
use Rattle.std.proofs.Math.Bool.{true, false}
use Rattle.std.proofs.Common.{arith}
use Rattle.std.proofs.Math.Dec.{T}
use Rattle.values.specs.declared.Table.{Table}
use Rattle.values.specs.declared.Measure.{Measure}
use Rattle.model.specs.Tasks.{task, judged_mixed}
use Rattle.model.specs.Patterns.{light, distance_pass, distance_answer}
use Rattle.model.specs.Largest.{with_cost}
use Rattle.model.specs.Room.{room_with, room}
use Rattle.counting.specs.Count.{tests}
use Rattle.counting.specs.Search.{last_is}
use Rattle.wellformed.specs.Ranges.{Ranged}
use Rattle.wellformed.specs.WellFormed.{mixed_iff, mixed_of}
use Rattle.backlog.proofs.Largest.{own_cost, ranged_with, round_with, lowered_with}
use Rattle.patterns.proofs.DistancePass.{distance_light, distance_case}
use Rattle.patterns.proofs.CostsFall.{lowered_distance}
use Rattle.patterns.specs.Room.{is_passed}

module _ (t : Table) (m : Measure) (well : judged_mixed t ≡ Ok m) (i : ℕ) (l : i < t.count) where
  ranged : Ranged t
  ranged = ((mixed_iff t m).0 well).0

  -- Of a table with another cost in range the test says pass exactly if it passes.
  pub passed_with : (c : ℕ) → 1 ≤ c → c ≤ (task t i).deadline → is_passed (distance_answer (with_cost t i c)) ≡ room_with t i c
  unfolding distance_answer
  passed_with c a b =
      let short = ((mixed_iff t m).0 well).1 in
      rw (mixed_of (with_cost t i c) (ranged_with t ranged i l c a b) (omega (arith, short, round_with t ranged i l c a b)))
      (go (light (with_cost t i c)) (distance_pass (with_cost t i c)) (λ h. omega (tests, distance_light (with_cost t i c) h)))
    where
      go : (a b : Bool) → (T b → T a) → is_passed (cond a (cond b (Ok ByDistance.Pass) (Ok ByDistance.NoAnswer)) (Ok ByDistance.Overload)) ≡ b
      go true true f = refl
      go true false f = refl
      go false true f = absurd (f tt)
      go false false f = refl

  -- What passes with more of that cost passes with less.
  pub room_down : (less more : ℕ) → 1 ≤ less → less ≤ more → more ≤ (task t i).deadline → T (room_with t i more) → T (room_with t i less)
  room_down less more a b c =
      lowered_distance (with_cost t i more) (with_cost t i less) (ranged_with t ranged i l more (omega arith) c)
      (ranged_with t ranged i l less a (omega arith)) (lowered_with t ranged i l less more b)

  pub own_room : distance_answer t ≡ Ok ByDistance.Pass → T (room_with t i (task t i).cost)
  unfolding distance_answer
  own_room e = rw (own_cost t i) (distance_case t (judged_mixed t) e).1

  pub room_is : (c : ℕ) → 1 ≤ c → c ≤ (task t i).deadline → T (room_with t i c) → (suc c ≤ (task t i).deadline → T (room_with t i (suc c)) → ⊥) → room t i ≡ c
  unfolding room
  room_is c a b h next =
      last_is (room_with t i) (suc (task t i).deadline) c (omega arith) h
      (λ d x y w. next (omega arith) (room_down (suc c) d (omega arith) x (omega arith) w))
