-- ASKED BY AN INSTANT (`quick_asked`): a table passes quickly exactly if its load is at most 1 and, with all offsets 0, the jobs due by any instant u
-- ask for at most u slots.
use Rattle.std.specs.Prelude.{◌≡◌, ◌↔◌, ℕ, ◌+◌, ◌-◌, ◌*◌, ◌/◌, ◌≤◌, ◌<◌, T}
use Rattle.std.proofs.Math.Path.{refl}
use Rattle.std.proofs.Common.{◌∙◌, le-div_iff_mul-le, div-mul-le_self, arith}
use Rattle.std.proofs.Math.Nat.{lt-div-mul-add, div-eq_of_lt, mul-add-div_right, mul-le-mul_left}
use Rattle.std.proofs.Math.Decide.{dec_lt}
use Rattle.values.specs.declared.Task.{Task}
use Rattle.values.specs.declared.Table.{Table}
use Rattle.model.specs.Tasks.{task, offset, round, load}
use Rattle.model.specs.Demand.{jobs_in, demand, asks_too_much}
use Rattle.model.specs.Patterns.{simultaneous, quick_pass}
use Rattle.counting.specs.Sum.{sum_eq, sum_le, sum_zero}
use Rattle.wellformed.specs.Ranges.{InRange, Ranged}
use Rattle.wellformed.specs.Closed.{jobs_closed}
use Rattle.backlog.specs.TooMuch.{too_much_iff}
use Rattle.backlog.proofs.Feasible.{feasible_iff}
use Rattle.patterns.specs.Starting.{starting_task, starting_task_lem, starting_count}
use Rattle.patterns.specs.Quick.{quick_light, simultaneous_ranged, quick_iff}
use Rattle.patterns.specs.Asked.{due_by, asked_of, asked}

module _ (k : Task) (r : InRange k) where
  -- None is due by 0, and no fewer by a later instant.
  due_none : due_by k 0 ≡ 0
  due_none = div-eq_of_lt (omega (arith, r.period_pos, r.deadline_pos))

  due_mono : (u v : ℕ) → u ≤ v → due_by k u ≤ due_by k v
  due_mono u v h = (le-div_iff_mul-le r.period_pos).1 (omega (arith, div-mul-le_self (u + k.period - k.deadline) k.period))

  module _ (at-0 : offset k ≡ 0) where
    -- The jobs inside an interval, of a task that starts at 0.
    jobs_from : (from to : ℕ) → jobs_in k from to ≡ due_by k to - (from + (k.period - 1)) / k.period
    jobs_from from to =
        let due : to + k.period - (offset k + k.deadline) ≡ to + k.period - k.deadline = omega arith in
        let released : from - offset k + (k.period - 1) ≡ from + (k.period - 1) = omega arith in
        jobs_closed k r from to ∙ rw (due, released)

    -- From 0 on they are all that are due; and no interval has more than the one from 0 on that is as long.
    jobs_all : (u : ℕ) → jobs_in k 0 u ≡ due_by k u
    jobs_all u = omega (arith, jobs_from 0 u, div-eq_of_lt {n = 0 + (k.period - 1)} {m = k.period} (omega (arith, r.period_pos)))

    jobs_le : (from to : ℕ) → from ≤ to → jobs_in k from to ≤ due_by k (to - from)
    jobs_le from to h =
        let before = (from + (k.period - 1)) / k.period in
        let inside = to - from + k.period - k.deadline in
        let room : due_by k to * k.period ≤ before * k.period + inside = omega (
          arith,
          div-mul-le_self (to + k.period - k.deadline) k.period,
          lt-div-mul-add {a = from + (k.period - 1)} r.period_pos,
          r.period_pos,
          r.deadline_le,
        ) in
        let split : due_by k to ≤ before + inside / k.period = rw (mul-add-div_right r.period_pos before inside) at
        ((le-div_iff_mul-le r.period_pos).1 room) in
        omega (arith, jobs_from from to)

module _ (t : Table) (r : Ranged t) where
  -- Nothing is asked for by 0, and no less by a later instant.
  pub asked_none : asked t 0 ≡ 0
  unfolding asked
  asked_none = sum_zero t.count (asked_of t 0) (λ i l. rw (due_none (task t i) (r.each i l)) (omega arith))

  pub asked_mono : (u v : ℕ) → u ≤ v → asked t u ≤ asked t v
  unfolding asked
  asked_mono u v h = sum_le t.count (asked_of t u) (asked_of t v) (λ i l. mul-le-mul_left (task t i).cost (due_mono (task t i) (r.each i l) u v h))

  started : (i : ℕ) → i < t.count → InRange (starting_task 0 (task t i))
  started i l = rw (starting_task_lem t r (λ i. 0) i l) at ((simultaneous_ranged t r).each i (omega (arith, starting_count t r (λ i. 0))))

  -- What an interval of the simultaneous table asks for: from 0 on just this, and else no more than the one from 0 on that is as long.
  demand_all : (u : ℕ) → demand (simultaneous t) 0 u ≡ asked t u
  unfolding demand asked
  demand_all u =
      rw (starting_count t r (λ i. 0)) (sum_eq t.count _ _ (λ i l. rw (
        starting_task_lem t r (λ i. 0) i l,
        jobs_all (starting_task 0 (task t i)) (started i l) refl u,
      ) refl))

  demand_le : (from to : ℕ) → from ≤ to → demand (simultaneous t) from to ≤ asked t (to - from)
  unfolding demand asked
  demand_le from to h =
      rw (starting_count t r (λ i. 0))
      (sum_le t.count _ _
      (λ i l. rw (starting_task_lem t r (λ i. 0) i l)
      (mul-le-mul_left (task t i).cost (jobs_le (starting_task 0 (task t i)) (started i l) refl from to h))))

  pub quick_asked : T (quick_pass t) ↔ ((load t ≤ round t) × ((u : ℕ) → asked t u ≤ u))
  quick_asked = (λ h. (quick_light t h, never h), λ (light, h). (quick_iff t r).1 ((feasible_iff (simultaneous t) (simultaneous_ranged t r)).1 (none h)))
    where
      never : T (quick_pass t) → (u : ℕ) → asked t u ≤ u
      never h u = elim (dec_lt u (asked t u)) [
        | yes p ↦
            let some : 0 < u = elim (dec_lt 0 u) [ yes q ↦ q | no q ↦ (let e : u ≡ 0 = omega arith in absurd (omega (arith, asked_none, rw e at p))) ] in
            let feasible = (feasible_iff (simultaneous t) (simultaneous_ranged t r)).0 ((quick_iff t r).0 h) in
            absurd (feasible 0 u ((too_much_iff (simultaneous t) 0 u).1 (some, omega (arith, demand_all u))))
        | no p ↦ omega arith
      ]

      none : ((u : ℕ) → asked t u ≤ u) → (from to : ℕ) → T (asks_too_much (simultaneous t) from to) → ⊥
      none h from to x = let (a, b) = (too_much_iff (simultaneous t) from to).0 x in omega (arith, demand_le from to (omega arith), h (to - from))
