-- THE CRITERION FOR ARRIVALS (`good_for_iff`): for arrivals that respect a table some schedule is good exactly if no interval asks for more than its length.
use Rattle.std.specs.Prelude.{◌≡◌, refl, ◌↔◌, ◌&&◌, ℕ, ◌+◌, ◌-◌, ◌*◌, ◌≤◌, ◌<◌}
use Rattle.std.proofs.Math.Path.{ap}
use Rattle.std.proofs.Common.{◌∙◌}
use native.Mathlib.Omega.{arith}
use Rattle.std.proofs.Math.Dec.{T, leb}
use Rattle.values.specs.declared.Table.{Table}
use Rattle.model.specs.Notation.{count}
use Rattle.model.specs.Tasks.{task}
use Rattle.model.specs.Demand.{Arrivals, arrived_in, demand_for}
use Rattle.model.specs.Schedule.{Schedule, belongs}
use Rattle.model.specs.Arrivals.{Respects, GoodFor}
use Rattle.counting.specs.Count.{tests, and_iff}
use Rattle.counting.specs.Sum.{sum_eq}
use Rattle.counting.specs.Below.{below_at}
use Rattle.counting.specs.Enumerate.{count_enumerated, count_inside_enumerated}
use Rattle.wellformed.specs.Ranges.{Ranged}
use Rattle.backlog.specs.Criterion.{demand, late_iff_over}
use Rattle.backlog.specs.Necessary.{used, costs_fit, given_used}
use Rattle.backlog.specs.StreamRun.{run_of, stream_run}
use Rattle.patterns.proofs.Arrivals.{comes_at, comes_enumerates}
use Rattle.patterns.proofs.OnTheWay.{before, before_dues, on_time_good}

module _ (t : Table) (r : Ranged t) (a : Arrivals) (k : Respects t a) where
  -- The demand for arrivals up to an instant is that of the streams of what arrives before.
  pub demand_for_streams : (from to : ℕ) → demand_for t a from to ≡ demand (before t r a k to) (before_dues t r a k to) from to
  unfolding arrived_in demand
  demand_for_streams from to =
      sum_eq t.count _ _
      (λ i l. ap (λ (n : ℕ). (task t i).cost * n)
      (count_inside_enumerated (a i) (comes_at t a to i) ((before t r a k to).rel_grows i l) from (task t i).deadline to
      (comes_enumerates t a k to i l) (r.each i l).deadline_pos))

  -- No interval asks for more than its length.
  abbrev pub Fits : Type 0
  Fits = (from to : ℕ) → from < to → demand_for t a from to ≤ to - from

  -- A good schedule leaves no other.
  needs : (σ : Schedule) → GoodFor t a σ → (from to : ℕ) → demand_for t a from to ≤ to - from
  unfolding GoodFor demand
  needs σ good from to =
      omega (
        arith,
        demand_for_streams from to,
        costs_fit σ from to t.count (λ i. (task t i).cost) (λ i j. leb from (comes_at t a to i j) && leb (comes_at t a to i j + (task t i).deadline) to) has to,
      )
    where
      has : (i j : ℕ) → i < t.count → T (leb from (comes_at t a to i j) && leb (comes_at t a to i j + (task t i).deadline) to)
          → (task t i).cost ≤ used σ from to (belongs i j)
      has i j l h =
          let (x, y) = (and_iff (leb from (comes_at t a to i j)) (leb (comes_at t a to i j + (task t i).deadline) to)).0 h in
          let early : comes_at t a to i j < to = omega (tests, (r.each i l).deadline_pos) in
          let here : T (a i (comes_at t a to i j)) = (comes_enumerates t a k to i l (comes_at t a to i j) early).1 (j, refl) in
          let number : count (a i) (comes_at t a to i j) ≡ j = count_enumerated (a i) (comes_at t a to i) ((before t r a k to).rel_grows i l) to
          (comes_enumerates t a k to i l) (comes_at t a to i j) (omega arith) ∙ below_at (comes_at t a to i) ((before t r a k to).rel_grows i l) j in
          omega (
            arith,
            rw number at (good i (comes_at t a to i j) l here),
            given_used σ from to i j (comes_at t a to i j)
                (comes_at t a to i j + (task t i).deadline) (omega tests) (omega tests),
          )

  pub good_for_iff : ((σ : Schedule) × GoodFor t a σ) ↔ Fits
  good_for_iff = (
    λ (σ, good) from to l. needs σ good from to,
    λ fits. on_time_good t r a k
        (λ n h. late fits n ((late_iff_over (before t r a k n) (before_dues t r a k n) (run_of (before t r a k n)) (stream_run (before t r a k n)) n).0 h)),
  )
    where
      late : Fits → (n : ℕ) → (from : ℕ) × (from < n) × (n - from < demand (before t r a k n) (before_dues t r a k n) from n) → ⊥
      late fits n (from, l, h) = absurd (omega (arith, fits from n l, demand_for_streams from n))
