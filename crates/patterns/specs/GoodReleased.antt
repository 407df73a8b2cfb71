-- GOOD FOR RELEASES (`good_released`): the good schedules of a table are those that are good for its releases as arrivals.
use Rattle.std.specs.Prelude.{◌≡◌, refl, ◌↔◌, cond, ℕ, suc, ◌+◌, ◌≤◌, ◌<◌, T}
use Rattle.std.proofs.Math.Path.{subst}
use Rattle.std.proofs.Common.{◌∙◌, mul-le-mul_right, arith}
use Rattle.values.specs.declared.Table.{Table}
use Rattle.model.specs.Notation.{count}
use Rattle.model.specs.Tasks.{task, is_button, release}
use Rattle.model.specs.Demand.{Arrivals, released, releases}
use Rattle.model.specs.Schedule.{Schedule, given, Good}
use Rattle.model.specs.Arrivals.{Respects, GoodFor}
use Rattle.counting.specs.Below.{Grows, below_at, grows_lt}
use Rattle.counting.specs.Enumerate.{count_enumerated}
use Rattle.wellformed.specs.Ranges.{Ranged}
use Rattle.wellformed.specs.Demand.{released_enumerates}

module _ (t : Table) (r : Ranged t) where
  grows : (i : ℕ) → i < t.count → Grows (release (task t i))
  grows i l j = omega (arith, (r.each i l).period_pos)

  -- Job j of a task is the one that arrives with j before it.
  number : (i j : ℕ) → i < t.count → count (releases t i) (release (task t i) j) ≡ j
  number i j l =
      count_enumerated (releases t i) (release (task t i)) (grows i l) (release (task t i) j) (released_enumerates (task t i) (release (task t i) j))
      (release (task t i) j) (omega arith) ∙ below_at (release (task t i)) (grows i l) j

  pub good_released : (σ : Schedule) → GoodFor t (releases t) σ ↔ Good t σ
  unfolding GoodFor Good
  good_released σ = (
    λ h i j l. rw (number i j l) at
        (h i (release (task t i) j) l ((released_enumerates (task t i) (suc (release (task t i) j)) (release (task t i) j) (omega arith)).1 (j, refl))),
    λ h i u l x.
        let (j, e) = (released_enumerates (task t i) (suc u) u (omega arith)).0 x in
        subst (λ (v : ℕ). (task t i).cost ≤ given σ i (count (releases t i) v) v (v + (task t i).deadline)) e (rw (number i j l) (h i j l)),
  )

  -- Whatever presses keep to the spacings respect a table, with the releases of its periodic tasks: none, one at any time, or ever more.
  pub presses_respect : (a : Arrivals) → ((i u v : ℕ) → i < t.count → T (a i u) → T (a i v) → u < v → u + (task t i).period ≤ v)
      → Respects t (λ i u. cond (is_button (task t i)) (a i u) (released (task t i) u))
  presses_respect a apart = record {
    periodic = λ i u l e. rw e refl;
    spaced = λ i u v l e x y h. apart i u v l (rw e at x) (rw e at y) h;
  }

  -- Its releases respect a table: a button comes at 0, and then as soon as it can.
  pub releases_respect : Respects t (releases t)
  releases_respect = record {
    periodic = λ i u l e. refl;
    spaced = λ i u v l e x y h.
        let (j, p) = (released_enumerates (task t i) (suc u) u (omega arith)).0 x in
        let (m, q) = (released_enumerates (task t i) (suc v) v (omega arith)).0 y in
        let n : suc j ≤ m = grows_lt (release (task t i)) (grows i l) j m (omega arith) in
        omega (arith, mul-le-mul_right (task t i).period n);
  }
