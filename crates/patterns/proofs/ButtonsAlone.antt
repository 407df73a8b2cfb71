-- BUTTONS ALONE (`buttons_iff`): of a table whose tasks are all buttons, distance pass says exactly that for all arrivals that respect it some
-- schedule is good.
use Rattle.std.specs.Prelude.{◌≡◌, ◌↔◌, true, false, ℕ, ◌<◌}
use Rattle.std.proofs.Math.Path.{refl}
use Rattle.std.proofs.Math.Bool.{not}
use Rattle.std.proofs.Common.{true≢false, arith}
use Rattle.std.proofs.Math.Dec.{T}
use Rattle.values.specs.declared.Sort.{Sort}
use Rattle.values.specs.declared.Table.{Table}
use Rattle.model.specs.Notation.{some}
use Rattle.model.specs.Tasks.{task, button_sort, sort_offset, is_button, offset}
use Rattle.model.specs.Demand.{Arrivals, releases}
use Rattle.model.specs.Schedule.{Schedule, Good}
use Rattle.model.specs.Arrivals.{Respects, GoodFor}
use Rattle.model.specs.Patterns.{simultaneous, quick_pass, distance_pass}
use Rattle.counting.specs.Count.{is_false, some_iff}
use Rattle.wellformed.specs.Ranges.{Ranged}
use Rattle.patterns.specs.Starting.{starting_task_lem, starting_count}
use Rattle.patterns.specs.Quick.{quick_iff}
use Rattle.patterns.proofs.MixedGood.{mixed_good}
use Rattle.patterns.specs.GoodReleased.{good_released, releases_respect}

-- A button has no offset.
pub button_from_0 : (s : Sort) → button_sort s ≡ true → sort_offset s ≡ 0
button_from_0 (Sort.Periodic o) e = let z : false ≡ true = e in absurd (true≢false (rw z))
button_from_0 Sort.Button e = refl

module _ (t : Table) (r : Ranged t) (all : (i : ℕ) → i < t.count → is_button (task t i) ≡ true) where
  -- Then distance pass is quick pass.
  pub buttons_quick : distance_pass t ≡ quick_pass t
  unfolding distance_pass quick_pass
  buttons_quick = rw (is_false (some (λ i. not (is_button (task t i))) t.count) none) refl
    where
      none : T (some (λ i. not (is_button (task t i))) t.count) → ⊥
      none h = let (i, l, x) = (some_iff (λ i. not (is_button (task t i))) t.count).0 h in rw (all i l) at x

  -- As periodic tasks they start at 0 already.
  from_0 : (σ : Schedule) → Good t σ → Good (simultaneous t) σ
  unfolding Good
  from_0 σ good i j l =
      let n : i < t.count = omega (arith, starting_count t r (λ k. 0)) in
      let e : offset (task t i) ≡ 0 = button_from_0 (task t i).sort (all i n) in
      rw (starting_task_lem t r (λ k. 0) i n) (rw e at (good i j n))

  pub buttons_iff : T (distance_pass t) ↔ ((a : Arrivals) → Respects t a → (σ : Schedule) × GoodFor t a σ)
  buttons_iff = (mixed_good t r, λ h. back (h (releases t) (releases_respect t r)))
    where
      back : (σ : Schedule) × GoodFor t (releases t) σ → T (distance_pass t)
      back (σ, good) = rw buttons_quick ((quick_iff t r).1 (σ, from_0 σ ((good_released t r σ).0 good)))
