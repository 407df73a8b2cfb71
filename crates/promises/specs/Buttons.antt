-- TASKS THAT COME WHEN THEY LIKE (section 3.9 of the specification):
-- pass is said only of tables that have a good schedule for all arrivals that respect them.
use Rattle.values.specs.declared.ByDistance.{ByDistance}
use Rattle.std.specs.Prelude.{◌≡◌, refl, ◌↔◌, List, true, cond, ◌&&◌, ℕ, ◌+◌, ◌-◌, ◌≤◌, ◌<◌, T, Ok, Err}
use Rattle.std.proofs.Common.{sym, ◌∙◌, arith}
use Rattle.values.specs.declared.Table.{Table}
use Rattle.values.specs.declared.Measure.{Measure}
use Rattle.values.specs.declared.Verdict.{Verdict}
use Rattle.model.specs.Notation.{every, Least}
use Rattle.model.specs.Values.{refusal}
use Rattle.model.specs.Tasks.{task, is_button, round, load, measure, judged_mixed, judged}
use Rattle.model.specs.Demand.{Arrivals, released, demand_for, releases, demand}
use Rattle.model.specs.Schedule.{Schedule, Good}
use Rattle.model.specs.Arrivals.{Respects, GoodFor, as_tasks}
use Rattle.model.specs.Verdict.{verdict}
use Rattle.model.specs.Patterns.{light, calm, pattern, distance_pass, distance_answer}
use Rattle.model.specs.TableFile.{file_read}
use Rattle.model.specs.Report.{distance_exported}
use Rattle.wellformed.specs.WellFormed.{periodic_iff, refused_button, well_mixed, well_formed}
use Rattle.backlog.specs.TooMuch.{too_much_iff}
use Rattle.patterns.proofs.DistancePass.{distance_case, distance_told, distance_light}
use Rattle.patterns.proofs.MixedGood.{mixed_good}
use Rattle.patterns.specs.NoButton.{no_button}
use Rattle.patterns.specs.GoodReleased.{good_released, releases_respect, presses_respect}
use Rattle.patterns.proofs.DemandFor.{good_for_iff}
use Rattle.patterns.proofs.ButtonsAlone.{buttons_iff}
use Rattle.patterns.specs.AsTasks.{as_well, as_respects, as_good}
use Rattle.telling.specs.AsDemand.{as_demand}
use Rattle.promises.specs.Demand2.{overload_rightly, late_rightly, late_exactly}
use Rattle.promises.specs.DistanceTest.{distance_file_pass}

-- Whatever arrives, if it respects the spacings, and for ever or not: some schedule is good for it.
abbrev pub AlwaysGood : Table → Type 0
AlwaysGood t = (a : Arrivals) → Respects t a → (σ : Schedule) × GoodFor t a σ

-- Pass means that; so does 1 of the exported test; and it is not said on overload, in which buttons count.
pub pass_always_good : (t : Table) → distance_answer t ≡ Ok ByDistance.Pass → AlwaysGood t
unfolding distance_answer
pass_always_good t e =
    let ((m, well), p) = distance_case t (judged_mixed t) e in mixed_good t (well_mixed t m well).ranged p

pub file_always_good : (file : List ℕ) → distance_exported file ≡ 1 → AlwaysGood (file_read file).table
file_always_good file e = pass_always_good (file_read file).table (distance_file_pass file e)

pub pass_no_overload : (t : Table) → distance_answer t ≡ Ok ByDistance.Pass → load t ≤ round t
unfolding distance_answer
pass_no_overload t e = distance_light t (distance_case t (judged_mixed t) e).1

module _ (t : Table) (m : Measure) (well : judged_mixed t ≡ Ok m) where
  -- With buttons alone it is said exactly then.
  pub buttons_exactly : ((i : ℕ) → i < t.count → is_button (task t i) ≡ true)
      → (distance_answer t ≡ Ok ByDistance.Pass) ↔ AlwaysGood t
  unfolding distance_answer
  buttons_exactly all =
      (pass_always_good t, λ h. rw well (distance_told t m ((buttons_iff t (well_mixed t m well).ranged all).1 h)))

  -- For arrivals that respect the table some schedule is good exactly if no interval asks for more than its length,
  -- with demand defined once.
  pub arrivals_exactly : (a : Arrivals) → Respects t a
      → ((σ : Schedule) × GoodFor t a σ) ↔ ((from to : ℕ) → from < to → demand_for t a from to ≤ to - from)
  arrivals_exactly a k = good_for_iff t (well_mixed t m well).ranged a k

  -- A table's releases respect it, and are what `Good` speaks of.
  pub releases_are_arrivals : Respects t (releases t) × ((σ : Schedule) → GoodFor t (releases t) σ ↔ Good t σ)
  releases_are_arrivals = let r = (well_mixed t m well).ranged in (releases_respect t r, good_released t r)

  -- So does any pattern of presses that keeps to the spacings, with the releases of the periodic tasks: no press,
  -- one at any time, or one after another.
  pub presses_are_arrivals : (a : Arrivals)
      → ((i u v : ℕ) → i < t.count → T (a i u) → T (a i v) → u < v → u + (task t i).period ≤ v)
      → Respects t (λ i u. cond (is_button (task t i)) (a i u) (released (task t i) u))
  presses_are_arrivals = presses_respect t (well_mixed t m well).ranged

  -- Where only periodic tasks are allowed it is refused by 11 at its lowest button.
  pub refused_by_button : (i : ℕ) → Least (λ k. (k < t.count) × (is_button (task t k) ≡ true)) i
      → judged t ≡ Err (refusal 11 i)
  refused_by_button i = refused_button t m i well

-- Late where it is certain: with every button pressed at 0 and every spacing after, which respects the table, a schedule is
-- good exactly if it is good for the table in which each button is a periodic task of offset 0. That table is well-formed too,
-- so that the exact test judges it.
module _ (t : Table) (m : Measure) (well : judged_mixed t ≡ Ok m) where
  pub as_tasks_exactly : (judged (as_tasks t) ≡ Ok (measure (as_tasks t)))
      × Respects t (releases (as_tasks t))
      × ((σ : Schedule) → GoodFor t (releases (as_tasks t)) σ ↔ Good (as_tasks t) σ)
  as_tasks_exactly = let r = (well_mixed t m well).ranged in (as_well t m well, as_respects t r, as_good t r)

  -- If no schedule is good for that table, none is for those presses. Overload and late, with any budget, say so.
  pub not_always_good : (((σ : Schedule) × Good (as_tasks t) σ) → ⊥) → AlwaysGood t → ⊥
  not_always_good none always =
      let (judges, respects, exactly) = as_tasks_exactly in
      let (σ, good) = always (releases (as_tasks t)) respects in
      none (σ, (exactly σ).0 good)

  pub overload_for_certain : (budget : ℕ) → verdict (as_tasks t) budget ≡ Verdict.Overload
      → ((σ : Schedule) → GoodFor t (releases (as_tasks t)) σ → ⊥) × (AlwaysGood t → ⊥)
  overload_for_certain budget e =
      let (judges, respects, exactly) = as_tasks_exactly in
      let none = overload_rightly (as_tasks t) (measure (as_tasks t)) judges budget e in
      (λ σ good. none σ ((exactly σ).0 good), not_always_good (λ (σ, good). none σ good))

  -- Of those presses the jobs that come from `from` on and are due by `to` ask for `asked` slots, more than there are.
  pub late_for_certain : (budget from to asked : ℕ) → verdict (as_tasks t) budget ≡ Verdict.Late from to asked
      → (from < to) × (demand_for t (releases (as_tasks t)) from to ≡ asked) × (to - from < asked)
      × ((σ : Schedule) → GoodFor t (releases (as_tasks t)) σ → ⊥) × (AlwaysGood t → ⊥)
  late_for_certain budget from to asked e =
      let (judges, respects, exactly) = as_tasks_exactly in
      let none = late_rightly (as_tasks t) (measure (as_tasks t)) judges budget from to asked e in
      let late = (late_exactly (as_tasks t) budget from to asked e).0 in
      let (before, more) = (too_much_iff (as_tasks t) from to).0 late.asks in (
        before,
        sym (late.demands ∙ as_demand t from to),
        omega (arith, more, late.demands),
        λ σ good. none σ ((exactly σ).0 good),
        not_always_good (λ (σ, good). none σ good),
      )

pub demand_of_releases : (t : Table) (from to : ℕ) → demand t from to ≡ demand_for t (releases t) from to
unfolding demand
demand_of_releases t from to = refl

-- Without a button the test is that of periodic tasks alone, and nothing but the releases respects the table.
module _ (t : Table) (m : Measure) (well : judged t ≡ Ok m) where
  pub periodic_pass : distance_pass t ≡ (light t && every (λ i. calm (pattern t i)) t.count)
  periodic_pass = no_button t (well_formed t m well).ranged.some ((periodic_iff t m).0 well).1

  pub only_releases : (a : Arrivals) → Respects t a → (i u : ℕ) → i < t.count → a i u ≡ releases t i u
  only_releases a k i u l = k.periodic i u l (((periodic_iff t m).0 well).1 i l)
