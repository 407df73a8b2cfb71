-- BUTTONS AS TASKS (`as_good`): a schedule is good for a table with every button pressed at 0 and every spacing after exactly if it is good for the table
-- in which each button is a periodic task of offset 0.
use Rattle.std.specs.Prelude.{◌≡◌, refl, ◌↔◌, List, [], ◌∷◌, map, ℕ, zero, suc, ◌+◌, ◌≤◌, ◌<◌, get_or, Ok}
use Rattle.std.proofs.Common.{sym, ap}
use Rattle.std.proofs.Math.Path.{subst}
use Rattle.values.specs.declared.Task.{Task}
use Rattle.values.specs.declared.Table.{Table}
use Rattle.values.specs.declared.Measure.{Measure}
use Rattle.model.specs.Notation.{count}
use Rattle.model.specs.Tasks.{no_task, task, round, measure, judged_mixed, judged}
use Rattle.model.specs.Demand.{releases}
use Rattle.model.specs.Schedule.{Schedule, given, Good}
use Rattle.model.specs.Arrivals.{Respects, GoodFor, as_task, as_tasks}
use Rattle.wellformed.specs.Ranges.{Ranged}
use Rattle.wellformed.specs.Round.{round_same}
use Rattle.wellformed.specs.WellFormed.{mixed_iff, judged_of}
use Rattle.patterns.specs.GoodReleased.{good_released, releases_respect}

each_as : (w : List Task) (i : ℕ) → get_or (map as_task w) i no_task ≡ as_task (get_or w i no_task)
each_as [] i = refl
each_as (k ∷ w) zero = refl
each_as (k ∷ w) (suc i) = each_as w i

module _ (t : Table) where
  pub task_as : (i : ℕ) → task (as_tasks t) i ≡ as_task (task t i)
  task_as = each_as t.tasks

  -- A button that is so pressed arrives as the periodic task does.
  pub as_released : (i u : ℕ) → releases (as_tasks t) i u ≡ releases t i u
  as_released i u = rw (task_as i) refl

  module _ (r : Ranged t) where
    as_ranged : Ranged (as_tasks t)
    as_ranged = record {
      some = r.some;
      few = r.few;
      each = λ i l. let k = r.each i l in rw (task_as i) (record {
        period_pos = k.period_pos;
        period_le = k.period_le;
        deadline_pos = k.deadline_pos;
        deadline_le = k.deadline_le;
        cost_pos = k.cost_pos;
        cost_le = k.cost_le;
        offset_le = k.offset_le;
      });
    }

    -- A job that comes at u has what this task asks for.
    abbrev Had : Schedule → ℕ → ℕ → Task → Type 0
    Had σ i u k = k.cost ≤ given σ i (count (releases (as_tasks t) i) u) u (u + k.deadline)

    pub as_respects : Respects t (releases (as_tasks t))
    as_respects = record {
      periodic = λ i u l e. as_released i u;
      spaced = λ i u v l e x y h.
          (releases_respect t r).spaced i u v l e (rw (as_released i u) at x) (rw (as_released i v) at y) h;
    }

    pub as_good : (σ : Schedule) → GoodFor t (releases (as_tasks t)) σ ↔ Good (as_tasks t) σ
    unfolding GoodFor
    as_good σ = (
      λ g. (good_released (as_tasks t) as_ranged σ).0 (λ i u l x. subst (Had σ i u) (sym (task_as i)) (g i u l x)),
      λ g i u l x. subst (Had σ i u) (task_as i) ((good_released (as_tasks t) as_ranged σ).1 g i u l x),
    )

  -- It is well-formed exactly where the table of both sorts is.
  pub as_well : (m : Measure) → judged_mixed t ≡ Ok m → judged (as_tasks t) ≡ Ok (measure (as_tasks t))
  as_well m well =
      let (r, short, same) = (mixed_iff t m).0 well in
      let round_is : round (as_tasks t) ≡ round t = round_same t (as_tasks t) r (as_ranged r) refl (λ i l. ap (λ (k : Task). k.period) (task_as i)) in
      judged_of (as_tasks t) (as_ranged r) (rw round_is short) (λ i l. rw (task_as i) refl)
