-- TIES (section 3.3 of the specification): how they go alters the run, the worst responses and the dispatcher,
-- and nothing else. `verdict` with its interval, `settled_by` and the measures take no order of the tasks at all;
-- of what else is told of a run, any two orders say the same.
use Rattle.std.specs.Prelude.{◌≡◌, ◌↔◌, Bool, cond, not, ◌&&◌, ◌||◌, ℕ, Ok}
use Rattle.std.proofs.Math.Path.{ap}
use Rattle.values.specs.declared.Table.{Table}
use Rattle.values.specs.declared.Measure.{Measure}
use Rattle.model.specs.Notation.{some, every}
use Rattle.model.specs.Tasks.{task, is_button, judged_mixed, judged}
use Rattle.model.specs.Schedule.{Good}
use Rattle.model.specs.Run.{Order, run}
use Rattle.model.specs.Idle.{idle_at, first_idle, missed_at}
use Rattle.model.specs.Patterns.{calm_by, light, simultaneous, quick_pass, pattern, distance_pass}
use Rattle.wellformed.specs.WellFormed.{well_mixed, well_formed}
use Rattle.patterns.specs.IdleInstants.{idle_any_order}
use Rattle.patterns.specs.FirstIdle.{first_any_order}
use Rattle.patterns.specs.Missed.{missed_any_order}
use Rattle.patterns.specs.Calm.{calm_any_order}
use Rattle.patterns.specs.Quick.{simultaneous_ranged}
use Rattle.patterns.proofs.DistancePass.{patterns_any_order}
use Rattle.telling.specs.AnyOrder.{good_any_order}

-- Alike in two orders of a table's tasks: whether the run is good, whether it has missed a deadline by u,
-- whether u is idle, and the first idle instant.
pub record Alike (t : Table) (rank other : Order) : Type 0 where
  pub good : Good t (run t rank) ↔ Good t (run t other)
  pub missed : (u : ℕ) → missed_at t rank u ≡ missed_at t other u
  pub idle : (u : ℕ) → idle_at t rank u ≡ idle_at t other u
  pub first_idle_lem : first_idle t rank ≡ first_idle t other

module _ (t : Table) (m : Measure) (well : judged t ≡ Ok m) where
  pub ties_alter_nothing_else : (rank other : Order) → Alike t rank other
  ties_alter_nothing_else rank other =
      let r = (well_formed t m well).ranged in
      record {
        good = (good_any_order t r rank other, good_any_order t r other rank);
        missed = missed_any_order t r rank other;
        idle = idle_any_order t r rank other;
        first_idle_lem = first_any_order t r rank other;
      }

  -- The quick test says the same by the runs of any order, and so does the distance test.
  pub quick_any_order : (rank : Order) → quick_pass t ≡ (light t && calm_by rank (simultaneous t))
  unfolding quick_pass
  quick_any_order rank =
      ap (λ (b : Bool). light t && b)
      (calm_any_order (simultaneous t) (simultaneous_ranged t (well_formed t m well).ranged) rank)

-- The patterns of the distance test by the runs of any order.
abbrev pub calm_patterns_by : Order → Table → Bool
calm_patterns_by rank t =
    cond (some (λ i. not (is_button (task t i))) t.count)
    (every (λ i. is_button (task t i) || calm_by rank (pattern t i)) t.count)
    (calm_by rank (simultaneous t))

pub distance_any_order : (t : Table) (m : Measure) → judged_mixed t ≡ Ok m → (rank : Order)
    → distance_pass t ≡ (light t && calm_patterns_by rank t)
unfolding distance_pass
distance_any_order t m well rank =
    ap (λ (b : Bool). light t && b) (patterns_any_order t (well_mixed t m well).ranged rank)
