-- The distance test by its parts: the distances, the patterns and the load.
use Rattle.std.proofs.Math.Path.{◌≡◌, sym}
use Rattle.std.specs.Prelude.{Bool, not, ℕ, ◌≤◌, ◌<◌, replicate, Ok}
use Rattle.std.proofs.Math.Bool.{true, false}
use Rattle.std.proofs.Common.{arith}
use Rattle.values.specs.declared.Task.{Task}
use Rattle.values.specs.declared.Table.{Table}
use Rattle.values.specs.declared.Measure.{Measure}
use Rattle.model.specs.Limits.{task_limit, round_limit}
use Rattle.model.specs.Notation.{some}
use Rattle.model.specs.Tasks.{task, is_button, round, load, judged_mixed}
use Rattle.model.specs.Patterns.{starting_at, light, quick_pass, common_divisor, distance, pattern, calm_patterns, distance_pass}
use Rattle.counting.specs.Count.{tests, is_true, is_false, and_iff}
use Rattle.counting.specs.Divisors.{gcd_pos}
use Rattle.wellformed.specs.Ranges.{Ranged}
use Rattle.wellformed.specs.WellFormed.{WellFormed, well_mixed}
use Rattle.patterns.specs.Starting.{starting_eq}
use Rattle.patterns.proofs.Distance.{divisor_is}
use Rattle.patterns.proofs.DistancePass.{pattern_low}
use Rattle.patterns.proofs.QuickDistance.{quick_distance}
use Rattle.slots.specs.Slot.{at}
use Rattle.slots.specs.Columns.{column}
use Rattle.slots.specs.Laws.{fill_has}
use Rattle.calm.specs.Fit.{starting_fits}

-- The common divisor of two periods is above 0.
pub divisor_pos : (one other : Task) → 0 < one.period → 0 < other.period → 0 < common_divisor one.period other.period
divisor_pos one other p q = gcd_pos (divisor_is one.period other.period p) q

module _ (t : Table) {m : Measure} (well : judged_mixed t ≡ Ok m) where
  abbrev facts : WellFormed t m
  facts = well_mixed t m well

  -- The distances as an array make the pattern.
  pub pattern_is : (i : ℕ) → starting_at t (at (column t.count (λ k. distance (task t i) (task t k)))) ≡ pattern t i
  pattern_is i = starting_eq t _ _ (fill_has t.count (λ k. distance (task t i) (task t k)) (replicate task_limit 0) facts.ranged.few)

  -- It is one to walk.
  pub pattern_fits : m.load ≤ m.round → (i : ℕ) → i < t.count → Ranged (pattern t i)
      × ((load (pattern t i) ≤ round (pattern t i)) × (round (pattern t i) ≤ round_limit))
  pattern_fits h i l = starting_fits t well h (λ k. distance (task t i) (task t k)) (pattern_low t facts.ranged i l)

  -- Overload, by what was measured.
  pub is_heavy : m.round < m.load → light t ≡ false
  is_heavy h = is_false (light t) (λ x. absurd (omega (tests, facts.round_is, facts.load_is)))

  pub is_light : m.load ≤ m.round → light t ≡ true
  is_light h = is_true (light t) (omega (tests, facts.round_is, facts.load_is))

  -- Where no task is periodic, the quick test decides.
  pub quick_decides : m.load ≤ m.round → false ≡ some (λ i. not (is_button (task t i))) t.count → quick_pass t ≡ calm_patterns t
  unfolding quick_pass
  quick_decides h none = rw (is_light h, ← none)

  -- A quick pass is one of every pattern.
  pub quick_calm : (passed : Bool) → not passed ≡ false → passed ≡ quick_pass t → passed ≡ calm_patterns t
  unfolding distance_pass
  quick_calm true n e = sym (is_true (calm_patterns t) ((and_iff (light t) (calm_patterns t)).0 (quick_distance t facts.ranged (rw (← e) tt))).1)
  quick_calm false n e = let z : ◌≡◌ {A = ℕ} 0 1 = cc in absurd (omega arith)
