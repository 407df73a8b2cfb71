-- DISTANCE PASS (`distance_passes`): it means that the exact test passes the table, with any budget that reaches the horizon. A button counts as
-- periodic from 0 on there.
use Rattle.values.specs.declared.ByDistance.{ByDistance}
use Rattle.model.specs.Values.{DistanceAnswer, Judgement}
use Rattle.std.specs.Prelude.{◌≡◌, Bool, cond, ◌||◌, eqb, Ok, Err}
use Rattle.std.proofs.Math.Path.{refl}
use Rattle.std.proofs.Common.{ap, ap₂, arith}
use Rattle.std.proofs.Math.Bool.{true, false, not}
use Prim.Native.Nat.{ℕ, ◌+◌, ◌≤◌, ◌<◌}
use Rattle.std.proofs.Math.Dec.{T}
use Rattle.values.specs.declared.Table.{Table}
use Rattle.values.specs.declared.Measure.{Measure}
use Rattle.values.specs.declared.Verdict.{Verdict}
use Rattle.model.specs.Notation.{some, every}
use Rattle.model.specs.Limits.{slot_limit}
use Rattle.model.specs.Tasks.{task, is_button, release, round, load, horizon}
use Rattle.model.specs.Run.{Order}
use Rattle.model.specs.Verdict.{verdict}
use Rattle.model.specs.Patterns.{light, calm_by, calm, simultaneous, distance, pattern, calm_patterns, distance_pass, distance_judged}
use Rattle.counting.specs.Count.{tests, and_iff, is_true, is_false, every_iff, count_eq}
use Rattle.counting.specs.Search.{smallest_of}
use Rattle.counting.specs.Below.{below, below_next}
use Rattle.wellformed.specs.Ranges.{Ranged}
use Rattle.backlog.specs.System.{release_of, Apart}
use Rattle.backlog.proofs.System.{coming, released_apart}
use Rattle.backlog.proofs.TableSystem.{tie_system}
use Rattle.backlog.specs.TooMuch.{NeverTooMuch}
use Rattle.backlog.proofs.Feasible.{feasible_iff}
use Rattle.backlog.proofs.Passes.{passes_iff}
use Rattle.patterns.specs.Starting.{starting_ranged}
use Rattle.patterns.specs.Calm.{not_iff, CalmFrom, calm_any_order, calm_never}
use Rattle.patterns.specs.Quick.{simultaneous_ranged}
use Rattle.patterns.proofs.Distance.{distance_button}
use Rattle.patterns.proofs.DistanceLe.{distance_low, distance_le}

-- Overload does not pass.
pub distance_light : (t : Table) → T (distance_pass t) → load t ≤ round t
unfolding distance_pass
distance_light t h = omega (tests, ((and_iff (light t) (calm_patterns t)).0 h).0)

-- By the cases of the table and of the test: an answer of pass is a pass of a well-formed table, and the other way.
pub distance_case : (t : Table) (j : Judgement) → distance_judged t j ≡ Ok ByDistance.Pass → ((m : Measure) × (j ≡ Ok m)) × T
    (distance_pass t)
distance_case t (Err r) e = let z : ◌≡◌ {A = ℕ} 0 1 = cc in absurd (omega arith)
distance_case t (Ok m) e = ((m, refl), go (light t) (distance_pass t) e)
  where
    go : (a b : Bool) → ◌≡◌ {A = DistanceAnswer}
        (cond a (cond b (Ok ByDistance.Pass) (Ok ByDistance.NoAnswer)) (Ok ByDistance.Overload)) (Ok ByDistance.Pass) → T b
    go true true e = tt
    go true false e = let z : ◌≡◌ {A = ℕ} 0 1 = cc in absurd (omega arith)
    go false b e = let z : ◌≡◌ {A = ℕ} 0 1 = cc in absurd (omega arith)

pub distance_told : (t : Table) (m : Measure) → T (distance_pass t) → distance_judged t (Ok m) ≡ Ok ByDistance.Pass
distance_told t m h = rw (is_true (light t) (let l = distance_light t h in omega tests), is_true (distance_pass t) h) refl

-- The jobs of periodic tasks come when they are released.
abbrev pub Punctual : Table → (ℕ → ℕ → ℕ) → Type 0
Punctual t rel = (i j : ℕ) → i < t.count → is_button (task t i) ≡ false → rel i j ≡ release (task t i) j

module _ (t : Table) (r : Ranged t) where
  -- Distances are offsets in range, so a pattern keeps its ranges.
  pub pattern_low : (i : ℕ) → i < t.count → (k : ℕ) → k < t.count → distance (task t i) (task t k) ≤ slot_limit
  pattern_low i l k m = omega (arith, distance_low (task t i) (task t k) (r.each i l).period_pos, (r.each i l).period_le)

  pub pattern_ranged : (i : ℕ) → i < t.count → Ranged (pattern t i)
  pattern_ranged i l = starting_ranged t r (λ k. distance (task t i) (task t k)) (pattern_low i l)

  -- They are calm in any other order of the tasks too, or are not.
  pub patterns_any_order : (rank : Order) → calm_patterns t ≡ cond (some (λ i. not (is_button (task t i))) t.count)
      (every (λ i. is_button (task t i) || calm_by rank (pattern t i)) t.count) (calm_by rank (simultaneous t))
  patterns_any_order rank =
      ap₂ (λ (n : ℕ) (b : Bool). cond (some (λ i. not (is_button (task t i))) t.count) (eqb n t.count) b)
      (count_eq _ _ t.count (λ i l. ap (λ (b : Bool). is_button (task t i) || b) (calm_any_order (pattern t i) (pattern_ranged i l) rank)))
      (calm_any_order (simultaneous t) (simultaneous_ranged t r) rank)

  module _ (rel : ℕ → ℕ → ℕ) (apart : Apart (tie_system t r) rel) (punctual : Punctual t rel) where
    -- The next job of task k, at `from` or later.
    abbrev next : ℕ → ℕ → ℕ
    next from k = rel k (below (rel k) from)

    next_from : (from k : ℕ) → k < t.count → from ≤ next from k
    next_from from k l = below_next (rel k) ((coming (tie_system t r) rel apart).rel_grows k l) from

    -- The pattern of the periodic task that comes next is near.
    pattern_near : (from i : ℕ) → i < t.count → is_button (task t i) ≡ false
        → ((k : ℕ) → k < t.count → T (not (is_button (task t k))) → next from i ≤ next from k) → (k : ℕ) → k < t.count
        → from + distance (task t i) (task t k) ≤ next from k
    pattern_near from i l e least k m = go (is_button (task t k)) refl
      where
        go : (b : Bool) → is_button (task t k) ≡ b → from + distance (task t i) (task t k) ≤ next from k
        go true q = omega (arith, distance_button (task t i) (task t k) q, next_from from k m)
        go false q =
            let here = punctual i (below (rel i) from) l e in
            let there = punctual k (below (rel k) from) m q in
            omega (
              arith,
              next_from from i l,
              here,
              there,
              distance_le (task t i) (task t k) (r.each i l).period_pos (below (rel i) from)
                  (below (rel k) from) (omega (arith, here, there, least k m (rw q tt))),
            )

    -- So from every instant on they have a calm pattern.
    pub calm_ahead : T (distance_pass t) → (from : ℕ) → (start : ℕ → ℕ) × CalmFrom t rel from start
    unfolding distance_pass
    calm_ahead h from = go (some (λ i. not (is_button (task t i))) t.count) refl ((and_iff (light t) (calm_patterns t)).0 h).1
      where
        go : (b : Bool) → some (λ i. not (is_button (task t i))) t.count ≡ b → T
            (cond b (every (λ i. is_button (task t i) || calm (pattern t i)) t.count) (calm (simultaneous t)))
            → (start : ℕ → ℕ) × CalmFrom t rel from start
        go false e c = (λ k. 0, record { low = λ k l. omega arith; near = λ k l. omega (arith, next_from from k l); still = c })
        go true e c =
            let (i, l, p, least) = smallest_of (λ k. not (is_button (task t k))) t.count (next from) (rw e tt) in
            let q : is_button (task t i) ≡ false = is_false (is_button (task t i)) ((not_iff (is_button (task t i))).0 p) in (
              λ k. distance (task t i) (task t k),
              record {
                low = pattern_low i l;
                near = pattern_near from i l q least;
                still = rw q at ((every_iff (λ k. is_button (task t k) || calm (pattern t k)) t.count).0 c i l);
              },
            )

  pub distance_never : T (distance_pass t) → NeverTooMuch t
  distance_never h = calm_never t r (distance_light t h) (calm_ahead (release_of (tie_system t r)) (released_apart (tie_system t r)) (λ i j l e. refl) h)

  pub distance_passes : T (distance_pass t) → (budget : ℕ) → horizon t ≤ budget → verdict t budget ≡ Verdict.Passes
  distance_passes h budget b = (passes_iff t r budget b).1 ((feasible_iff t r).1 (distance_never h))
