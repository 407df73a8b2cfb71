-- THE CHAIN (`quick_distance`): a quick pass is a distance pass.
use Rattle.std.specs.Prelude.{Bool, true, false, cond, not, ◌||◌, ℕ, ◌<◌, T}
use Rattle.values.specs.declared.Table.{Table}
use Rattle.model.specs.Notation.{some, every}
use Rattle.model.specs.Tasks.{task, is_button}
use Rattle.model.specs.Patterns.{light, calm, simultaneous, quick_pass, distance, pattern, calm_patterns, distance_pass}
use Rattle.counting.specs.Count.{and_iff, every_iff, or_right}
use Rattle.wellformed.specs.Ranges.{Ranged}
use Rattle.backlog.specs.TooMuch.{never_iff}
use Rattle.patterns.specs.Calm.{calm_iff}
use Rattle.patterns.specs.Quick.{quick_never, quick_same}
use Rattle.patterns.proofs.DistancePass.{pattern_ranged}

pub quick_distance : (t : Table) → Ranged t → T (quick_pass t) → T (distance_pass t)
unfolding distance_pass quick_pass
quick_distance t r h =
    (and_iff (light t) (calm_patterns t)).1 (((and_iff (light t) (calm (simultaneous t))).0 h).0, go (some (λ i. not (is_button (task t i))) t.count))
  where
    each : (i : ℕ) → i < t.count → T (calm (pattern t i))
    each i l =
        let q : Ranged (pattern t i) = pattern_ranged t r i l in
        (calm_iff (pattern t i) q).1
        (λ u m. (never_iff (pattern t i)).0 (quick_never (pattern t i) q (rw (quick_same t r (λ k. distance (task t i) (task t k))) h)) u)

    go : (b : Bool) → T (cond b (every (λ i. is_button (task t i) || calm (pattern t i)) t.count) (calm (simultaneous t)))
    go true = (every_iff (λ i. is_button (task t i) || calm (pattern t i)) t.count).1 (λ i l. or_right (is_button (task t i)) _ (each i l))
    go false = ((and_iff (light t) (calm (simultaneous t))).0 h).1
