-- LOWER COSTS, STILL A PASS (`lowered_distance`): what the distance test passes it passes with costs alone lowered.
use Rattle.std.specs.Prelude.{◌≡◌, Bool, true, false, cond, not, ◌||◌, ℕ, suc, ◌-◌, ◌*◌, ◌/◌, ◌≤◌, ◌<◌, T, ltb}
use Rattle.std.proofs.Math.Path.{refl, ap}
use Rattle.std.proofs.Common.{◌∙◌, mul-le-mul_right}
use Rattle.std.proofs.Math.Nat.{mul-sub}
use native.Mathlib.Omega.{arith}
use Rattle.values.specs.declared.Table.{Table}
use Rattle.model.specs.Limits.{slot_limit}
use Rattle.model.specs.Notation.{sum, some, every}
use Rattle.model.specs.Tasks.{task, is_button, round, load}
use Rattle.model.specs.Demand.{asks_too_much, late_at}
use Rattle.model.specs.Run.{tie_order}
use Rattle.model.specs.Idle.{idle_at, first_idle}
use Rattle.model.specs.Patterns.{starting_at, light, calm, simultaneous, distance, pattern, calm_patterns, distance_pass}
use Rattle.model.specs.Easing.{EasedTask, Lowered}
use Rattle.counting.specs.Count.{tests, and_iff, some_iff, every_iff, count_eq}
use Rattle.counting.specs.Sum.{sum_le}
use Rattle.counting.specs.Below.{below, below_eq}
use Rattle.counting.specs.Search.{least_le}
use Rattle.wellformed.specs.Ranges.{Ranged}
use Rattle.wellformed.specs.Round.{round_same}
use Rattle.backlog.specs.Queue.{backlog_mono}
use Rattle.backlog.specs.Streams.{released}
use Rattle.backlog.specs.System.{System}
use Rattle.backlog.proofs.System.{jobs}
use Rattle.backlog.proofs.ModelRun.{served_of, model_run}
use Rattle.backlog.proofs.TableSystem.{tie_system}
use Rattle.backlog.specs.TooMuch.{too_much_iff}
use Rattle.backlog.proofs.Eased.{eased_of_lowered, released_same, demand_falls}
use Rattle.patterns.specs.Waiting.{released_at, idle_waiting, waiting_is}
use Rattle.patterns.specs.IdleInstants.{idle_streams}
use Rattle.patterns.specs.FirstIdle.{first_idle_lem}
use Rattle.patterns.specs.Starting.{starting_task_lem, starting_round, starting_load, starting_ranged, starting_eq}
use Rattle.patterns.specs.Calm.{calm_iff}
use Rattle.patterns.proofs.DistancePass.{pattern_low}

module _ (t t' : Table) (r : Ranged t) (r' : Ranged t') (e : Lowered t t') where
  abbrev S : System
  S = tie_system t r

  abbrev S' : System
  S' = tie_system t' r'

  kept : (i : ℕ) → i < t.count → i < t'.count
  kept i l = omega (arith, e.same_count)

  -- No more work is released in a slot, so what is idle stays so.
  released_falls : (u : ℕ) → released_at (jobs S') u ≤ released_at (jobs S) u
  unfolding released_at
  released_falls u =
      omega (
        arith,
        ap (λ (n : ℕ). sum n (λ i. released (jobs S') (suc u) i - released (jobs S') u i)) e.same_count,
        sum_le t.count (λ i. released (jobs S') (suc u) i - released (jobs S') u i) (λ i. released (jobs S) (suc u) i - released (jobs S) u i) each,
      )
    where
      each : (i : ℕ) → i < t.count → released (jobs S') (suc u) i - released (jobs S') u i ≤ released (jobs S) (suc u) i - released (jobs S) u i
      each i l =
          let rels = below_eq ((jobs S').rel i) ((jobs S).rel i) ((jobs S').rel_grows i (kept i l)) ((jobs S).rel_grows i l)
          (λ j. released_same _ _ (e.each i l) j) in
          rw (rels (suc u), rels u, ← mul-sub ((jobs S').cost i), ← mul-sub ((jobs S).cost i))
          (mul-le-mul_right (below ((jobs S).rel i) (suc u) - below ((jobs S).rel i) u) (e.each i l).lower_cost)

  idle_stays : (u : ℕ) → T (idle_at t (tie_order t) u) → T (idle_at t' (tie_order t') u)
  idle_stays u h =
      (idle_streams S' u).1 ((idle_waiting (jobs S') (served_of S') u).1 (omega (
        arith,
        (idle_waiting (jobs S) (served_of S) u).0 ((idle_streams S u).0 h),
        waiting_is (jobs S) (served_of S) (model_run S) u,
        waiting_is (jobs S') (served_of S') (model_run S') u,
        backlog_mono (released_at (jobs S')) (released_at (jobs S)) released_falls u,
      )))

  -- No deadline becomes late, and no overload comes up.
  late_was : (u : ℕ) → T (late_at t' u) → T (late_at t u)
  unfolding late_at
  late_was u h =
      let (from, l, w) = (some_iff (λ from. asks_too_much t' from u) u).0 h in
      let (a, b) = (too_much_iff t' from u).0 w in
      (some_iff (λ from. asks_too_much t from u) u).1
      (from, l, (too_much_iff t from u).1 (a, omega (arith, demand_falls t t' (eased_of_lowered t t' e) from u)))

  light_stays : load t ≤ round t → load t' ≤ round t'
  unfolding load
  light_stays h =
      let same : round t' ≡ round t = round_same t t' r r' e.same_count (λ i l. (e.each i l).same_period) in
      omega (
        arith,
        same,
        ap (λ (n : ℕ). sum n (λ i. (task t' i).cost * (round t' / (task t' i).period))) e.same_count,
        sum_le t.count (λ i. (task t' i).cost * (round t' / (task t' i).period)) (λ i. (task t i).cost * (round t / (task t i).period))
            (λ i l. rw (same, (e.each i l).same_period) (mul-le-mul_right (round t / (task t i).period) (e.each i l).lower_cost)),
      )

  calm_stays : load t ≤ round t → T (calm t) → T (calm t')
  calm_stays h c =
      let (idle, before) = (first_idle_lem t r (tie_order t) h).0 in
      let sooner : first_idle t' (tie_order t') ≤ first_idle t (tie_order t) =
      least_le _ _ _ (first_idle_lem t' r' (tie_order t') (light_stays h)).0 (idle.0, idle_stays _ idle.1) in
      (calm_iff t' r').1 (λ u l w. (calm_iff t r).0 c u (omega (arith, sooner)) (late_was u w))

  -- So it goes for the table with other offsets,
  starting_lowered : (start : ℕ → ℕ) → Lowered (starting_at t start) (starting_at t' start)
  unfolding starting_at
  starting_lowered start = record { same_count = e.same_count; each = each; same_deadline = deadline }
    where
      each : (i : ℕ) → i < t.count → EasedTask (task (starting_at t start) i) (task (starting_at t' start) i)
      each i l = let k = e.each i l in
          rw (starting_task_lem t r start i l, starting_task_lem t' r' start i (kept i l))
          (record { same_sort = refl; same_offset = refl; same_period = k.same_period; lower_cost = k.lower_cost; longer_deadline = k.longer_deadline })

      deadline : (i : ℕ) → i < t.count → (task (starting_at t' start) i).deadline ≡ (task (starting_at t start) i).deadline
      deadline i l = rw (starting_task_lem t r start i l, starting_task_lem t' r' start i (kept i l)) (e.same_deadline i l)

module _ (t t' : Table) (r : Ranged t) (r' : Ranged t') (e : Lowered t t') (h : load t ≤ round t) where
  starting_calm : (start : ℕ → ℕ) → ((i : ℕ) → i < t.count → start i ≤ slot_limit) → T (calm (starting_at t start)) → T (calm (starting_at t' start))
  starting_calm start low =
      calm_stays (starting_at t start) (starting_at t' start) (starting_ranged t r start low)
      (starting_ranged t' r' start (λ i l. low i (omega (arith, e.same_count)))) (starting_lowered t t' r r' e start)
      (omega (arith, starting_load t r start, starting_round t r start))

  -- for each pattern, since distances stay, and for all patterns.
  distance_stays : (i k : ℕ) → i < t.count → k < t.count → distance (task t' i) (task t' k) ≡ distance (task t i) (task t k)
  unfolding distance
  distance_stays i k l m =
      let one = e.each i l in
      let other = e.each k m in
      rw (other.same_sort, other.same_offset, one.same_offset, one.same_period, other.same_period) refl

  pattern_calm : (i : ℕ) → i < t.count → T (calm (pattern t i)) → T (calm (pattern t' i))
  pattern_calm i l c =
      rw (starting_eq t' (λ k. distance (task t' i) (task t' k)) (λ k. distance (task t i) (task t k))
      (λ k m. distance_stays i k l (omega (arith, e.same_count))))
      (starting_calm (λ k. distance (task t i) (task t k)) (pattern_low t r i l) c)

  periodic_same : some (λ i. not (is_button (task t' i))) t'.count ≡ some (λ i. not (is_button (task t i))) t.count
  periodic_same =
      ap (λ (n : ℕ). some (λ i. not (is_button (task t' i))) n) e.same_count
      ∙ ap (λ (n : ℕ). ltb 0 n) (count_eq _ _ t.count (λ i l. rw (e.each i l).same_sort))

  each_calm : T (calm_patterns t) → T (calm_patterns t')
  each_calm c = rw periodic_same (go (some (λ i. not (is_button (task t i))) t.count) c)
    where
      either : (b c c' : Bool) → (T c → T c') → T (b || c) → T (b || c')
      either true c c' f x = tt
      either false c c' f x = f x

      go : (b : Bool) → T (cond b (every (λ i. is_button (task t i) || calm (pattern t i)) t.count) (calm (simultaneous t)))
          → T (cond b (every (λ i. is_button (task t' i) || calm (pattern t' i)) t'.count) (calm (simultaneous t')))
      go true c = (every_iff _ t'.count).1 (λ i m. let l : i < t.count = omega (arith, e.same_count) in
          rw (e.each i l).same_sort
          (either (is_button (task t i)) (calm (pattern t i)) (calm (pattern t' i)) (pattern_calm i l) ((every_iff _ t.count).0 c i l)))
      go false c = starting_calm (λ i. 0) (λ i l. omega arith) c

pub lowered_distance : (t t' : Table) → Ranged t → Ranged t' → Lowered t t' → T (distance_pass t) → T (distance_pass t')
unfolding distance_pass
lowered_distance t t' r r' e p =
    let (a, b) = (and_iff (light t) (calm_patterns t)).0 p in
    let h : load t ≤ round t = omega (tests, a) in
    let l = light_stays t t' r r' e h in
    (and_iff (light t') (calm_patterns t')).1 (omega tests, each_calm t t' r r' e h b)
