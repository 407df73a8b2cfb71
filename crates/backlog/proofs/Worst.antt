-- WORST RESPONSES (`worst_is`): where the run meets every deadline, the largest response among the jobs finished by the horizon is the worst for ever.
use Rattle.std.specs.Prelude.{◌≡◌, ℕ, suc, ◌+◌, ◌-◌, ◌*◌, ◌≤◌, ◌<◌}
use Rattle.std.proofs.Common.{ap, le_refl, mul-le-mul_right, sub-add_cancel, arith}
use Rattle.std.proofs.Math.Decide.{dec_le}
use Rattle.model.specs.Tasks.{task}
use Rattle.values.specs.declared.Table.{Table}
use Rattle.model.specs.Run.{Order, Finishes, Worst}
use Rattle.counting.specs.Search.{strong, least_unique, least_le}
use Rattle.backlog.specs.Streams.{Run}
use Rattle.backlog.specs.Left.{served_mono}
use Rattle.backlog.specs.Finish.{DoneFirst}
use Rattle.backlog.specs.Criterion.{Met, finishes}
use Rattle.backlog.specs.System.{System, size, cost_of, period_of, release_of, due_of}
use Rattle.backlog.proofs.System.{jobs, dues}
use Rattle.backlog.proofs.ModelRun.{served_of, model_run}
use Rattle.backlog.proofs.RunSchedule.{finishes_iff}
use Rattle.backlog.specs.Shift.{Cycle, horizon_of, Light}
use Rattle.backlog.proofs.Shift.{release_later, times_pos, period_le_round}
use Rattle.backlog.proofs.Overload.{light_of_met}
use Rattle.backlog.proofs.Repeats.{repeats_done}

module _ (S : System) (Y : Cycle S) (s : ℕ → ℕ → ℕ) (R : Run (jobs S) s) (met : Met (jobs S) (dues S) s) (i : ℕ) (l : i < size S) where
  abbrev light : Light S Y
  light = light_of_met S Y s R met

  -- Some job that finishes by the horizon has no smaller response than job j, which finishes at f.
  abbrev Seen : ℕ → ℕ → Type 0
  Seen j f = (k : ℕ) × (g : ℕ) × DoneFirst (jobs S) s i k g × (g ≤ horizon_of S Y) × (f - release_of S i j ≤ g - release_of S i k)

  -- Every response is at most one that is seen by the horizon.
  worst_seen_lem : (j f : ℕ) → DoneFirst (jobs S) s i j f → Seen j f
  worst_seen_lem j = strong {P = λ j. (f : ℕ) → DoneFirst (jobs S) s i j f → Seen j f} step j
    where
      step : (j : ℕ) → ((k : ℕ) → k < j → (f : ℕ) → DoneFirst (jobs S) s i k f → Seen k f) → (f : ℕ) → DoneFirst (jobs S) s i j f → Seen j f
      step j ih f d = go (dec_le f (horizon_of S Y))
        where
          -- A finish after the horizon is of a release after one round less.
          far : horizon_of S Y < f → Y.start + Y.round < release_of S i j
          far h = omega (arith, least_le _ f (due_of S i j) d (met i j l), S.deadline_le i l, period_le_round S Y i l)

          late_number : Y.start + Y.round < release_of S i j → Dec (Y.times i ≤ j) → Y.times i ≤ j
          late_number h (yes p) = p
          late_number h (no p) = let q : j ≤ Y.times i = omega arith in absurd (omega (arith, Y.starts i l, Y.common i l, mul-le-mul_right (period_of S i) q))

          back : horizon_of S Y < f → (k : ℕ) → k + Y.times i ≡ j → Seen j f
          back h k e = at (finishes (jobs S) (dues S) s R met i k l)
            where
              rel : release_of S i j ≡ release_of S i k + Y.round
              rel = omega (arith, ap (release_of S i) e, release_later S Y i l k)

              at : (g : ℕ) × DoneFirst (jobs S) s i k g × (release_of S i k < g) × (g ≤ due_of S i k) → Seen j f
              at (g, q, a, b) = elim (dec_le (Y.start + Y.round) g) [ yes p ↦ down p | no p ↦ absurd (early p) ]
                where
                  j_done : (u : ℕ) → cost_of S i * suc (k + Y.times i) ≤ s u i → f ≤ u
                  j_done u x = least_le _ f u d (rw e at x)

                  down : Y.start + Y.round ≤ g → Seen j f
                  down p =
                      let (k', g', q', h', w') = ih k (omega (arith, times_pos S Y i l)) g q in
                      (k', g', q', h', omega (arith, rel, j_done (g + Y.round) ((repeats_done S Y light s R g i k l p).0 q.0)))

                  early : ¬ (Y.start + Y.round ≤ g) → ⊥
                  early p =
                      let x = served_mono (jobs S) s R i l g (Y.start + Y.round) (omega arith) in
                      let y = (repeats_done S Y light s R (Y.start + Y.round) i k l (le_refl _)).0 (omega (arith, q.0)) in
                      omega (arith, j_done (Y.start + Y.round + Y.round) y)

          go : Dec (f ≤ horizon_of S Y) → Seen j f
          go (yes p) = (j, f, d, p, le_refl _)
          go (no p) =
              let h : horizon_of S Y < f = omega arith in back h (j - Y.times i) (sub-add_cancel {n = j} {m = Y.times i} (late_number (far h) (dec_le _ _)))

  -- A bound of the responses that are seen by the horizon is one for ever.
  pub worst_for_ever : (w : ℕ) → ((j f : ℕ) → DoneFirst (jobs S) s i j f → f ≤ horizon_of S Y → f - release_of S i j ≤ w) → (j f : ℕ)
      → DoneFirst (jobs S) s i j f → f - release_of S i j ≤ w
  worst_for_ever w h j f d = let (k, g, q, a, b) = worst_seen_lem j f d in omega (arith, h k g q a)

-- A job finishes once.
pub ends_once : (t : Table) (rank : Order) (i j f g : ℕ) → Finishes t rank i j f → Finishes t rank i j g → f ≡ g
unfolding Finishes
ends_once t rank i j f g a b = least_unique _ f g a b

-- Worst responses in the model's words, of its run.
module _ (S : System) (met : Met (jobs S) (dues S) (served_of S)) (i : ℕ) (l : i < size S) where
  abbrev pub Ends : ℕ → ℕ → Type 0
  Ends j f = Finishes S.table S.rank i j f

  -- Every job finishes, after its release and by its deadline.
  pub ends : (j : ℕ) → (f : ℕ) × Ends j f × (release_of S i j < f) × (f ≤ due_of S i j)
  ends j = let (f, d, a, b) = finishes (jobs S) (dues S) (served_of S) (model_run S) met i j l in (f, (finishes_iff S i j f l).1 d, a, b)

  -- A worst response is at least 1 and at most the deadline.
  pub worst_range : (w : ℕ) → Worst S.table S.rank i w → (0 < w) × (w ≤ (task S.table i).deadline)
  worst_range w v =
      let (j, f, d, e) = v.attained in
      let (g, q, a, b) = ends j in
      let c : f ≡ g = ends_once _ _ i j f g d q in
      (omega arith, omega arith)

  module _ (Y : Cycle S) where
    -- A response that some job has, and that no job which finishes by the horizon exceeds, is the worst.
    pub worst_is : (w j f : ℕ) → Ends j f → f - release_of S i j ≡ w
        → ((j f : ℕ) → Ends j f → f ≤ horizon_of S Y → f - release_of S i j ≤ w) → Worst S.table S.rank i w
    worst_is w j f d e h = record {
      attained = (j, f, d, e);
      bound = λ j f d. worst_for_ever S Y (served_of S) (model_run S) met i l w (λ j f d. h j f ((finishes_iff S i j f l).1 d)) j f
          ((finishes_iff S i j f l).0 d);
    }

    -- Every task has a job that finishes by the horizon.
    pub first_ends : (f : ℕ) × Ends 0 f × (release_of S i 0 < f) × (f ≤ horizon_of S Y)
    first_ends = let (f, d, a, b) = ends 0 in (f, d, a, omega (arith, S.deadline_le i l, period_le_round S Y i l, Y.starts i l))

-- Two worst responses of one task are equal.
pub worst_unique : {t : Table} {rank : Order} {i : ℕ} (v w : ℕ) → Worst t rank i v → Worst t rank i w → v ≡ w
worst_unique v w a b =
    let (j, f, d, e) = a.attained in
    let (k, g, q, r) = b.attained in
    omega (arith, a.bound k g q, b.bound j f d)
