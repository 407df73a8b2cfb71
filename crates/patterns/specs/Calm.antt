-- CALM PATTERNS (`calm_on_time`): jobs of a table's tasks that come at least a period apart, and have a calm pattern from every instant on, never
-- miss a deadline.
use Rattle.std.specs.Prelude.{◌≡◌, ◌↔◌, Bool, true, false, not, ℕ, zero, suc, ◌+◌, ◌-◌, ◌*◌, ◌≤◌, ◌<◌, T, eqb}
use Rattle.std.proofs.Common.{ap, arith}
use Rattle.std.proofs.Math.Decide.{dec_le}
use Rattle.values.specs.declared.Task.{Task}
use Rattle.values.specs.declared.Table.{Table}
use Rattle.model.specs.Limits.{slot_limit}
use Rattle.model.specs.Tasks.{task, release, round, load}
use Rattle.model.specs.Demand.{late_at}
use Rattle.model.specs.Run.{Order, tie_order}
use Rattle.model.specs.Idle.{first_idle, missed_at}
use Rattle.model.specs.Patterns.{starting_at, calm_by, calm}
use Rattle.counting.specs.Count.{every_iff, count_eq}
use Rattle.counting.specs.Below.{below}
use Rattle.wellformed.specs.Ranges.{Ranged}
use Rattle.backlog.specs.System.{System, release_of, Apart}
use Rattle.backlog.proofs.System.{coming, coming_dues, released_apart, jobs, dues}
use Rattle.backlog.proofs.ModelRun.{served_of, model_run}
use Rattle.backlog.specs.Streams.{Jobs, Run}
use Rattle.backlog.specs.Criterion.{Dues, Late, late_iff_over}
use Rattle.backlog.proofs.TableSystem.{tie_system}
use Rattle.backlog.specs.TooMuch.{NeverTooMuch, never_iff}
use Rattle.backlog.proofs.EveryInstant.{over_iff}
use Rattle.patterns.specs.Waiting.{Idle}
use Rattle.patterns.specs.IdleInstants.{idle_streams}
use Rattle.patterns.specs.FirstIdle.{first_idle_lem, first_any_order}
use Rattle.patterns.specs.Missed.{missed_late, missed_any_order}
use Rattle.patterns.specs.Pulled.{Pulled, pulled_late}
use Rattle.patterns.specs.Starting.{starting_task_lem, starting_count, starting_round, starting_load, starting_ranged}

-- A test does not hold.
pub not_iff : (b : Bool) → T (not b) ↔ (T b → ⊥)
not_iff true = (λ t x. t, λ h. h tt)
not_iff false = (λ t x. x, λ h. tt)

-- A table is calm exactly if no deadline up to its first idle instant is late.
pub calm_iff : (t : Table) → Ranged t → T (calm t) ↔ ((u : ℕ) → u ≤ first_idle t (tie_order t) → T (late_at t u) → ⊥)
unfolding calm
calm_iff t r = (
  λ c u l h. (not_iff (missed_at t (tie_order t) u)).0 ((every_iff _ (suc (first_idle t (tie_order t)))).0 c u (omega arith))
      (rw (missed_late (tie_system t r) u) h),
  λ h. (every_iff _ (suc (first_idle t (tie_order t)))).1
      (λ u l. (not_iff (missed_at t (tie_order t) u)).1 (λ x. h u (omega arith) (rw (missed_late (tie_system t r) u) at x))),
)

-- It is calm in any other order of its tasks too, or in none.
pub calm_any_order : (t : Table) (r : Ranged t) (rank : Order) → calm t ≡ calm_by rank t
unfolding calm
calm_any_order t r rank =
    rw (first_any_order t r rank (tie_order t))
    (ap (λ (n : ℕ). eqb n (suc (first_idle t (tie_order t))))
    (count_eq _ _ (suc (first_idle t (tie_order t))) (λ u l. ap not (missed_any_order t r (tie_order t) rank u))))

-- Offsets in range whose pattern is calm, and in which no task starts later than its next job comes from an instant on.
pub record CalmFrom (t : Table) (rel : ℕ → ℕ → ℕ) (from : ℕ) (start : ℕ → ℕ) : Type 0 where
  pub low : (i : ℕ) → i < t.count → start i ≤ slot_limit
  pub near : (i : ℕ) → i < t.count → from + start i ≤ rel i (below (rel i) from)
  pub still : T (calm (starting_at t start))

module _ (t : Table) (r : Ranged t) (rel : ℕ → ℕ → ℕ) (apart : Apart (tie_system t r) rel) where
  abbrev J : Jobs
  J = coming (tie_system t r) rel apart

  abbrev D : Dues J
  D = coming_dues (tie_system t r) rel apart

  -- Jobs that are at least a period apart are many periods apart.
  steps : (i m j : ℕ) → i < t.count → rel i m + j * (task t i).period ≤ rel i (m + j)
  steps i m zero l = let e : m + 0 ≡ m = omega arith in omega (arith, ap (rel i) e)
  steps i m (suc j) l = let e : m + suc j ≡ suc (m + j) = omega arith in omega (arith, steps i m j l, apart i (m + j) l, ap (rel i) e)

  -- The pattern's jobs are pulled back.
  calm_pulled : (from : ℕ) (start : ℕ → ℕ) (c : CalmFrom t rel from start) → let P = tie_system (starting_at t start)
      (starting_ranged t r start c.low) in Pulled J D (jobs P) (dues P) from
  calm_pulled from start c =
      record {
        same_n = starting_count t r start;
        same_cost = λ i l. ap (λ (k : Task). k.cost) (starting_task_lem t r start i l);
        sooner = sooner;
        due_sooner = λ i j l. omega (arith, sooner i j l, ap (λ (k : Task). k.deadline) (starting_task_lem t r start i l));
      }
    where
      sooner : (i j : ℕ) → i < t.count → from + release (task (starting_at t start) i) j ≤ rel i (below (rel i) from + j)
      sooner i j l = omega (arith, c.near i l, steps i (below (rel i) from) j l, ap (λ (k : Task). release k j) (starting_task_lem t r start i l))

  module _ (light : load t ≤ round t) (s : ℕ → ℕ → ℕ) (R : Run J s) where
    pub calm_on_time : ((from : ℕ) → (start : ℕ → ℕ) × CalmFrom t rel from start) → (to : ℕ) → Late J D s to → ⊥
    calm_on_time patterns to late =
        let (from, early, misses) = pulled_late J D s R to late in
        go from (patterns from).0 (patterns from).1 misses
      where
        go : (from : ℕ) (start : ℕ → ℕ) (c : CalmFrom t rel from start)
            → ((J' : Jobs) (D' : Dues J') (s' : ℕ → ℕ → ℕ) → Run J' s' → Pulled J D J' D' from → Late J' D' s' (to - from)
            × ((x : ℕ) → 0 < x → x ≤ to - from → Idle J' s' x → ⊥)) → ⊥
        go from start c misses =
            let p : Table = starting_at t start in
            let q : Ranged p = starting_ranged t r start c.low in
            let P : System = tie_system p q in
            let (missed, busy) = misses (jobs P) (dues P) (served_of P) (model_run P) (calm_pulled from start c) in
            let (((pos, idle), least), soon) = first_idle_lem p q _ (omega (arith, starting_round t r start, starting_load t r start)) in
            elim (dec_le (first_idle p (tie_order p)) (to - from)) [
              | yes l ↦ busy (first_idle p (tie_order p)) pos l ((idle_streams P _).0 idle)
              | no l ↦
                  (calm_iff p q).0 c.still (to - from) (omega arith)
                  ((over_iff P (to - from)).1 ((late_iff_over (jobs P) (dues P) (served_of P) (model_run P) (to - from)).0 missed))
            ]

-- So a table that has one from every instant on never asks too much.
pub calm_never : (t : Table) (r : Ranged t) → load t ≤ round t → ((from : ℕ) → (start : ℕ → ℕ) × CalmFrom t (release_of (tie_system t r)) from start)
    → NeverTooMuch t
calm_never t r light patterns =
    (never_iff t).1 (λ to h. calm_on_time t r (release_of S) (released_apart S) light (served_of S) (model_run S) patterns to
    ((late_iff_over (jobs S) (dues S) (served_of S) (model_run S) to).1 ((over_iff S to).0 h)))
  where
    S : System
    S = tie_system t r
