-- ON THE WAY (`on_time_good`): the schedule that gives each slot by what has arrived so far is good, if no run of what arrives before some instant is
-- late by then.
use Rattle.std.specs.Prelude.{◌≡◌, refl, ◌&&◌, T}
use Rattle.std.proofs.Common.{sym, le_refl, arith}
use Rattle.std.proofs.Math.Path.{ap}
use Prim.Native.Nat.{ℕ, suc, ◌+◌, ◌*◌, ◌≤◌, ◌<◌}
use Rattle.std.proofs.Math.Decide.{dec_le}
use Rattle.std.proofs.Math.Dec.{leb}
use Rattle.values.specs.declared.Table.{Table}
use Rattle.model.specs.Notation.{count}
use Rattle.model.specs.Tasks.{task}
use Rattle.model.specs.Demand.{Arrivals}
use Rattle.model.specs.Schedule.{Slot, Schedule, belongs, given}
use Rattle.model.specs.Arrivals.{Respects, GoodFor}
use Rattle.counting.specs.Count.{count_eq}
use Rattle.counting.specs.Enumerate.{enumerated_at}
use Rattle.wellformed.specs.Ranges.{Ranged}
use Rattle.backlog.specs.Streams.{Jobs}
use Rattle.backlog.specs.Criterion.{Dues, Late}
use Rattle.backlog.specs.StreamRun.{run_of, stream_run}
use Rattle.backlog.specs.StreamSchedule.{schedule_of, stream_given}
use Rattle.backlog.specs.Agree.{Agree, slots_agree}
use Rattle.backlog.specs.Choice.{standing}
use Rattle.backlog.specs.System.{System, spread}
use Rattle.backlog.proofs.System.{coming, coming_dues}
use Rattle.backlog.proofs.TableSystem.{tie_system}
use Rattle.patterns.proofs.Arrivals.{comes_at, comes_same, comes_apart, comes_enumerates}

module _ (t : Table) (r : Ranged t) (a : Arrivals) (k : Respects t a) where
  abbrev S : System
  S = tie_system t r

  -- The streams of what arrives before n, and the run of them as a schedule.
  abbrev pub before : ℕ → Jobs
  before n = coming S (comes_at t a n) (comes_apart t a k n)

  abbrev pub before_dues : (n : ℕ) → Dues (before n)
  before_dues n = coming_dues S (comes_at t a n) (comes_apart t a k n)

  abbrev planned : ℕ → Schedule
  planned n = schedule_of (before n) (run_of (before n)) (stream_run (before n))

  -- The schedule gives slot u by what arrives up to u.
  on_the_way : Schedule
  on_the_way u = planned (suc u) u

  same_early : (u n : ℕ) → u < n → Agree (before (suc u)) (before n) (suc u)
  same_early u n h =
      record {
        same_n = refl;
        same_cost = λ i l. refl;
        forth = λ i j l x. comes_same t a (suc u) n (suc u) i j (le_refl _) h x;
        back = λ i j l x. sym (comes_same t a n (suc u) (suc u) i j h (le_refl _) x);
        same_key = λ i j l x. ap (λ (y : ℕ). (y + (task t i).deadline) * spread S + standing S.rank i) (comes_same t a (suc u) n (suc u) i j (le_refl _) h x);
      }

  -- Nothing that arrives later changes that.
  as_planned : (u n : ℕ) → u < n → planned n u ≡ on_the_way u
  unfolding on_the_way
  as_planned u n h =
      slots_agree (before (suc u)) (before n) (suc u) (same_early u n h) (run_of (before (suc u))) (run_of (before n)) (stream_run (before (suc u)))
      (stream_run (before n)) u (omega arith)

  -- In the run of what arrives before n a job is late at n.
  abbrev pub LateBefore : ℕ → Type 0
  LateBefore n = Late (before n) (before_dues n) (run_of (before n)) n

  module _ (on_time : (n : ℕ) → LateBefore n → ⊥) where
    -- So a job that arrives at u, and is due by n, has its slots from u to n.
    arrived_given : (i u n : ℕ) → i < t.count → T (a i u) → u + (task t i).deadline ≤ n → (task t i).cost ≤ given on_the_way i (count (a i) u) u n
    unfolding given
    arrived_given i u n l x h =
        let at : comes_at t a n i (count (a i) u) ≡ u = enumerated_at (a i) (comes_at t a n i) ((before n).rel_grows i l) n
        (comes_enumerates t a k n i l) u (omega (arith, (r.each i l).deadline_pos)) x in
        let had = stream_given (before n) (run_of (before n)) (stream_run (before n)) i (count (a i) u) n l (done (omega (arith, at))) in
        let moved : (task t i).cost ≤ count (λ v. leb u v && belongs i (count (a i) u) (planned n v)) n = rw at at had in
        omega (arith, moved, count_eq _ _ n (λ v y. ap (λ (w : Slot). leb u v && belongs i (count (a i) u) w) (as_planned v n y)))
      where
        done : comes_at t a n i (count (a i) u) + (task t i).deadline ≤ n → (task t i).cost * suc (count (a i) u) ≤ run_of (before n) n i
        done d =
            elim (dec_le ((task t i).cost * suc (count (a i) u)) (run_of (before n) n i)) [
              | yes p ↦ p
              | no p ↦ absurd (on_time n (i, count (a i) u, l, d, omega arith))
            ]

    pub on_time_good : (σ : Schedule) × GoodFor t a σ
    unfolding GoodFor
    on_time_good = (on_the_way, λ i u l x. arrived_given i u (u + (task t i).deadline) l x (le_refl _))
