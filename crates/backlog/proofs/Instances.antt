-- WHAT THIS CRATE ASKS FOR CAN BE MET: for each record of hypotheses a table of the specification that meets it.
-- Of a table in its ranges every system, cycle, run and set of dues is made by a law, for any table.
use Rattle.std.specs.Prelude.{◌≡◌, refl, [], ◌∷◌, ℕ, zero, suc, ◌+◌, ◌-◌, ◌*◌, ◌<◌, T}
use Rattle.std.proofs.Common.{ap, arith, lit≤, lit<}
use Rattle.model.specs.Notation.{sum, largest, count, first, last, Least}
use Rattle.values.specs.declared.Verdict.{Verdict}
use Rattle.model.specs.Tasks.{task, release, task_fault, first_faulty, round, load, horizon, judged_mixed}
use Rattle.model.specs.Demand.{arrived_in, demand, late_at}
use Rattle.model.specs.Run.{Order, Worst}
use Rattle.model.specs.Verdict.{needed, late_start, verdict, Worsts}
use Rattle.model.specs.Dispatcher.{State, first_strange}
use Rattle.model.specs.TableFile.{table_of}
use Rattle.model.specs.Easing.{EasedTask, Eased, Lowered}
use Rattle.model.specs.Examples.{padded, of, table_b, table_d, table_g}
use Rattle.wellformed.specs.Ranges.{Ranged}
use Rattle.wellformed.specs.WellFormed.{well_mixed}
use Rattle.backlog.specs.Queue.{backlog, Busy, busy_from}
use Rattle.backlog.specs.Streams.{Jobs}
use Rattle.backlog.specs.Agree.{Agree}
use Rattle.backlog.specs.Criterion.{Met}
use Rattle.backlog.specs.History.{History}
use Rattle.backlog.specs.RunHistory.{run_history}
use Rattle.backlog.specs.Choice.{standing}
use Rattle.backlog.specs.System.{System, spread}
use Rattle.backlog.proofs.System.{coming, jobs, dues, constrained}
use Rattle.backlog.proofs.ModelRun.{served_of, model_run}
use Rattle.backlog.specs.Shift.{Light}
use Rattle.backlog.proofs.Overload.{light_of_met}
use Rattle.backlog.proofs.TableSystem.{tie_system, tie_cycle}
use Rattle.backlog.specs.TooMuch.{never_iff}
use Rattle.backlog.proofs.EveryInstant.{Missed, first_missed}
use Rattle.backlog.proofs.Feasible.{Feasible, feasible_iff}
use Rattle.backlog.specs.Needed.{none_before}
use Rattle.backlog.proofs.Passes.{passes_iff}
use Rattle.backlog.proofs.PassedWorst.{met_of_passed, worst_of}
use Rattle.backlog.specs.Taken.{Belongs}
use Rattle.backlog.specs.Walk.{Clear}
use Rattle.backlog.specs.WalkWorst.{worst_by}
use Rattle.backlog.proofs.WalkWorst.{walk_worsts}

-- Two units in each slot leave a backlog.
busy : (s : ℕ) × Busy (λ u. 2) 3 s
unfolding backlog
busy = busy_from (λ u. 2) 3 (lit< tt)

-- Table b keeps its ranges and passes, so some schedule of it is good.
b_ranged : Ranged table_b
unfolding judged_mixed first_faulty task_fault first round load horizon largest sum count
b_ranged = (well_mixed table_b (record { round = 15; load = 11; horizon = 38 }) refl).ranged

b_passes : verdict table_b 38 ≡ Verdict.Passes
unfolding verdict needed late_start late_at first last round load horizon largest sum count demand arrived_in
b_passes = refl

b_feasible : Feasible table_b
unfolding horizon largest round first count
b_feasible = (passes_iff table_b b_ranged 38 (lit≤ tt)).0 b_passes

-- In its run every deadline is met, and the run is a history.
abbrev b_system : System
b_system = tie_system table_b b_ranged

b_met : Met (jobs b_system) (dues b_system) (served_of b_system)
b_met = met_of_passed table_b b_ranged 38 b_passes _

b_history : (o r g : ℕ → ℕ → ℕ) × History (jobs b_system) (dues b_system) (λ t i. ⊥) o r g
b_history = (_, _, _, run_history (jobs b_system) (dues b_system) (constrained b_system) (served_of b_system) (model_run b_system) b_met)

-- In every order of its tasks there is a worst response. No interval of it asks too much, so a walk to its horizon finds them.
b_worst_by : (rank : Order) → (w : ℕ) × Worst table_b rank 0 w
b_worst_by rank = worst_of table_b b_ranged 38 b_passes rank 0 (lit< tt)

b_clear : Clear table_b (horizon table_b)
b_clear u l = (never_iff table_b).0 ((feasible_iff table_b b_ranged).0 b_feasible) u

b_walk_worsts : Worsts table_b (worst_by table_b (horizon table_b))
b_walk_worsts = walk_worsts table_b b_ranged b_met

-- Were task 0 to come from 9 on instead of 8, the jobs before 8 would agree.
abbrev b_later : Jobs
b_later = coming b_system (λ i j. release (task table_b i) j + (1 - i)) (λ i j l. omega arith)

b_agree : Agree (jobs b_system) b_later 8
b_agree = record {
  same_n = refl;
  same_cost = λ i l. refl;
  forth = forth;
  back = back;
  same_key = λ i j l h. ap (λ (x : ℕ). (x + (task table_b i).deadline) * spread b_system + standing b_system.rank i) (forth i j l h);
}
  where
    forth : (i j : ℕ) → i < 2 → release (task table_b i) j < 8 → b_later.rel i j ≡ release (task table_b i) j
    forth zero j l h = absurd (omega arith)
    forth (suc i) j l h = omega arith

    back : (i j : ℕ) → i < 2 → b_later.rel i j < 8 → b_later.rel i j ≡ release (task table_b i) j
    back zero j l h = absurd (omega arith)
    back (suc i) j l h = omega arith

-- Table b eased: task 0 is left out, and the other costs 1 less and is due 1 later.
b_eased : Eased table_b (table_of (of 0 1 3 5 ∷ []))
b_eased = record {
  kept = λ i. suc i;
  in_order = λ i k l m. omega arith;
  of_before = λ i l. omega arith;
  each = λ i. elim i as (λ n. n < 1 → EasedTask (task table_b (suc n)) (task (table_of (of 0 1 3 5 ∷ [])) n)) [
    | zero ↦ λ l. record { same_sort = refl; same_offset = refl; same_period = refl; lower_cost = lit≤ tt; longer_deadline = lit≤ tt }
    | suc k ↦ λ l. absurd (omega arith)
  ];
}

-- Lowered: task 0 costs 4.
b_lowered : Lowered table_b (table_of (of 8 4 7 15 ∷ of 0 2 2 5 ∷ []))
b_lowered = record {
  same_count = refl;
  each = λ i. elim i as (λ n. n < 2 → EasedTask (task table_b n) (task (table_of (of 8 4 7 15 ∷ of 0 2 2 5 ∷ [])) n)) [
    | zero ↦ λ l. record { same_sort = refl; same_offset = refl; same_period = refl; lower_cost = lit≤ tt; longer_deadline = lit≤ tt }
    | suc k ↦ λ l. record { same_sort = refl; same_offset = refl; same_period = refl; lower_cost = omega arith; longer_deadline = omega arith }
  ];
  same_deadline = λ i. elim i as (λ n. n < 2 → (task (table_of (of 8 4 7 15 ∷ of 0 2 2 5 ∷ [])) n).deadline ≡ (task table_b n).deadline) [
    | zero ↦ λ l. refl
    | suc k ↦ λ l. refl
  ];
}

-- Table g has load exactly 1, and passes.
g_ranged : Ranged table_g
unfolding judged_mixed first_faulty task_fault first round load horizon largest sum count
g_ranged = (well_mixed table_g (record { round = 4; load = 4; horizon = 8 }) refl).ranged

g_passes : verdict table_g 8 ≡ Verdict.Passes
unfolding verdict needed late_start late_at first last round load horizon largest sum count demand arrived_in
g_passes = refl

g_light : Light (tie_system table_g g_ranged) (tie_cycle table_g g_ranged)
g_light =
    let S : System = tie_system table_g g_ranged in
    light_of_met S (tie_cycle table_g g_ranged) _ (model_run S) (met_of_passed table_g g_ranged 8 g_passes _)

-- A state of table g that somebody else made: task 0 is open with one slot left and its wait is 2, and task 1 ran last.
other : State
other = record { wait = padded 0 (2 ∷ 2 ∷ []); left = padded 0 (1 ∷ 0 ∷ []); last = 1; given = padded 0 []; empty = 0 }

g_belongs : Belongs table_g other
unfolding other first_strange first
g_belongs = record { waits = refl; lefts = refl; gives = refl; each = lit≤ tt; ran = refl }

-- Table d is late first at 7, where its run first misses a deadline.
d_ranged : Ranged table_d
unfolding judged_mixed first_faulty task_fault first round load horizon largest sum count
d_ranged = (well_mixed table_d (record { round = 15; load = 11; horizon = 30 }) refl).ranged

d_late : Least (λ u. T (late_at table_d u)) 7
unfolding needed late_at first round horizon largest sum count demand arrived_in
d_late = (tt, λ u l. none_before table_d u l)

d_missed : Least (Missed (tie_system table_d d_ranged)) 7
d_missed = (first_missed (tie_system table_d d_ranged) 7).1 d_late
