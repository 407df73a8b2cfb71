-- WHAT THIS CRATE ASKS FOR CAN BE MET: for each record of hypotheses, and for each test that a law asks for, a table
-- that meets it: tables b and g, and the shutter's.
use Rattle.std.specs.Prelude.{◌≡◌, refl, ℕ, T, eqb}
use Rattle.std.proofs.Common.{arith, eqb-true, lit≤}
use Rattle.model.specs.Notation.{sum, largest, count, first, last, fill}
use Rattle.model.specs.Tasks.{task, release, task_fault, first_faulty, round, load, horizon, judged_mixed}
use Rattle.model.specs.Demand.{releases}
use Rattle.model.specs.Arrivals.{Respects}
use Rattle.model.specs.Run.{tie_order, choose, owner_of, served}
use Rattle.model.specs.Dispatcher.{left_of}
use Rattle.model.specs.Idle.{idle_at, first_idle, missed_at}
use Rattle.model.specs.Patterns.{starting_at, calm, quick_pass, common_divisor, distance, distance_pass}
use Rattle.model.specs.Examples.{table_b, table_g}
use Rattle.model.specs.ButtonExamples.{table_shutter}
use Rattle.counting.specs.Count.{is_true, every_iff}
use Rattle.wellformed.specs.Ranges.{Ranged}
use Rattle.wellformed.specs.WellFormed.{well_mixed}
use Rattle.backlog.proofs.TableSystem.{tie_cycle}
use Rattle.backlog.specs.TooMuch.{never_iff}
use Rattle.backlog.specs.Walk.{walked, Clear}
use Rattle.patterns.specs.WalkIdle.{none_left, walk_idle_at}
use Rattle.patterns.specs.RoundAgain.{Rests}
use Rattle.patterns.specs.Calm.{CalmFrom}
use Rattle.patterns.specs.Quick.{quick_never}
use Rattle.patterns.specs.GoodReleased.{releases_respect}

-- Table g has load exactly 1 and passes quickly, so no interval of it asks too much.
g_ranged : Ranged table_g
unfolding judged_mixed first_faulty task_fault first round load horizon largest sum count
g_ranged = (well_mixed table_g (record { round = 4; load = 4; horizon = 8 }) refl).ranged

g_quick : T (quick_pass table_g)
unfolding quick_pass calm starting_at fill first_idle idle_at missed_at first round load sum count served owner_of choose
g_quick = tt

g_clear : (n : ℕ) → Clear table_g n
g_clear n u l = (never_iff table_g).0 (quick_never table_g g_ranged g_quick) u

-- Its pattern with all offsets 0 is calm.
g_calm_from : CalmFrom table_g (λ i j. release (task table_g i) j) 0 (λ i. 0)
unfolding calm starting_at fill first_idle idle_at missed_at first round count served owner_of choose
g_calm_from = record { low = λ i l. lit≤ tt; near = λ i l. omega arith; still = tt }

-- All that was released by 4 is finished by then: its round from 0 on ends there, so that it repeats from 0 on.
g_walk_idle : none_left table_g 4 ≡ idle_at table_g (tie_order table_g) 4
g_walk_idle = walk_idle_at table_g g_ranged 4 (g_clear 4)

g_rests : Rests table_g g_ranged (tie_cycle table_g g_ranged) 0
unfolding idle_at largest round first count served owner_of choose
g_rests = record {
  started = lit≤ tt;
  clear = g_clear 4;
  shut = λ i l. eqb-true _ _ (is_true _ ((every_iff (λ k. eqb (left_of (walked table_g 4) k) 0) 2).0 (rw g_walk_idle tt) i l));
}

-- Table b does not pass quickly, but by its distances.
b_ranged : Ranged table_b
unfolding judged_mixed first_faulty task_fault first round load horizon largest sum count
b_ranged = (well_mixed table_b (record { round = 15; load = 11; horizon = 38 }) refl).ranged

b_distance : T (distance_pass table_b)
unfolding distance_pass distance common_divisor calm starting_at fill first_idle idle_at missed_at first last round load sum count served owner_of choose
b_distance = tt

-- So does the shutter's table. Its button may be pressed in every second slot.
shutter_ranged : Ranged table_shutter
unfolding judged_mixed first_faulty task_fault first round load horizon largest sum count
shutter_ranged = (well_mixed table_shutter (record { round = 6; load = 5; horizon = 15 }) refl).ranged

shutter_pass : T (distance_pass table_shutter)
unfolding distance_pass distance common_divisor calm starting_at fill first_idle idle_at missed_at first last round load sum count served owner_of choose
shutter_pass = tt

shutter_respects : Respects table_shutter (releases table_shutter)
shutter_respects = releases_respect table_shutter shutter_ranged
