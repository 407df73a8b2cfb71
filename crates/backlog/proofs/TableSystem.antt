-- A TABLE'S HORIZON (`horizon_is`): a table that keeps its ranges is a system, in any order of its tasks, and its H and largest offset make a cycle
-- that has the model's load and horizon.
use Rattle.std.specs.Prelude.{◌≡◌, ◌/◌}
use Rattle.std.proofs.Math.Path.{refl}
use Rattle.std.proofs.Math.Nat.{div-mul_cancel}
use Rattle.model.specs.Notation.{largest}
use Rattle.values.specs.declared.Table.{Table}
use Rattle.model.specs.Tasks.{task, offset, round, load, horizon}
use Rattle.model.specs.Run.{Order, tie_order}
use Rattle.counting.specs.Search.{le_largest}
use Rattle.wellformed.specs.Ranges.{Ranged}
use Rattle.wellformed.specs.Round.{round_pos, period_divides}
use Rattle.backlog.specs.System.{System}
use Rattle.backlog.specs.Shift.{Cycle, horizon_of, load_of}

module _ (t : Table) (r : Ranged t) (rank : Order) where
  abbrev pub system_of : System
  system_of = record {
    table = t;
    rank = rank;
    size_le = r.few;
    cost_pos = λ i l. (r.each i l).cost_pos;
    deadline_pos = λ i l. (r.each i l).deadline_pos;
    deadline_le = λ i l. (r.each i l).deadline_le;
  }

  abbrev pub cycle_of : Cycle system_of
  cycle_of = record {
    round = round t;
    start = largest t.count (λ i. offset (task t i));
    times = λ i. round t / (task t i).period;
    round_pos = round_pos t r;
    common = λ i l. div-mul_cancel (task t i).period (period_divides t r i l);
    starts = λ i l. le_largest t.count (λ k. offset (task t k)) i l;
  }

  -- The cycle's load and horizon are the model's.
  pub load_is : load_of system_of cycle_of ≡ load t
  unfolding load_of load
  load_is = refl

  pub horizon_is : horizon_of system_of cycle_of ≡ horizon t
  unfolding horizon
  horizon_is = refl

-- A table with the order of its run and its dispatcher.
abbrev pub tie_system : (t : Table) → Ranged t → System
tie_system t r = system_of t r (tie_order t)

abbrev pub tie_cycle : (t : Table) (r : Ranged t) → Cycle (tie_system t r)
tie_cycle t r = cycle_of t r (tie_order t)
