-- A TABLE IS STREAMS OF JOBS (`demand_streams`): one of no more tasks than allowed, which cost something and are due after their release and by the
-- next one, with an order of its tasks, makes streams with the model's demand.
use Rattle.std.specs.Prelude.{◌≡◌, ℕ, ◌+◌, ◌-◌, ◌*◌}
use Rattle.std.proofs.Common.{ap, arith}
use Rattle.model.specs.Tasks.{task}
use Rattle.model.specs.Demand.{demand}
use Rattle.counting.specs.Sum.{sum_eq}
use Rattle.wellformed.specs.Demand.{jobs_numbered}
use Rattle.backlog.specs.Streams.{Jobs}
use Rattle.backlog.specs.Criterion as streams
use Rattle.backlog.specs.Criterion.{Dues, Constrained}
use Rattle.backlog.specs.System.{System, size, cost_of, release_of, spread, Apart, due_from, key_from}
use Rattle.backlog.proofs.Keys.{period_pos, dues_grow, keys_grow, keys_apart, keys_cut}

module _ (S : System) (rel : ℕ → ℕ → ℕ) (apart : Apart S rel) where
  -- The streams of jobs that come so.
  abbrev pub coming : Jobs
  coming = record {
    n = size S;
    cost = cost_of S;
    rel = rel;
    key = key_from S rel;
    cost_pos = S.cost_pos;
    rel_grows = λ i l j. omega (arith, apart i j l, period_pos S i l);
    key_grows = keys_grow S rel apart;
    key_apart = keys_apart S rel apart;
  }

  abbrev pub coming_dues : Dues coming
  coming_dues = record {
    due = due_from S rel;
    cut = λ t. t * spread S + (spread S - 1);
    cut_law = keys_cut S rel apart;
    rel_due = λ i j l. omega (arith, S.deadline_pos i l);
    due_grows = dues_grow S rel apart;
  }

-- The jobs of a table come when they are released.
pub released_apart : (S : System) → Apart S (release_of S)
released_apart S i j l = omega arith

abbrev pub jobs : System → Jobs
jobs S = coming S (release_of S) (released_apart S)

abbrev pub dues : (S : System) → Dues (jobs S)
dues S = coming_dues S (release_of S) (released_apart S)

-- A table's deadlines are at most its periods.
pub constrained : (S : System) → Constrained (jobs S) (dues S)
constrained S i j l = omega (arith, S.deadline_le i l)

-- The model's demand is that of the streams.
pub demand_streams : (S : System) (t1 t2 : ℕ) → demand S.table t1 t2 ≡ streams.demand (jobs S) (dues S) t1 t2
unfolding demand streams.demand
demand_streams S t1 t2 =
    sum_eq (size S) _ _ (λ i l. ap (λ (n : ℕ). cost_of S i * n) (jobs_numbered (task S.table i) (period_pos S i l) (S.deadline_pos i l) t1 t2))
