-- Where the load is at most 1, the jobs released in x slots ask for little more than x: no more than one job of each task.
use Rattle.std.specs.Prelude.{ℕ, ◌+◌, ◌-◌, ◌*◌, ◌/◌, ◌≤◌, ◌<◌}
use Rattle.std.proofs.Common.{mul_comm, add-mul, mul-le-mul_left, div-mul-le_self, arith}
use Rattle.std.proofs.Math.Nat.{le_of_mul-le-mul_left, lt-div-mul-add}
use Rattle.std.proofs.Math.Decide.{dec_lt}
use Rattle.values.specs.declared.Task.{Task}
use Rattle.values.specs.declared.Table.{Table}
use Rattle.model.specs.Notation.{sum}
use Rattle.model.specs.Tasks.{task, release, round, load}
use Rattle.counting.specs.Below.{below, below_most, below_next, grows_mono}
use Rattle.counting.specs.Sum.{sum_le, sum_mul}
use Rattle.wellformed.specs.Ranges.{InRange, Ranged}
use Rattle.wellformed.specs.Round.{round_pos, share, shares_round}
use Rattle.wellformed.specs.Closed.{releases}

-- Of whole periods alone: C · (x / T), summed, is at most x.
pub shares_le : (t : Table) → Ranged t → load t ≤ round t → (x : ℕ) → sum t.count (share t x) ≤ x
unfolding load
shares_le t r light x =
    le_of_mul-le-mul_left {k = round t}
    (omega (
      arith,
      sum_mul t.count (round t) (share t x),
      sum_le t.count (λ i. round t * share t x i) (λ i. x * share t (round t) i) each,
      sum_mul t.count x (share t (round t)),
      mul-le-mul_left x light,
      mul_comm x (round t),
    ))
    (round_pos t r)
  where
    each : (i : ℕ) → i < t.count → round t * share t x i ≤ x * share t (round t) i
    each i l = shares_round t r i l (x / (task t i).period) x (div-mul-le_self x (task t i).period)

-- The jobs of a task released from `later` on and before `from`: at most one, and one more for each whole period between.
pub new_le : (k : Task) → InRange k → (later from : ℕ) → later < from → below (release k) from ≤ below (release k) later + (1 + (from - later - 1) / k.period)
new_le k r later from h = below_most (release k) (releases k r) from _ (λ j l. elim (dec_lt j (below (release k) later + (1 + (from - later - 1) / k.period))) [
  | yes p ↦ p
  | no p ↦ absurd (omega (
    arith,
    grows_mono (release k) (releases k r) (below (release k) later + (1 + (from - later - 1) / k.period)) j (omega arith),
    add-mul (below (release k) later) (1 + (from - later - 1) / k.period) k.period,
    add-mul 1 ((from - later - 1) / k.period) k.period,
    below_next (release k) (releases k r) later,
    lt-div-mul-add {a = from - later - 1} r.period_pos,
  ))
])
