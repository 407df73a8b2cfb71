-- How much an interval can ask for: a task has at most one job a slot.
use Rattle.std.specs.Prelude.{◌≡◌, ◌&&◌, ℕ, ◌-◌, ◌*◌, ◌/◌, ◌%◌, ◌≤◌, ◌<◌, leb, eqb}
use Rattle.std.proofs.Common.{ap, ◌∙◌, mul-le-mul, le_refl, arith, eqb→eq}
use Rattle.std.proofs.Math.Nat.{mod-add-div', mul-mod_left}
use Rattle.values.specs.declared.Task.{Task}
use Rattle.values.specs.declared.Table.{Table}
use Rattle.model.specs.Notation.{count}
use Rattle.model.specs.Limits.{task_limit, slot_limit}
use Rattle.model.specs.Tasks.{task, offset, release, due}
use Rattle.model.specs.Demand.{released, arrived_in, jobs_in, demand}
use Rattle.counting.specs.Count.{tests, and_iff, eq→eqb, count_bound}
use Rattle.counting.specs.Enumerate.{Enumerates, count_inside_enumerated}
use Rattle.counting.specs.Sum.{sum_bound}
use Rattle.wellformed.specs.Ranges.{Ranged}
use Rattle.wellformed.specs.WellFormed.{horizon_limit}

-- A periodic task arrives at its releases, one by one.
pub released_enumerates : (k : Task) (n : ℕ) → Enumerates (released k) (release k) n
released_enumerates k n u l = (
  λ h.
      let (a, b) = (and_iff (leb (offset k) u) (eqb ((u - offset k) % k.period) 0)).0 h in
      ((u - offset k) / k.period, omega (tests, mod-add-div' (u - offset k) k.period, eqb→eq ((u - offset k) % k.period) 0 b)),
  λ (j, e).
      let q : u - offset k ≡ j * k.period = omega arith in
      (and_iff (leb (offset k) u) (eqb ((u - offset k) % k.period) 0)).1
      (omega tests, eq→eqb _ 0 (ap (λ (x : ℕ). x % k.period) q ∙ mul-mod_left j k.period)),
)

-- So its jobs inside an interval can be counted by their numbers. There is no job before job 0, and a job's number is below its deadline.
pub jobs_numbered : (k : Task) → 0 < k.period → 0 < k.deadline → (from to : ℕ) → jobs_in k from to ≡ count (λ j. leb from (release k j) && leb (due k j) to) to
unfolding arrived_in
jobs_numbered k pos due from to = count_inside_enumerated (released k) (release k) (λ j. omega arith) from k.deadline to (released_enumerates k to) due

jobs_le : (k : Task) (from to : ℕ) → jobs_in k from to ≤ to
unfolding arrived_in
jobs_le k from to = count_bound _ to

-- What the jobs of task i ask for.
abbrev pub asks : Table → ℕ → ℕ → ℕ → ℕ
asks t from to i = (task t i).cost * jobs_in (task t i) from to

abbrev pub asks_limit : ℕ
asks_limit = slot_limit * horizon_limit

pub asks_le : (t : Table) → Ranged t → (from to i : ℕ) → i < t.count → to ≤ horizon_limit → asks t from to i ≤ asks_limit
asks_le t r from to i l h =
    let k = r.each i l in
    mul-le-mul {n₂ = slot_limit} {m₂ = horizon_limit} (omega (arith, k.cost_le, k.deadline_le, k.period_le)) (omega (arith, jobs_le (task t i) from to))

pub demand_le : (t : Table) → Ranged t → (from to : ℕ) → to ≤ horizon_limit → demand t from to ≤ task_limit * asks_limit
unfolding demand
demand_le t r from to h =
    omega (
      arith,
      sum_bound t.count (asks t from to) asks_limit (λ i l. asks_le t r from to i l h),
      mul-le-mul {n₂ = task_limit} {m₂ = asks_limit} r.few (le_refl asks_limit),
    )
