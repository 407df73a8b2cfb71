-- THE RANGES (`ranges_iff`): that a table keeps its ranges, told as products,
-- is that it keeps them as the laws have it.
use Rattle.std.specs.Prelude.{◌↔◌, ℕ, ◌≤◌, ◌<◌}
use Rattle.values.specs.declared.Task.{Task}
use Rattle.values.specs.declared.Table.{Table}
use Rattle.model.specs.Limits.{task_limit, slot_limit}
use Rattle.model.specs.Tasks.{task, offset}
use Rattle.wellformed.specs.Ranges.{InRange, Ranged}

-- A task keeps its ranges; a table has 1 to `task_limit` tasks, each of which does.
abbrev pub InRanges : Task → Type 0
InRanges k =
    (1 ≤ k.period) × (k.period ≤ slot_limit)
    × (1 ≤ k.deadline) × (k.deadline ≤ k.period)
    × (1 ≤ k.cost) × (k.cost ≤ k.deadline)
    × (offset k ≤ slot_limit)

abbrev pub KeepsRanges : Table → Type 0
KeepsRanges t = (1 ≤ t.count) × (t.count ≤ task_limit) × ((i : ℕ) → i < t.count → InRanges (task t i))

in_range : (k : Task) → InRanges k → InRange k
in_range k (a, b, c, d, e, f, g) = record {
  period_pos = a;
  period_le = b;
  deadline_pos = c;
  deadline_le = d;
  cost_pos = e;
  cost_le = f;
  offset_le = g;
}

in_ranges : (k : Task) → InRange k → InRanges k
in_ranges k r = (r.period_pos, r.period_le, r.deadline_pos, r.deadline_le, r.cost_pos, r.cost_le, r.offset_le)

pub ranges_iff : (t : Table) → KeepsRanges t ↔ Ranged t
ranges_iff t = (
  λ (some, few, each). record { some = some; few = few; each = λ i l. in_range (task t i) (each i l) },
  λ r. (r.some, r.few, λ i l. in_ranges (task t i) (r.each i l)),
)
