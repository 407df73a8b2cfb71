-- A table unpacked: a list for each number that a walk reads.
use Rattle.std.specs.Prelude.{◌≡◌, List, ℕ, ◌≤◌, replicate}
use Rattle.values.specs.declared.Table.{Table}
use Rattle.model.specs.Limits.{task_limit}
use Rattle.model.specs.Tasks.{task}
use Rattle.slots.specs.Columns.{column}
use Rattle.slots.specs.Laws.{Has, fill_has}
use Rattle.leaps.specs.Entry.{mark_of, entry}
use Rattle.leaps.specs.declared.Columns.{Columns}

unfoldable pub columns_of : Table → Columns
columns_of t =
    record {
      table = t;
      period = column t.count (λ i. entry t (task t i).period i);
      cost = column t.count (λ i. (task t i).cost);
      deadline = column t.count (λ i. entry t (task t i).deadline i);
      mark = column t.count (mark_of t);
    }

-- The list has the marks of the table's tasks.
abbrev pub Marked : Table → List ℕ → Type 0
Marked t mark = Has t.count mark (mark_of t)

-- The lists are the table's columns.
pub record Columned (t : Table) (period cost deadline : List ℕ) : Type 0 where
  pub periods : Has t.count period (λ i. entry t (task t i).period i)
  pub costs : Has t.count cost (λ i. (task t i).cost)
  pub deadlines : Has t.count deadline (λ i. entry t (task t i).deadline i)

module _ (t : Table) (few : t.count ≤ task_limit) {c : Columns} (e : c ≡ columns_of t) where
  pub marked : Marked t c.mark
  unfolding columns_of
  marked = rw e (fill_has t.count _ (replicate task_limit 0) few)

  pub columned : Columned t c.period c.cost c.deadline
  unfolding columns_of
  columned = rw e (record {
    periods = fill_has t.count _ (replicate task_limit 0) few;
    costs = fill_has t.count _ (replicate task_limit 0) few;
    deadlines = fill_has t.count _ (replicate task_limit 0) few;
  })
