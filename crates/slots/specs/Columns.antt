-- A table unpacked: a list for each number that a slot reads.
use Rattle.std.specs.Prelude.{◌≡◌, List, ℕ, ◌-◌, replicate}
use Rattle.values.specs.declared.Table.{Table}
use Rattle.model.specs.Limits.{task_limit}
use Rattle.model.specs.Notation.{fill}
use Rattle.model.specs.Tasks.{task}
use Rattle.model.specs.Run.{tie_order}
use Rattle.slots.specs.declared.columns.Columns.{Columns}

-- The lists alone.
pub record Lists : Type 0 where
  pub period : List ℕ
  pub cost : List ℕ
  pub slack : List ℕ
  pub rank : List ℕ

-- A list with the numbers f 0, f 1, .. for n tasks, and else 0.
abbrev pub column : ℕ → (ℕ → ℕ) → List ℕ
column n f = fill n f (replicate task_limit 0)

unfoldable pub columns_of : Table → Lists
columns_of t =
    record {
      period = column t.count (λ i. (task t i).period);
      cost = column t.count (λ i. (task t i).cost);
      slack = column t.count (λ i. (task t i).period - (task t i).deadline);
      rank = column t.count (tie_order t);
    }

-- These are the table's.
pub record Unpacked (t : Table) (c : Columns) : Type 0 where
  pub tasks : c.count ≡ t.count
  pub periods : c.period ≡ (columns_of t).period
  pub costs : c.cost ≡ (columns_of t).cost
  pub slacks : c.slack ≡ (columns_of t).slack
  pub ranks : c.rank ≡ (columns_of t).rank
