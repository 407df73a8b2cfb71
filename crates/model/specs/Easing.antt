-- What may be eased in a table (T-11): costs lowered, deadlines lengthened, tasks left out, and all of that together;
-- and what is told of two tables.
use Rattle.std.specs.Prelude.{List, ◌≡◌, Bool, cond, not, ◌&&◌, ℕ, zero, suc, ◌+◌, ◌-◌, ◌*◌, ◌≤◌, ◌<◌, leb, ltb, eqb, Ok, Err}
use Rattle.model.specs.Notation.{some, first, bits}
use Rattle.model.specs.Values.{Task, Table, Easing, Admission}
use Rattle.model.specs.Tasks.{task, is_button, offset}
use Rattle.model.specs.TableFile.{periodic_from}
use Rattle.model.specs.Report.{refusal_number}

-- A task eased: it is of the same sort, is released as before, costs no more, and is due no earlier.
pub record EasedTask (before after : Task) : Type 0 where
  pub same_sort : is_button after ≡ is_button before
  pub same_offset : offset after ≡ offset before
  pub same_period : after.period ≡ before.period
  pub lower_cost : after.cost ≤ before.cost
  pub longer_deadline : before.deadline ≤ after.deadline

-- A table eased: its task i is the eased task `kept i` of the table before. The kept tasks stand in their order;
-- the others are left out.
pub record Eased (before after : Table) : Type 0 where
  pub kept : ℕ → ℕ
  pub in_order : (i k : ℕ) → i < k → k < after.count → kept i < kept k
  pub of_before : (i : ℕ) → i < after.count → kept i < before.count
  pub each : (i : ℕ) → i < after.count → EasedTask (task before (kept i)) (task after i)

-- Costs alone lowered: every task is kept, with its offset, period and deadline, and costs no more.
pub record Lowered (before after : Table) : Type 0 where
  pub same_count : after.count ≡ before.count
  pub each : (i : ℕ) → i < before.count → EasedTask (task before i) (task after i)
  pub same_deadline : (i : ℕ) → i < before.count → (task after i).deadline ≡ (task before i).deadline

-- The test of a task: it is the other, eased.
abbrev pub eases : Task → Task → Bool
eases before after =
    cond (is_button before) (is_button after) (not (is_button after)) && (eqb (offset after) (offset before) && (eqb after.period before.period
    && (leb after.cost before.cost && leb before.deadline after.deadline)))

-- The first task of the table, from this one on, of which k is the eased one, or the count.
abbrev pub next_eased : Table → Task → ℕ → ℕ
next_eased before k from = first (λ i. eases (task before i) k) from (before.count - from)

-- Where the search for task i begins: behind what the task before it was found to be.
unfoldable pub searched_from : Table → Table → ℕ → ℕ
searched_from before after zero = 0
searched_from before after (suc i) = suc (next_eased before (task after i) (searched_from before after i))

-- The task of the table before that task i is found to be. Of several choices of kept tasks this is the first in order.
-- From the count on: none.
abbrev pub kept_as : Table → Table → ℕ → ℕ
kept_as before after i = next_eased before (task after i) (searched_from before after i)

-- The first task that is found to be none, or the count.
abbrev pub unmatched : Table → Table → ℕ
unmatched before after = first (λ i. leb before.count (kept_as before after i)) 0 after.count

-- The tasks of the table before that are kept, as a set of bits.
abbrev pub kept_set : Table → Table → ℕ
kept_set before after = bits (λ k. some (λ i. eqb (kept_as before after i) k) after.count) before.count

-- What is told of two tables: the first task that is none, or the tasks that are kept.
unfoldable pub easing : Table → Table → Easing
easing before after =
    cond (ltb (unmatched before after) after.count)
    (Easing.Unmatched (unmatched before after))
    (Easing.Kept (kept_set before after))

-- A table's first n tasks.
abbrev pub first_tasks : Table → ℕ → Table
first_tasks t n = record { count = n; tasks = t.tasks }

-- As a number: 4 · task, or 4 · set + 1.
abbrev pub easing_number : Easing → ℕ
easing_number (Easing.Unmatched i) = 4 * i
easing_number (Easing.Kept set) = 4 * set + 1

-- The refusal of the old file, 4 · refusal + 2; then of the new one, 4 · refusal + 3;
-- else what is told of their tables.
abbrev pub eased_number : Table → Table → Admission → Admission → ℕ
eased_number before after (Err r) a = 4 * refusal_number r + 2
eased_number before after (Ok u) (Err r) = 4 * refusal_number r + 3
eased_number before after (Ok u) (Ok v) = easing_number (easing before after)

-- The number that the exported call returns of an old and a new file.
abbrev pub eased_exported : List ℕ → List ℕ → ℕ
eased_exported old new =
    let b = periodic_from old in
    let a = periodic_from new in
    eased_number b.table a.table b.admission a.admission
