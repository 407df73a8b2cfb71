-- The largest cost that one task of a table can take (T-12), and the one permitted answer to a table,
-- a task number and a budget.
use Rattle.values.specs.declared.Limit.{Limit}
use Rattle.std.specs.Prelude.{List, Bool, true, false, cond, ℕ, suc, ◌+◌, min, ltb, set, Ok, Err}
use Rattle.model.specs.Notation.{last}
use Rattle.model.specs.Values.{Task, Table, Judgement, Verdict, LargestCost, refusal}
use Rattle.model.specs.Limits.{slot_limit}
use Rattle.model.specs.Tasks.{task, judged}
use Rattle.model.specs.Verdict.{verdict}
use Rattle.model.specs.TableFile.{form_of}
use Rattle.model.specs.Report.{refusal_number, file_number}

-- A task with another cost, and the table with that one cost changed.
abbrev pub costing : Task → ℕ → Task
costing k c = record { sort = k.sort; cost = c; deadline = k.deadline; period = k.period }

abbrev pub with_cost : Table → ℕ → ℕ → Table
with_cost t i c = record { count = t.count; tasks = set t.tasks i (costing (task t i) c) }

-- The verdict is a pass.
abbrev pub is_pass : Verdict → Bool
is_pass Verdict.Passes = true
is_pass Verdict.Overload = false
is_pass (Verdict.Late from to asked) = false
is_pass Verdict.Undecided = false

-- With cost c of task i, and the rest as it is, the table passes.
abbrev pub passes_with : Table → ℕ → ℕ → ℕ → Bool
passes_with t i budget c = is_pass (verdict (with_cost t i c) budget)

-- The largest cost of task i, up to its deadline, with which the table passes.
unfoldable pub largest_cost : Table → ℕ → ℕ → ℕ
largest_cost t i budget = last (passes_with t i budget) (suc (task t i).deadline)

-- What is told, by the verdict on the table as it is.
abbrev pub cost_told : Table → ℕ → ℕ → Verdict → LargestCost
cost_told t i budget Verdict.Overload = Ok Limit.Overload
cost_told t i budget (Verdict.Late from to asked) = Ok Limit.Late
cost_told t i budget Verdict.Undecided = Ok Limit.Undecided
cost_told t i budget Verdict.Passes = Ok (Limit.At (largest_cost t i budget))

-- By what the table is judged to be: its refusal; 12 for a number that is none of its tasks',
-- at that number; or what is told.
abbrev pub cost_judged : Table → ℕ → ℕ → Judgement → LargestCost
cost_judged t i budget (Err r) = Err r
cost_judged t i budget (Ok m) =
    cond (ltb i t.count) (cost_told t i budget (verdict t budget)) (Err (refusal 12 i))

-- The one permitted answer to any table, task number and budget, refusals included.
unfoldable pub cost_answer : Table → ℕ → ℕ → LargestCost
cost_answer t i budget = cost_judged t i budget (judged t)

-- As a number: the cost; behind the largest cost the verdict's number, where the table does not pass; or the refusal.
abbrev pub cost_number : LargestCost → ℕ
cost_number (Err r) = refusal_number r
cost_number (Ok Limit.Overload) = slot_limit + 1
cost_number (Ok Limit.Undecided) = slot_limit + 2
cost_number (Ok Limit.Late) = slot_limit + 3
cost_number (Ok (Limit.At c)) = c

-- The number that the exported call returns of any file and task number; no table has a task 65,535.
abbrev pub largest_exported : List ℕ → ℕ → ℕ
largest_exported file i = file_number file (λ t. cost_number (cost_answer t (min i 65535) (form_of file).budget))
