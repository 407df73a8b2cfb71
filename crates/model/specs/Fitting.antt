-- What would fit (ours): the largest cost and the smallest deadline of one task, and the largest share of every cost, with which
-- a table passes; and the one permitted answer to a table, a change and a budget.
use Rattle.values.specs.declared.Limit.{Limit}
use Rattle.std.specs.Prelude.{List, Bool, false, cond, ℕ, suc, ◌+◌, ◌-◌, ◌*◌, ◌/◌, min, ltb, set, Ok, Err}
use Rattle.model.specs.Notation.{fill, first, last}
use Rattle.model.specs.Values.{Task, Table, Judgement, Verdict, Change, Fit, refusal}
use Rattle.model.specs.Limits.{slot_limit, share_limit, word_limit}
use Rattle.model.specs.Tasks.{task, judged}
use Rattle.model.specs.Verdict.{verdict}
use Rattle.model.specs.TableFile.{form_of}
use Rattle.model.specs.Report.{refusal_number, file_number}
use Rattle.model.specs.Largest.{costing, with_cost, is_pass}

-- A task with another deadline, and the table with that one deadline changed.
abbrev pub due_in : Task → ℕ → Task
due_in k d = record { sort = k.sort; cost = k.cost; deadline = d; period = k.period }

abbrev pub with_deadline : Table → ℕ → ℕ → Table
with_deadline t i d = record { count = t.count; tasks = set t.tasks i (due_in (task t i) d) }

-- Of a cost p thousandths, rounded up to slots; and the table with that share of every cost.
abbrev pub share_of : ℕ → ℕ → ℕ
share_of c p = (c * p + 999) / 1000

abbrev pub shared : Table → ℕ → ℕ → Task
shared t p i = costing (task t i) (share_of (task t i).cost p)

abbrev pub with_share : Table → ℕ → Table
with_share t p = record { count = t.count; tasks = fill t.count (shared t p) t.tasks }

-- A table fits if it is well-formed, without a button, and passes.
abbrev pub fits_by : Judgement → Verdict → Bool
fits_by (Err r) v = false
fits_by (Ok m) v = is_pass v

unfoldable pub fits : Table → ℕ → Bool
fits t budget = fits_by (judged t) (verdict t budget)

-- The largest cost of task i, up to its deadline, with which the table fits; 0 if there is none.
unfoldable pub fitting_cost : Table → ℕ → ℕ → ℕ
fitting_cost t i budget = last (λ c. fits (with_cost t i c) budget) (suc (task t i).deadline)

-- The smallest deadline of task i, from its cost to its period, with which the table fits; the next number if there is none.
unfoldable pub fitting_deadline : Table → ℕ → ℕ → ℕ
fitting_deadline t i budget =
    first (λ d. fits (with_deadline t i d) budget) (task t i).cost (suc (task t i).period - (task t i).cost)

-- The largest share of every cost, in thousandths up to 1,000 times, with which the table fits; 0 if there is none.
unfoldable pub fitting_share : Table → ℕ → ℕ
fitting_share t budget = last (λ p. fits (with_share t p) budget) (suc share_limit)

abbrev pub fitting : Table → Change → ℕ → ℕ
fitting t (Change.Cost i) budget = fitting_cost t i budget
fitting t (Change.Deadline i) budget = fitting_deadline t i budget
fitting t Change.Share budget = fitting_share t budget

-- The change at its easiest: the cost is 1, the deadline is the period, every cost is a thousandth of itself.
abbrev pub easiest : Table → Change → Table
easiest t (Change.Cost i) = with_cost t i 1
easiest t (Change.Deadline i) = with_deadline t i (task t i).period
easiest t Change.Share = with_share t 1

-- What is told, by the verdict on the table with the change at its easiest.
abbrev pub fit_told : Table → Change → ℕ → Verdict → Fit
fit_told t c budget Verdict.Overload = Ok Limit.Overload
fit_told t c budget (Verdict.Late from to asked) = Ok Limit.Late
fit_told t c budget Verdict.Undecided = Ok Limit.Undecided
fit_told t c budget Verdict.Passes = Ok (Limit.At (fitting t c budget))

-- The task that is asked for; with a share it is 0, which every table has.
abbrev pub task_of : Change → ℕ
task_of (Change.Cost i) = i
task_of (Change.Deadline i) = i
task_of Change.Share = 0

-- By what the table is judged to be: its refusal; 12 for a number that is none of its tasks', at that number;
-- or what is told.
abbrev pub fit_judged : Table → Change → ℕ → Judgement → Fit
fit_judged t c budget (Err r) = Err r
fit_judged t c budget (Ok m) =
    cond (ltb (task_of c) t.count) (fit_told t c budget (verdict (easiest t c) budget)) (Err (refusal 12 (task_of c)))

-- The one permitted answer to any table, change and budget, refusals included.
unfoldable pub fit_answer : Table → Change → ℕ → Fit
fit_answer t c budget = fit_judged t c budget (judged t)

-- As a number: the cost or deadline; behind the largest one the verdict's number, where there is none; or the refusal.
abbrev pub fit_number : Fit → ℕ
fit_number (Err r) = refusal_number r
fit_number (Ok Limit.Overload) = slot_limit + 1
fit_number (Ok Limit.Undecided) = slot_limit + 2
fit_number (Ok Limit.Late) = slot_limit + 3
fit_number (Ok (Limit.At n)) = n

-- A share stands above all of these, in the upper half of the number.
abbrev pub share_number : Fit → ℕ
share_number (Err r) = refusal_number r
share_number (Ok Limit.Overload) = slot_limit + 1
share_number (Ok Limit.Undecided) = slot_limit + 2
share_number (Ok Limit.Late) = slot_limit + 3
share_number (Ok (Limit.At p)) = p * word_limit

-- The numbers that the exported calls return of any file and task number; no table has a task 65,535.
abbrev pub fit_cost_exported : List ℕ → ℕ → ℕ
fit_cost_exported file i = file_number file (λ t. fit_number (fit_answer t (Change.Cost (min i 65535)) (form_of file).budget))

abbrev pub fit_deadline_exported : List ℕ → ℕ → ℕ
fit_deadline_exported file i = file_number file (λ t. fit_number (fit_answer t (Change.Deadline (min i 65535)) (form_of file).budget))

abbrev pub fit_share_exported : List ℕ → ℕ
fit_share_exported file = file_number file (λ t. share_number (fit_answer t Change.Share (form_of file).budget))
