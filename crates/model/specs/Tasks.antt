-- Tasks, their ranges, and well-formed tables.
use Rattle.std.specs.Prelude.{Bool, true, false, cond, not, ◌&&◌, ℕ, ◌+◌, ◌*◌, ◌/◌, ◌%◌, ◌^◌, leb, ltb, eqb, get_or, Ok, Err}
use Rattle.model.specs.Notation.{sum, largest, every, first}
use Rattle.model.specs.Values.{Sort, Task, Table, Measure, Judgement, Admission, refusal}
use Rattle.model.specs.Limits.{task_limit, slot_limit, round_limit}

-- What stands past the end of a list of tasks.
abbrev pub no_task : Task
no_task = record { sort = Sort.Periodic 0; cost = 0; deadline = 0; period = 0 }

-- Task i of a table.
abbrev pub task : Table → ℕ → Task
task t i = get_or t.tasks i no_task

-- A button comes when it likes (T-13). It has no offset: where one is asked for, it is 0.
abbrev pub button_sort : Sort → Bool
button_sort (Sort.Periodic o) = false
button_sort Sort.Button = true

abbrev pub is_button : Task → Bool
is_button k = button_sort k.sort

abbrev pub sort_offset : Sort → ℕ
sort_offset (Sort.Periodic o) = o
sort_offset Sort.Button = 0

abbrev pub offset : Task → ℕ
offset k = sort_offset k.sort

-- When job j of a periodic task is released, and by when it must be finished.
abbrev pub release : Task → ℕ → ℕ
release k j = offset k + j * k.period

abbrev pub due : Task → ℕ → ℕ
due k j = release k j + k.deadline

-- x lies from a to b, both included.
abbrev pub within : ℕ → ℕ → ℕ → Bool
within a b x = leb a x && leb x b

-- The number of the first range that a task leaves, in the order T, D, C, O; 0 if it keeps them all.
unfoldable pub task_fault : Task → ℕ
task_fault k =
    cond (not (within 1 slot_limit k.period)) 3
    (cond (not (within 1 k.period k.deadline)) 4
    (cond (not (within 1 k.deadline k.cost)) 5
    (cond (not (within 0 slot_limit (offset k))) 6 0)))

-- The first task of a table that leaves a range, or the count.
unfoldable pub first_faulty : Table → ℕ
first_faulty t = first (λ i. not (eqb (task_fault (task t i)) 0)) 0 t.count

-- Every period of the table divides h, and h is not 0.
abbrev pub common_multiple : Table → ℕ → Bool
common_multiple t h = ltb 0 h && every (λ i. eqb (h % (task t i).period) 0) t.count

-- H: the least common multiple of all periods.
-- Periods in range have one that is at most `slot_limit` to the power of their number.
unfoldable pub round : Table → ℕ
round t = first (common_multiple t) 0 (slot_limit ^ t.count)

-- Load: C · (H / T), summed over the tasks. It is over H, and never reduced.
unfoldable pub load : Table → ℕ
load t = sum t.count (λ i. (task t i).cost * (round t / (task t i).period))

-- The horizon: the largest offset, plus 2 H.
unfoldable pub horizon : Table → ℕ
horizon t = largest t.count (λ i. offset (task t i)) + 2 * round t

-- What is measured of a table.
abbrev pub measure : Table → Measure
measure t = record { round = round t; load = load t; horizon = horizon t }

-- By a measure: the first of the refusals 1 to 7, or else well-formed, with this measure.
abbrev pub judged_by : Measure → Table → Judgement
judged_by m t =
    cond (eqb t.count 0) (Err (refusal 1 0))
    (cond (ltb task_limit t.count) (Err (refusal 2 task_limit))
    (cond (ltb (first_faulty t) t.count)
    (Err (refusal (task_fault (task t (first_faulty t))) (first_faulty t)))
    (cond (ltb round_limit m.round) (Err (refusal 7 0)) (Ok m))))

-- Any table, of tasks of both sorts, is judged by its own measure.
unfoldable pub judged_mixed : Table → Judgement
judged_mixed t = judged_by (measure t) t

-- The first button of a table, or the count.
unfoldable pub first_button : Table → ℕ
first_button t = first (λ i. is_button (task t i)) 0 t.count

-- Where only periodic tasks are allowed, a well-formed table with a button is refused by 11 at its first one.
abbrev pub periodic_only : Table → Judgement → Judgement
periodic_only t (Err r) = Err r
periodic_only t (Ok m) =
    cond (ltb (first_button t) t.count) (Err (refusal 11 (first_button t))) (Ok m)

unfoldable pub judged : Table → Judgement
judged t = periodic_only t (judged_mixed t)

-- Whether a judgement admits its table.
abbrev pub admission_of : Judgement → Admission
admission_of (Err r) = Err r
admission_of (Ok m) = Ok tt
