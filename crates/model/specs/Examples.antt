-- The specification's tables, and the words that all examples use. By computing: the limits, the judgement of a table
-- with its refusals in order, and the numbers of the answers. The examples of other files of the model stand in
-- `TestExamples`, `StepExamples`, `FileExamples`, `CallExamples`, `ButtonExamples` and `LogExamples`.
use Rattle.std.specs.Prelude.{◌≡◌, refl, List, [], ◌∷◌, ◌++◌, map, ℕ, ◌+◌, ◌-◌, ◌/◌, ◌%◌, ◌^◌, length, replicate, Ok, Err}
use Rattle.model.specs.Values.{Sort, Task, Table, Measure, Judgement, Verdict, Outcome, Admission, SlotAnswer}
use Rattle.model.specs.Values.{refusal, verdict_said, judgement_said, admission_said, slot_said, outcome_said}
use Rattle.model.specs.Notation.{sum, largest, count, first}
use Rattle.model.specs.Limits.{task_limit, slot_limit, round_limit, report_bytes, longest_file, longest_text}
use Rattle.model.specs.Limits.{slot_count_limit, sum_place}
use Rattle.model.specs.Tasks.{task_fault, first_faulty, round, load, horizon, judged_by, judged_mixed}
use Rattle.model.specs.Tasks.{first_button, judged, offset}
use Rattle.model.specs.TableFile.{table_of}
use Rattle.model.specs.StateBuffer.{state_bytes}
use Rattle.model.specs.AnswerBuffer.{answer_bytes}
use Rattle.model.specs.Dispatcher.{State}

-- The limits, and what follows from them: the longest file, the longest text and the bytes of a state and of an answer;
-- the slots that can be counted and the last place of 8.
limits :
    (task_limit ∷ slot_limit ∷ round_limit ∷ report_bytes ∷ longest_file ∷ longest_text ∷ state_bytes ∷ answer_bytes ∷ []
    ≡ 32 ∷ 60000 ∷ 1000000000000 ∷ 1024 ∷ 554 ∷ 956 ∷ 536 ∷ 208 ∷ [])
    × (slot_count_limit ∷ sum_place ∷ [] ≡ (2 ^ 64 - 1) ∷ 33 ∷ [])
limits = (refl, refl)

-- ---- words of the examples

-- A number for each task that a table can have: these, and then x.
abbrev pub padded : ℕ → List ℕ → List ℕ
padded x w = w ++ replicate (task_limit - length w) x

-- A refusal of a file, a text or a state.
abbrev pub at : ℕ → ℕ → Admission
at n p = Err (refusal n p)

-- A state that has counted no slot.
abbrev pub uncounted : List ℕ → List ℕ → ℕ → State
uncounted wait left last = record { wait = wait; left = left; last = last; given = padded 0 []; empty = 0 }

-- A task as the specification writes it, and its tables.
abbrev pub of : ℕ → ℕ → ℕ → ℕ → Task
of o c d t = record { sort = Sort.Periodic o; cost = c; deadline = d; period = t }

abbrev pub table_a : Table
table_a = table_of (of 0 1 1 1 ∷ [])

abbrev pub table_b : Table
table_b = table_of (of 8 5 7 15 ∷ of 0 2 2 5 ∷ [])

abbrev pub table_c : Table
table_c = table_of (of 8 6 7 15 ∷ of 0 2 2 5 ∷ [])

abbrev pub table_d : Table
table_d = table_of (of 0 5 7 15 ∷ of 0 2 2 5 ∷ [])

abbrev pub table_e : Table
table_e = table_of (of 1 1 1 2 ∷ of 0 1 1 2 ∷ [])

abbrev pub table_f : Table
table_f = table_of (of 0 1 1 2 ∷ of 0 1 1 2 ∷ [])

abbrev pub table_g : Table
table_g = table_of (of 0 2 4 4 ∷ of 0 2 4 4 ∷ [])

abbrev pub table_h : Table
table_h = table_of (of 4 1 1 2 ∷ of 0 2 3 4 ∷ [])

abbrev pub table_i : Table
table_i = table_of (of 0 3 5 5 ∷ of 2 3 5 5 ∷ [])

abbrev pub table_j : Table
table_j = table_of (of 4 1 1 2 ∷ [])

abbrev pub tables : List Table
tables = table_a ∷ table_b ∷ table_c ∷ table_d ∷ table_e ∷ table_f ∷ table_g ∷ table_h ∷ table_i ∷ table_j ∷ []

abbrev pub table_lamp : Table
table_lamp = table_of (of 0 4 6 6 ∷ of 3 1 3 3 ∷ [])

-- Two tasks of one period, of which the first has this deadline.
abbrev pub two_due : ℕ → Table
two_due d = table_of (of 0 1 d 4 ∷ of 0 1 2 4 ∷ [])

-- A word, a budget and a row of a file; the files of b, e, f and g.
abbrev pub word : ℕ → List ℕ
word n = n % 256 ∷ n / 256 % 256 ∷ n / 65536 % 256 ∷ n / 16777216 ∷ []

abbrev pub budget_of : ℕ → List ℕ
budget_of n = 1 ∷ word n ++ word 0

abbrev pub row_of : Task → List ℕ
row_of k = 2 ∷ word (offset k) ++ word k.cost ++ word k.deadline ++ word k.period

abbrev pub file_b : List ℕ
file_b = budget_of 1000 ++ row_of (of 8 5 7 15) ++ row_of (of 0 2 2 5) ++ (3 ∷ [])

abbrev pub file_e : ℕ → List ℕ
file_e budget = budget_of budget ++ row_of (of 1 1 1 2) ++ row_of (of 0 1 1 2) ++ (3 ∷ [])

abbrev pub file_f : List ℕ
file_f = budget_of 1 ++ row_of (of 0 1 1 2) ++ row_of (of 0 1 1 2) ++ (3 ∷ [])

abbrev pub file_g : List ℕ
file_g = budget_of 1 ++ row_of (of 0 2 4 4) ++ row_of (of 0 2 4 4) ++ (3 ∷ [])

-- ---- judging a table

abbrev refuse : ℕ → ℕ → Judgement
refuse n p = Err (refusal n p)

-- The numbers 1 to 6 with their places: no task, one and two tasks too many, then T, D, C and O of task 1,
-- before later faults and, but for T = 0 and D = 0, which leave no C in range, alone.
faulty : Task → Judgement
faulty k = judged (table_of (of 0 1 1 1 ∷ k ∷ []))

refusals :
    (judged (table_of []) ≡ refuse 1 0)
    × (judged (record { count = task_limit + 1; tasks = replicate task_limit (of 0 1 1 1) }) ≡ refuse 2 task_limit)
    × (judged (record { count = task_limit + 2; tasks = replicate task_limit (of 0 1 1 1) }) ≡ refuse 2 task_limit)
    × (map faulty (of 0 0 0 0 ∷ of 0 1 1 60001 ∷ of 0 1 0 5 ∷ of 60001 1 6 5 ∷ of 0 1 6 5
    ∷ of 0 0 1 5 ∷ of 60001 5 4 5 ∷ of 0 5 4 5 ∷ of 60001 1 1 5 ∷ [])
    ≡ refuse 3 1 ∷ refuse 3 1 ∷ refuse 4 1 ∷ refuse 4 1 ∷ refuse 4 1
    ∷ refuse 5 1 ∷ refuse 5 1 ∷ refuse 5 1 ∷ refuse 6 1 ∷ [])
unfolding faulty judged judged_mixed first_button first_faulty task_fault first
refusals = (refl, refl, refl, refl)

-- Task by task: what is wrong with task 0 comes before what is wrong with task 1, and a place is the task's number.
-- The ends of the ranges are inside them.
task_by_task :
    (judged (table_of (of 60001 1 1 5 ∷ of 0 0 0 0 ∷ [])) ≡ refuse 6 0)
    × (judged (table_of (of 0 1 1 1 ∷ of 0 1 1 1 ∷ of 0 0 1 1 ∷ [])) ≡ refuse 5 2)
    × (map task_fault (of 0 1 1 1 ∷ of 60000 60000 60000 60000 ∷ []) ≡ 0 ∷ 0 ∷ [])
unfolding judged judged_mixed first_button first_faulty task_fault first
task_by_task = (refl, refl, refl)

-- Number 7 and its place. The search for an H so large is too long to compute, so it is given here;
-- `wellformed/specs/AtLimit.antt` proves it of these tables: two periods of the specification, whose H is above 10^9,
-- and the tables whose H is nearest to the limit, below and above.
abbrev once : ℕ → Task
once p = of 0 1 p p

abbrev pub measured : ℕ → ℕ → ℕ → Measure
measured h l z = record { round = h; load = l; horizon = z }

abbrev pub now_read : Table
now_read = table_of (once 31623 ∷ once 31624 ∷ [])

abbrev pub now_measured : Measure
now_measured = measured 1000045752 63247 2000091504

abbrev pub within_limit : Table
within_limit = table_of (once 7777 ∷ once 9901 ∷ once 12987 ∷ [])

abbrev pub within_measured : Measure
within_measured = measured 999999999999 306584263 1999999999998

abbrev pub above_limit : Table
above_limit = table_of (once 4093 ∷ once 8779 ∷ once 27830 ∷ [])

abbrev pub above_measured : Measure
above_measured = measured 1000000000010 394160207 2000000000020

-- The limit itself, which no table has, and one more; what is wrong with a task comes first.
refused_by_round :
    (judged_by (measured round_limit 1 1) within_limit ≡ Ok (measured round_limit 1 1))
    × (judged_by (measured (round_limit + 1) 1 1) within_limit ≡ refuse 7 0)
    × (judged_by above_measured (table_of (once 4093 ∷ of 60001 1 1 8779 ∷ once 27830 ∷ [])) ≡ refuse 6 1)
unfolding first_faulty task_fault first
refused_by_round = (refl, refl, refl)

-- H, load and horizon of b; H of three periods; of two offsets the largest counts.
measures :
    (judged table_b ≡ Ok (measured 15 11 38))
    × (round (table_of (of 0 1 1 4 ∷ of 0 1 1 6 ∷ of 0 1 1 10 ∷ [])) ≡ 60)
    × (horizon (table_of (of 3 1 1 4 ∷ of 2 1 1 6 ∷ [])) ≡ 27)
unfolding judged judged_mixed first_button first_faulty task_fault first round load horizon largest sum count
measures = (refl, refl, refl)

-- ---- the numbers of the answers

-- Of a verdict, a test, a judgement and a file; of a step, here for none, with the tasks 1 and 2 closed late.
said :
    (map (λ v. verdict_said v 8 2 (7 ∷ 6 ∷ [])) (Verdict.Overload ∷ Verdict.Undecided ∷ Verdict.Late 0 7 9 ∷ Verdict.Passes ∷ [])
    ≡ (1 ∷ 8 ∷ []) ∷ (2 ∷ 8 ∷ []) ∷ (3 ∷ 8 ∷ 0 ∷ 7 ∷ 9 ∷ []) ∷ (4 ∷ 8 ∷ 2 ∷ 7 ∷ 6 ∷ []) ∷ [])
    × (map (λ o. outcome_said o 7 0 []) (Err (refusal 5 1) ∷ Ok (Verdict.Late 0 7 9) ∷ [])
    ≡ (5 ∷ 1 ∷ []) ∷ (0 ∷ 3 ∷ 7 ∷ 0 ∷ 7 ∷ 9 ∷ []) ∷ [])
    × (map judgement_said (refuse 5 1 ∷ Ok (measured 15 11 38) ∷ [])
    ≡ (5 ∷ 1 ∷ []) ∷ (0 ∷ 15 ∷ 11 ∷ 38 ∷ []) ∷ [])
    × (map admission_said (at 21 9 ∷ (Ok tt) ∷ []) ≡ (21 ∷ 9 ∷ []) ∷ (0 ∷ []) ∷ [])
    × (map slot_said (Err (refusal 8 task_limit)
    ∷ Ok (record { owner = task_limit; late = 6; closed = 2; lowest = 1 }) ∷ [])
    ≡ (8 ∷ task_limit ∷ []) ∷ (0 ∷ task_limit ∷ 6 ∷ 2 ∷ 1 ∷ []) ∷ [])
said = (refl, refl, refl, refl, refl)
