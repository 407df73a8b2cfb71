-- The tests, by computing: demand and the verdict, the run, the quick test, the distance test, easing and the largest
-- cost. `promises/specs/Tables.antt` proves the answers to tables a to j; here stand the slips that look right
-- (section 11) and what shows a definition.
use Rattle.std.specs.Prelude.{◌≡◌, refl, [], ◌∷◌, ◌++◌, map, true, false, ◌+◌, ◌-◌, ◌*◌, replicate, pos, negsuc, Ok, Err}
use Rattle.std.proofs.Common.{arith, lit<}
use Rattle.model.specs.Values.{Table, Verdict, Outcome, Easing, refusal, cost_said}
use Rattle.model.specs.Notation.{sum, largest, count, first, last, bits, fill}
use Rattle.model.specs.Limits.{task_limit}
use Rattle.model.specs.Tasks.{task, offset, task_fault, first_faulty, round, load, horizon, judged_mixed}
use Rattle.model.specs.Tasks.{first_button, judged}
use Rattle.model.specs.Demand.{arrived_in, jobs_in, demand, asks_too_much, late_at}
use Rattle.model.specs.Schedule.{none, given}
use Rattle.model.specs.Run.{tie_order, choose, owner_of, served, owner, run, response}
use Rattle.model.specs.Idle.{idle_at, first_idle, missed_at}
use Rattle.model.specs.Patterns.{starting_at, calm, simultaneous, quick_pass, common_divisor, reduced}
use Rattle.model.specs.Patterns.{distance, pattern, distance_pass}
use Rattle.model.specs.Verdict.{needed, late_start, verdict, settled_by, brief, Permitted}
use Rattle.model.specs.TableFile.{table_of, read_from, form_of, file_read, periodic_from}
use Rattle.model.specs.Largest.{largest_cost, cost_answer, largest_exported}
use Rattle.model.specs.Easing.{Lowered, searched_from, easing, eased_exported}
use Rattle.model.specs.Examples.{of, measured, tables, table_a, table_b, table_c, table_d, table_e, table_f}
use Rattle.model.specs.Examples.{table_g, table_h, table_i, table_j, table_lamp, two_due}
use Rattle.model.specs.Examples.{budget_of, file_b, file_e, file_g}

-- ---- the exact test

-- A load of exactly 1 is no overload.
load_of_one : verdict table_a 2 ≡ Verdict.Passes
unfolding verdict needed late_start late_at first last round load horizon largest sum count demand arrived_in
load_of_one = refl

-- Offsets count: up to 7 the jobs of d ask for 9 slots, those of b, whose task 0 begins at 8, for 4.
offsets_count : map (λ t. demand t 0 7) (table_b ∷ table_d ∷ []) ≡ 4 ∷ 9 ∷ []
unfolding demand arrived_in sum count
offsets_count = refl

-- The published closed formula would name 0 to 3 on h: it invents two jobs of task 0 before its first release at 4.
no_job_before_the_first : (jobs_in (of 4 1 1 2) 0 3 ≡ 0) × (asks_too_much table_h 0 3 ≡ false)
unfolding demand arrived_in sum count
no_job_before_the_first = (refl, refl)

-- A quotient rounded toward zero counts one job by 2 here, where the closed formula is right if it is rounded down;
-- there is none by 2, and one by 3. Job 3 is the one from 14 to 15.
rounding : (jobs_in (of 2 1 1 4) 0 2 ≡ 0) × (jobs_in (of 2 1 1 4) 0 3 ≡ 1) × (jobs_in (of 2 1 1 4) 14 15 ≡ 1)
unfolding arrived_in count
rounding = (refl, refl, refl)

-- One H from 0 is not enough: h is late at 7, and its H is 4.
late_behind_one_round : (round table_h ≡ 4) × (verdict table_h 1000 ≡ Verdict.Late 4 7 4) × (settled_by table_h 1000 ≡ 7)
unfolding settled_by verdict needed late_start late_at first last round load horizon largest sum count demand arrived_in
late_behind_one_round = (refl, refl, refl)

-- Table i keeps every deadline within its horizon of 12. Overload settles nothing, whatever the budget.
overload_is_not_late :
    (needed table_i ≡ 12) × (late_at table_i 12 ≡ false) × (verdict table_i 0 ≡ Verdict.Overload)
    × (settled_by table_i 5 ≡ 0)
unfolding settled_by verdict needed late_start late_at first last round load horizon largest sum count demand arrived_in
overload_is_not_late = (refl, refl, refl, refl)

-- A budget equal to the needed count suffices, and one slot less does not: e passes at 5, f is late at 1.
-- Undecided settles the budget.
budgets :
    (map (verdict table_e) (4 ∷ 5 ∷ []) ++ map (verdict table_f) (0 ∷ 1 ∷ [])
    ≡ Verdict.Undecided ∷ Verdict.Passes ∷ Verdict.Undecided ∷ Verdict.Late 0 1 2 ∷ [])
    × (map (settled_by table_e) (4 ∷ 5 ∷ 6 ∷ []) ++ map (settled_by table_f) (0 ∷ 2 ∷ []) ≡ 4 ∷ 5 ∷ 5 ∷ 0 ∷ 1 ∷ [])
unfolding settled_by verdict needed late_start late_at first last round load horizon largest sum count demand arrived_in
budgets = (refl, refl)

-- Of two starts that ask too much up to 2, the larger is named.
abbrev table_k : Table
table_k = table_of (of 0 1 1 4 ∷ of 1 1 1 4 ∷ of 1 1 1 4 ∷ [])

largest_start :
    (map (λ from. asks_too_much table_k from 2) (0 ∷ 1 ∷ []) ≡ true ∷ true ∷ [])
    × (verdict table_k 1000 ≡ Verdict.Late 1 2 2)
unfolding verdict needed late_start late_at first last round load horizon largest sum count demand arrived_in
largest_start = (refl, refl)

-- The permitted answers: overload, late, undecided and a refusal. (`promises/specs/Tables.antt` has those that pass.)
permitted :
    Permitted table_i 5 (brief (Ok Verdict.Overload) (measured 5 6 12) 0)
    × Permitted table_f 1 (brief (Ok (Verdict.Late 0 1 2)) (measured 2 2 4) 1)
    × Permitted table_e 4 (brief (Ok Verdict.Undecided) (measured 2 2 5) 4)
    × Permitted (table_of []) 5 (brief (Err (refusal 1 0)) (measured 0 0 0) 0)
unfolding Permitted judged judged_mixed first_button first_faulty task_fault settled_by verdict needed late_start late_at first
    last round load horizon largest sum count demand arrived_in
permitted = (refl, refl, refl, refl)

-- ---- the run

-- The slots of one job, between two instants: job 0 of task 0 of b has the slots 8, 9, 12, 13 and 14, so it finishes
-- at 15, 7 after its release; from 10 to 12 job 2 of task 1 has both slots, and job 1 none.
-- Where none of the most tasks has a slot, the run says so.
job_given :
    (map (λ u. given (run table_b (tie_order table_b)) 0 0 u 15) (8 ∷ 9 ∷ 13 ∷ []) ≡ 5 ∷ 4 ∷ 2 ∷ [])
    × (map (given (run table_b (tie_order table_b)) 0 0 0) (8 ∷ 14 ∷ 15 ∷ []) ≡ 0 ∷ 4 ∷ 5 ∷ [])
    × (response table_b 0 0 15 ≡ 7)
    × (map (λ j. given (run table_b (tie_order table_b)) 1 j 10 12) (1 ∷ 2 ∷ []) ≡ 0 ∷ 2 ∷ [])
    × (run (table_of (replicate task_limit (of 1 1 60 60))) (λ k. k) 0 ≡ none)
unfolding given run owner owner_of served choose count
job_given = (refl, refl, refl, refl, refl)

-- Ties go to the task that the order puts first, and of one rank to the lower number. The order decides ties alone.
ties :
    (map (λ order. map (owner table_g order) (0 ∷ 1 ∷ 2 ∷ 3 ∷ [])) ((λ k. k) ∷ (λ k. 1 - k) ∷ (λ k. 0) ∷ [])
    ≡ (0 ∷ 0 ∷ 1 ∷ 1 ∷ []) ∷ (1 ∷ 1 ∷ 0 ∷ 0 ∷ []) ∷ (0 ∷ 0 ∷ 1 ∷ 1 ∷ []) ∷ [])
    × (map (owner (table_of (of 0 1 2 10 ∷ of 0 1 5 5 ∷ [])) (λ k. 1 - k)) (0 ∷ 1 ∷ []) ≡ 0 ∷ 1 ∷ [])
unfolding owner owner_of served choose
ties = (refl, refl)

-- The lamp: at 3 and at 9 both tasks have a job due by the end of the round,
-- and the slot goes to task 1, whose period is shorter, though its number is higher.
-- So the jobs of task 0 end at 5 and at 12; by the numbers it would be 4 and 11.
shorter_period :
    map (λ order. map (owner table_lamp order) (0 ∷ 1 ∷ 2 ∷ 3 ∷ 4 ∷ 5 ∷ 6 ∷ 7 ∷ 8 ∷ 9 ∷ 10 ∷ 11 ∷ []))
    (tie_order table_lamp ∷ (λ k. k) ∷ [])
    ≡ (0 ∷ 0 ∷ 0 ∷ 1 ∷ 0 ∷ task_limit ∷ 1 ∷ 0 ∷ 0 ∷ 1 ∷ 0 ∷ 0 ∷ [])
    ∷ (0 ∷ 0 ∷ 0 ∷ 0 ∷ 1 ∷ task_limit ∷ 1 ∷ 0 ∷ 0 ∷ 0 ∷ 0 ∷ 1 ∷ []) ∷ []
unfolding owner owner_of served choose
shorter_period = refl

-- It is the period and not D that decides, and of one period the lower number: at 2 both jobs are due by 6.
-- The earliest deadline is that of the job, not the shortest of the tasks: at 4 the job of task 1, due by 6,
-- goes before one due by 8.
periods_decide :
    map (λ t. map (owner t (tie_order t)) (0 ∷ 1 ∷ 2 ∷ 3 ∷ 4 ∷ 5 ∷ []))
    (table_of (of 2 2 4 12 ∷ of 0 3 6 6 ∷ []) ∷ table_of (of 0 3 6 6 ∷ of 2 2 4 6 ∷ [])
    ∷ table_of (of 0 2 4 4 ∷ of 0 3 6 6 ∷ []) ∷ [])
    ≡ (1 ∷ 1 ∷ 1 ∷ 0 ∷ 0 ∷ task_limit ∷ []) ∷ (0 ∷ 0 ∷ 0 ∷ 1 ∷ 1 ∷ task_limit ∷ []) ∷ (0 ∷ 0 ∷ 1 ∷ 1 ∷ 1 ∷ 0 ∷ []) ∷ []
unfolding owner owner_of served choose
periods_decide = refl

-- The first idle instants after 0. Where a job is released at an instant, as at 1 in a and e, it is idle all the same.
-- g has no empty slot.
idles :
    map (λ t. first_idle t (tie_order t)) (table_a ∷ table_b ∷ table_e ∷ table_g ∷ table_j ∷ []) ≡ 1 ∷ 2 ∷ 1 ∷ 4 ∷ 1 ∷ []
unfolding first_idle idle_at first round count served owner_of choose
idles = refl

-- ---- the quick test and the distance test

-- By 7, and not by 6, the run of d has missed a deadline. c is late at 15 only, behind its first idle instant, 2.
-- With all offsets 0 table b is d.
calm_or_not : (map (missed_at table_d (tie_order table_d)) (6 ∷ 7 ∷ []) ≡ false ∷ true ∷ [])
    × (map calm (table_c ∷ table_d ∷ []) ≡ true ∷ false ∷ []) × (simultaneous table_b ≡ table_d)
unfolding calm starting_at fill first_idle idle_at missed_at first round count served owner_of choose
calm_or_not = (refl, refl, refl)

-- Reduced by 5 into 0 to 4: -1 is 4, -5 is 0, -8 is 2, and 8 is 3.
reduced_upward : map (λ z. reduced z 5) (negsuc 0 ∷ negsuc 4 ∷ negsuc 7 ∷ pos 8 ∷ []) ≡ 4 ∷ 0 ∷ 2 ∷ 3 ∷ []
reduced_upward = refl

-- The table of the request: the offsets of its patterns, in the first of them 0, 0 and 2, where task 0 stands first.
pattern_offsets :
    let t = table_of (of 0 1 1 3 ∷ of 1 1 1 4 ∷ of 2 1 1 6 ∷ []) in
    map (λ i. map (λ k. offset (task (pattern t i) k)) (0 ∷ 1 ∷ 2 ∷ [])) (0 ∷ 1 ∷ 2 ∷ [])
    ≡ (0 ∷ 0 ∷ 2 ∷ []) ∷ (0 ∷ 0 ∷ 1 ∷ []) ∷ (1 ∷ 1 ∷ 0 ∷ []) ∷ []
unfolding starting_at fill distance common_divisor last
pattern_offsets = refl

-- Of tables a to j only a, g and j pass quickly, and b and e by their distances as well.
quick_and_distance :
    (map quick_pass tables ≡ true ∷ false ∷ false ∷ false ∷ false ∷ false ∷ true ∷ false ∷ false ∷ true ∷ [])
    × (map distance_pass tables ≡ true ∷ true ∷ false ∷ false ∷ true ∷ false ∷ true ∷ false ∷ false ∷ true ∷ [])
unfolding quick_pass distance_pass distance common_divisor calm starting_at fill first_idle idle_at
    missed_at first last round load sum count served owner_of choose
quick_and_distance = (refl, refl)

-- A pattern misses a deadline by whatever interval, as one of the first table here does,
-- where from 0 on no interval asks too much. The second is a published one. Both pass.
not_by_distance : map distance_pass (table_of (of 2 1 1 6 ∷ of 1 2 4 4 ∷ of 0 1 1 6 ∷ [])
    ∷ table_of (of 0 1 2 5 ∷ of 1 1 2 4 ∷ of 2 1 2 6 ∷ []) ∷ [])
    ≡ false ∷ false ∷ []
unfolding distance_pass distance common_divisor calm starting_at fill first_idle idle_at
    missed_at first last round load sum count served owner_of choose
not_by_distance = refl

-- ---- easing

-- A longer period is no easing: table e passes, and with the second period 3 it is late at 4.
longer_period :
    let slower = table_of (of 1 1 1 2 ∷ of 0 1 1 3 ∷ []) in
    (verdict slower 1000 ≡ Verdict.Late 3 4 2) × (easing table_e slower ≡ Easing.Unmatched 1)
unfolding easing searched_from verdict needed late_start late_at first
    last round load horizon largest sum count demand arrived_in
longer_period = (refl, refl)

-- A longer deadline is an easing, but no lowering, and its task may become slower:
-- with 3 for 1 task 0 has slot 1, and no more slot 0.
longer_deadline : (easing (two_due 1) (two_due 3) ≡ Easing.Kept 3)
    × (map (λ d. owner (two_due d) (tie_order (two_due d)) 0) (1 ∷ 3 ∷ []) ≡ 0 ∷ 1 ∷ [])
unfolding easing bits searched_from first sum count owner served owner_of choose
longer_deadline = (refl, refl)

not_lowered : Lowered (two_due 1) (two_due 3) → ⊥
not_lowered e = absurd (omega (arith, e.same_deadline 0 (lit< tt)))

-- Of b: as it is; a cost lowered and a deadline made longer; each task alone; nothing may be higher, shorter,
-- added or in another order.
easings :
    map (easing table_b) (
    table_b ∷ table_of (of 8 4 7 15 ∷ of 0 2 3 5 ∷ []) ∷ table_of (of 8 5 7 15 ∷ []) ∷ table_of (of 0 2 2 5 ∷ [])
    ∷ table_c ∷ table_d ∷ table_of (of 8 5 6 15 ∷ []) ∷ table_of (of 8 5 7 15 ∷ of 0 1 1 5 ∷ [])
    ∷ table_of (of 0 2 2 5 ∷ of 8 5 7 15 ∷ []) ∷ table_of (of 8 5 7 15 ∷ of 0 2 2 5 ∷ of 0 2 2 5 ∷ []) ∷ []
    )
    ≡ Easing.Kept 3 ∷ Easing.Kept 3 ∷ Easing.Kept 1 ∷ Easing.Kept 2
    ∷ Easing.Unmatched 0 ∷ Easing.Unmatched 0 ∷ Easing.Unmatched 0
    ∷ Easing.Unmatched 1 ∷ Easing.Unmatched 1 ∷ Easing.Unmatched 2 ∷ []
unfolding easing bits searched_from first sum count
easings = refl

-- Of several choices the first in order is told: of four tasks that differ in cost alone, the first that costs enough,
-- behind the one before.
first_choices :
    map (easing (table_of (of 0 1 4 8 ∷ of 0 2 4 8 ∷ of 0 2 4 8 ∷ of 0 3 4 8 ∷ []))) (
    table_of (of 0 1 4 8 ∷ of 0 2 4 8 ∷ []) ∷ table_of (of 0 2 4 8 ∷ of 0 1 4 8 ∷ [])
    ∷ table_of (of 0 1 4 8 ∷ of 0 3 4 8 ∷ []) ∷ []
    )
    ≡ Easing.Kept 3 ∷ Easing.Kept 6 ∷ Easing.Kept 9 ∷ []
unfolding easing bits searched_from first sum count
first_choices = refl

-- As numbers: 4 · set + 1 for an easing, 4 · task for none; the old file's refusal, with 2 added,
-- comes before the new one's, with 3 added.
eased_numbers :
    (eased_exported file_b file_b ≡ 13)
    × (eased_exported file_b file_g ≡ 0)
    × (eased_exported (9 ∷ []) [] ≡ 4 * 1376256 + 2)
    × (eased_exported file_b [] ≡ 4 * 1441792 + 3)
    × (eased_exported (budget_of 1 ++ (3 ∷ [])) file_b ≡ 4 * 65536 + 2)
unfolding easing bits searched_from file_read periodic_from form_of read_from judged judged_mixed first_button first_faulty
    task_fault first round load horizon largest sum count
eased_numbers = (refl, refl, refl, refl, refl)

-- ---- the largest cost

-- Task 0 is due by 3 and has to leave one slot by 2 to task 1; without that it could take its deadline.
-- Task 1 can take its deadline.
largest_costs :
    map (λ i. largest_cost (two_due 3) i 8) (0 ∷ 1 ∷ []) ++ (largest_cost (table_of (of 0 1 3 4 ∷ [])) 0 8 ∷ [])
    ≡ 2 ∷ 2 ∷ 3 ∷ []
unfolding largest_cost verdict needed late_start late_at first last round load horizon largest sum count demand arrived_in
largest_costs = refl

-- The order: the table's refusal, 12, overload, late and undecided by the budget, and then the number.
cost_answers :
    map cost_said (cost_answer (table_of []) 3 0 ∷ cost_answer (two_due 3) 2 0 ∷ cost_answer table_i 0 0
    ∷ cost_answer table_f 0 1 ∷ cost_answer table_f 0 0 ∷ cost_answer (two_due 3) 0 7 ∷ cost_answer (two_due 3) 0 8 ∷ [])
    ≡ (1 ∷ 0 ∷ []) ∷ (12 ∷ 2 ∷ []) ∷ (1 ∷ []) ∷ (3 ∷ []) ∷ (2 ∷ []) ∷ (2 ∷ []) ∷ (0 ∷ 2 ∷ []) ∷ []
unfolding cost_answer largest_cost judged judged_mixed first_button first_faulty task_fault verdict needed late_start late_at
    first last round load horizon largest sum count demand arrived_in
cost_answers = refl

-- As numbers: of e's tasks, of a number that is none and of one that is too large to be told;
-- undecided; a refused file.
largest_numbers :
    (map (largest_exported (file_e 5)) (0 ∷ 1 ∷ 2 ∷ 70000 ∷ []) ≡ 1 ∷ 1 ∷ 786434 ∷ 851967 ∷ [])
    × (largest_exported (file_e 4) 0 ≡ 60002)
    × (largest_exported [] 0 ≡ 1441792)
unfolding cost_answer largest_cost form_of read_from judged judged_mixed first_button first_faulty task_fault verdict needed
    late_start late_at first last round load horizon largest sum count demand arrived_in
largest_numbers = (refl, refl, refl)
