-- Tables with buttons (T-13), by computing.
use Rattle.values.specs.declared.ByDistance.{ByDistance}
use Rattle.std.specs.Prelude.{◌≡◌, refl, List, [], ◌∷◌, ◌++◌, map, ◌||◌, true, false, ℕ, zero, suc, ◌+◌, ◌-◌, ◌*◌, eqb, get_or, replicate, Ok, Err}
use Rattle.model.specs.Values.{Sort, Task, Table, QuickAnswer, DistanceAnswer, LargestCost, Admission, SlotAnswer}
use Rattle.model.specs.Values.{judgement_said, refusal}
use Rattle.model.specs.Notation.{sum, largest, count, first, last, bits, fill, text, digits, decimal}
use Rattle.model.specs.Limits.{task_limit, word_limit}
use Rattle.model.specs.Tasks.{task_fault, first_faulty, first_button, round, load, horizon, judged_mixed, judged}
use Rattle.model.specs.Demand.{arrived_in, demand_for}
use Rattle.model.specs.Arrivals.{as_tasks}
use Rattle.model.specs.Run.{choose, owner_of, served}
use Rattle.model.specs.Idle.{idle_at, first_idle, missed_at}
use Rattle.model.specs.Patterns.{starting_at, light, calm, quick_answer, common_divisor, distance, pattern}
use Rattle.model.specs.Patterns.{calm_patterns, distance_pass, distance_answer}
use Rattle.model.specs.TableFile.{table_of, bytes_of, task_records, file_of, read_from, form_of, file_read, periodic_from}
use Rattle.model.specs.Dispatcher.{State, slot_count, first_strange, start_of, admitted, started, stepped, stepped_by}
use Rattle.model.specs.Presses.{Pressed, started_mixed, admitted_mixed, not_taken, comes, owner_come, after_come}
use Rattle.model.specs.Presses.{stepped_pressed, state_under, arrivals, owner_under}
use Rattle.model.specs.StateBuffer.{state_bytes, halves, buffer_of, state_in}
use Rattle.model.specs.PressBuffer.{press_start_exported, press_step_exported, handed_pressed}
use Rattle.model.specs.Writer.{table_in, first_stranger}
use Rattle.model.specs.PlainText.{split, filled, all_digits, value_after, numbers_fault, same, budget_line, task_line}
use Rattle.model.specs.PlainText.{line_of, read_lines, text_form, text_read, task_texts, text_of}
use Rattle.model.specs.Easing.{eased_exported}
use Rattle.model.specs.Largest.{cost_answer}
use Rattle.model.specs.Room.{room, room_answer}
use Rattle.model.specs.Examples.{of, padded, uncounted, at, budget_of, row_of, file_b}
use Rattle.model.specs.FileExamples.{refusal_of}

-- A button: C, D and its spacing; its record.
abbrev pub button : ℕ → ℕ → ℕ → Task
button c d s = record { sort = Sort.Button; cost = c; deadline = d; period = s }

abbrev pub press_of : ℕ → ℕ → ℕ → List ℕ
press_of c d s = 4 ∷ bytes_of (c ∷ d ∷ s ∷ [])

-- The spacing is checked as T, by 3; then D, by 4; then C, by 5. There is no 6 for a button: it has no offset.
button_ranges : map task_fault (button 1 1 0 ∷ button 1 0 1 ∷ button 0 1 1 ∷ button 1 3 2
    ∷ button 1 1 60001 ∷ button 60000 60000 60000 ∷ [])
    ≡ 3 ∷ 4 ∷ 5 ∷ 4 ∷ 3 ∷ 0 ∷ []
unfolding task_fault
button_ranges = refl

-- A shutter beside two lamps. Spacings count in H and in the load as periods do.
abbrev pub table_shutter : Table
table_shutter = table_of (of 0 1 3 6 ∷ of 3 1 2 6 ∷ button 1 1 2 ∷ [])

button_counts : judgement_said (judged_mixed table_shutter) ≡ 0 ∷ 6 ∷ 5 ∷ 15 ∷ []
unfolding judged_mixed first_faulty task_fault first round load horizon largest sum count
button_counts = refl

-- Where only periodic tasks are allowed it is 11 at the lowest button, behind 3 to 7.
button_refused :
    map (λ t. judgement_said (judged t)) (table_shutter
    ∷ table_of (button 1 1 2 ∷ of 0 1 1 9 ∷ button 1 1 2 ∷ []) ∷ table_of (button 1 1 2 ∷ of 0 1 1 0 ∷ []) ∷ [])
    ≡ (11 ∷ 2 ∷ []) ∷ (11 ∷ 0 ∷ []) ∷ (3 ∷ 1 ∷ []) ∷ []
unfolding judged judged_mixed first_button first_faulty task_fault first round load horizon largest sum count
button_refused = refl

-- A button may stand wherever a task may, and is numbered with them.
abbrev file_shutter : List ℕ
file_shutter = budget_of 1000 ++ row_of (of 0 1 3 6) ++ row_of (of 3 1 2 6) ++ press_of 1 1 2 ++ (3 ∷ [])

button_files :
    (file_read file_shutter ≡ record { admission = Ok tt; budget = 1000; table = table_shutter })
    × (file_of 1000 (of 0 1 3 6 ∷ of 3 1 2 6 ∷ button 1 1 2 ∷ []) ≡ file_shutter)
    × ((file_read (budget_of 7 ++ press_of 1 2 3 ++ row_of (of 9 1 2 3) ++ (3 ∷ []))).table
    ≡ table_of (button 1 2 3 ∷ of 9 1 2 3 ∷ []))
unfolding file_read periodic_from form_of read_from judged_mixed first_faulty task_fault
    first round load horizon largest sum count bytes_of task_records
button_files = (refl, refl, refl)

presses : ℕ → List ℕ
presses zero = []
presses (suc n) = press_of 1 1 1 ++ presses n

-- First in a file it is 22; cut short 20; behind the most tasks, of both sorts, 25, whatever follows;
-- its table's faults name it by its number.
button_file_refusals :
    map refusal_of (
    (4 ∷ []) ∷ (budget_of 1 ++ (4 ∷ 1 ∷ [])) ∷ (budget_of 1 ++ (4 ∷ replicate 11 1))
    ∷ (budget_of 1 ++ row_of (of 0 1 1 1) ++ presses (task_limit - 1) ++ (4 ∷ []))
    ∷ (budget_of 1 ++ presses task_limit ++ (2 ∷ []))
    ∷ (budget_of 1 ++ presses 1 ++ (4 ∷ replicate 12 0) ++ (3 ∷ [])) ∷ []
    )
    ≡ at 22 0 ∷ at 20 9 ∷ at 20 9
    ∷ at 25 (9 + 17 + 13 * (task_limit - 1)) ∷ at 25 (9 + 13 * task_limit)
    ∷ at 3 1 ∷ []
unfolding file_read periodic_from form_of read_from judged_mixed first_faulty
    task_fault first round load horizon largest sum count bytes_of presses
button_file_refusals = refl

-- In a row of words a button has 0 where a task has its offset; any other number there is no task's.
button_rows :
    (table_in (2 ∷ 5 ∷ 1 ∷ 2 ∷ 3 ∷ 4 ∷ 0 ∷ 1 ∷ 2 ∷ 3 ∷ []) ≡ table_of (of 5 1 2 3 ∷ button 1 2 3 ∷ []))
    × (map first_stranger ((2 ∷ 5 ∷ 1 ∷ 2 ∷ 3 ∷ 4 ∷ 0 ∷ 1 ∷ 2 ∷ 3 ∷ [])
    ∷ (4 ∷ 0 ∷ 1 ∷ 2 ∷ 3 ∷ 4 ∷ 1 ∷ 1 ∷ 2 ∷ 3 ∷ []) ∷ [])
    ≡ 2 ∷ 1 ∷ [])
unfolding table_in first_stranger first fill
button_rows = (refl, refl)

-- In a text a line `button`, of three numbers, with the faults of a task's.
abbrev text_refusal : List ℕ → Admission
text_refusal s = (text_read s).admission

button_texts :
    (text_read (text "budget 7\nbutton 1 2 3\ntask 9 1 2 3\n")
    ≡ record { admission = Ok tt; budget = 7; table = table_of (button 1 2 3 ∷ of 9 1 2 3 ∷ []) })
    × (text_of 7 (button 1 2 3 ∷ of 9 1 2 3 ∷ []) ≡ text "budget 7\nbutton 1 2 3\ntask 9 1 2 3\n")
    × (map text_refusal (text "button 1 2 3\nbudget 1" ∷ text "budget 1\nbutton 1 2"
    ∷ text "budget 1\nbutton 0 1 2 3" ∷ text "budget 1\nbutton 1 x" ∷ text "budget 1\nButton 1 2 3" ∷ [])
    ≡ at 64 2 ∷ at 63 2 ∷ at 63 2 ∷ at 61 2 ∷ at 60 2 ∷ [])
unfolding text_read text_form read_lines line_of budget_line task_line numbers_fault value_after all_digits same filled split
    text decimal digits task_texts judged_mixed first_faulty task_fault first round load horizon largest sum count
button_texts = (refl, refl, refl)

-- In a pattern a button starts at 0: one slot later there would be no miss.
button_distance :
    (map (distance (of 1 1 1 2)) (button 1 1 2 ∷ of 2 1 1 2 ∷ []) ≡ 0 ∷ 1 ∷ [])
    × (map distance_answer (table_of (of 0 1 1 2 ∷ button 1 1 2 ∷ []) ∷ table_of (of 0 1 1 2 ∷ of 1 1 1 2 ∷ []) ∷ [])
    ≡ (Ok ByDistance.NoAnswer) ∷ (Ok ByDistance.Pass) ∷ [])
unfolding distance_answer distance_pass distance common_divisor calm starting_at fill first_idle idle_at missed_at last
    judged_mixed first_faulty task_fault first round load horizon largest sum count served owner_of choose
button_distance = (refl, refl)

-- The shutter's table passes: were its button to stand first as well, that pattern would miss a deadline.
-- Of buttons alone all start at 0. A button's load is overload too.
buttons_decide :
    (map distance_answer (table_shutter ∷ table_of (button 1 2 2 ∷ button 1 2 3 ∷ [])
    ∷ table_of (button 1 1 2 ∷ button 1 1 3 ∷ []) ∷ table_of (of 0 1 1 2 ∷ button 2 2 2 ∷ []) ∷ [])
    ≡ (Ok ByDistance.Pass) ∷ (Ok ByDistance.Pass) ∷ (Ok ByDistance.NoAnswer) ∷ (Ok ByDistance.Overload) ∷ [])
    × (calm (pattern table_shutter 2) ≡ false)
unfolding distance_answer distance_pass distance common_divisor calm starting_at fill first_idle idle_at missed_at last
    judged_mixed first_faulty task_fault first round load horizon largest sum count served owner_of choose
buttons_decide = (refl, refl)

-- Left out of the load, this button would let its table pass: each pattern is calm,
-- and the two periodic tasks are no overload.
buttons_weigh :
    let t = table_of (of 0 2 4 4 ∷ of 2 1 4 4 ∷ button 1 2 2 ∷ []) in
    (distance_answer t ≡ Ok ByDistance.Overload) × (calm_patterns t ≡ true)
    × (light (table_of (of 0 2 4 4 ∷ of 2 1 4 4 ∷ [])) ≡ true)
unfolding distance_answer distance common_divisor calm starting_at fill first_idle idle_at missed_at last judged_mixed
    first_faulty task_fault first round load horizon largest sum count served owner_of choose
buttons_weigh = (refl, refl, refl)

-- The other tests and the dispatcher refuse the shutter's table by 11 at 2;
-- a task that it does not have comes after that, and so does a state.
only_periodic :
    (quick_answer table_shutter ≡ Err (refusal 11 2))
    × (cost_answer table_shutter 9 1000 ≡ Err (refusal 11 2))
    × ((started table_shutter (start_of table_shutter)).admission ≡ at 11 2)
    × ((stepped table_shutter (uncounted (padded 99 []) (padded 9 []) 99) false).answer
    ≡ Err (refusal 11 2))
    × (eased_exported file_b file_shutter ≡ 4 * (65536 * 11 + 2) + 3)
    × (eased_exported file_shutter [] ≡ 4 * (65536 * 11 + 2) + 2)
unfolding quick_answer cost_answer started stepped_by admitted slot_count file_read periodic_from form_of read_from judged
    judged_mixed first_button first_faulty task_fault first round load horizon largest sum count bytes_of
only_periodic = (refl, refl, refl, refl, refl, refl)

-- Demand counts the jobs that come, of either sort: of presses at 1, 4 and 8, each due three slots later,
-- two lie from 1 to 7 and one from 4 on.
demand_of_presses :
    map (λ from. demand_for (table_of (button 2 3 3 ∷ [])) (λ i u. eqb u 1 || (eqb u 4 || eqb u 8)) from 7)
    (0 ∷ 1 ∷ 2 ∷ 4 ∷ 5 ∷ [])
    ≡ 4 ∷ 4 ∷ 2 ∷ 2 ∷ 0 ∷ []
unfolding arrived_in count sum
demand_of_presses = refl

-- The dispatcher that is told of presses, on tables/shutter.txt: task 3 is the shutter.
abbrev camera : Table
camera = table_of (of 0 2 5 10 ∷ of 5 1 2 10 ∷ of 0 4 20 20 ∷ button 3 10 40 ∷ [])

-- A state of these waits and slots left, with task 0 run last and one slot counted.
abbrev once : List ℕ → List ℕ → State
once wait left = record { wait = padded 0 wait; left = padded 0 left; last = 0; given = padded 0 (1 ∷ []); empty = 0 }

-- A step that gives the slot to this task, closes none late, and does not take these presses.
abbrev taken : ℕ → ℕ → State → Pressed
taken owner untaken d =
    record {
      answer = Ok (record { owner = owner; late = 0; closed = 0; lowest = task_limit });
      untaken = untaken;
      state = d;
    }

-- At the start the shutter may be pressed: its job comes, and the lens, which is due sooner, has the slot.
-- A press in the next slot is too early; one of the lens, a periodic task, and one of no task are never taken.
press_taken_lem :
    (started_mixed camera (once (9 ∷ 4 ∷ 19 ∷ 39 ∷ []) (1 ∷ [])) ≡ record { admission = Ok tt; state = start_of camera })
    × (stepped_pressed camera (start_of camera) false 8
    ≡ taken 0 0 (once (9 ∷ 4 ∷ 19 ∷ 39 ∷ []) (1 ∷ 0 ∷ 4 ∷ 3 ∷ [])))
    × (stepped_pressed camera (start_of camera) false 0
    ≡ taken 0 0 (once (9 ∷ 4 ∷ 19 ∷ 0 ∷ []) (1 ∷ 0 ∷ 4 ∷ 0 ∷ [])))
    × (map (λ wait. not_taken camera (once (9 ∷ 4 ∷ 19 ∷ wait ∷ []) []) 27) (0 ∷ 1 ∷ 39 ∷ []) ≡ 19 ∷ 27 ∷ 27 ∷ [])
unfolding started_mixed stepped_pressed admitted_mixed start_of slot_count first_strange not_taken owner_come after_come choose
    judged_mixed first_faulty task_fault first round load horizon largest sum count bits fill
press_taken_lem = (refl, refl, refl, refl)

-- A button's wait above its spacing does not belong, nor does an open job of it that waits less than 30 or more
-- than 39. A refused step takes no press.
press_refused :
    (map (λ d. admitted_mixed camera d) (
    once (9 ∷ 4 ∷ 19 ∷ 40 ∷ []) [] ∷ once (9 ∷ 4 ∷ 19 ∷ 41 ∷ []) [] ∷ once (9 ∷ 4 ∷ 19 ∷ 39 ∷ []) (0 ∷ 0 ∷ 0 ∷ 3 ∷ [])
    ∷ once (9 ∷ 4 ∷ 19 ∷ 29 ∷ []) (0 ∷ 0 ∷ 0 ∷ 3 ∷ []) ∷ once (9 ∷ 4 ∷ 19 ∷ 40 ∷ []) (0 ∷ 0 ∷ 0 ∷ 3 ∷ []) ∷ []
    )
    ≡ (Ok tt) ∷ at 8 3 ∷ (Ok tt) ∷ at 8 3 ∷ at 8 3 ∷ [])
    × (stepped_pressed camera (once (41 ∷ []) []) false 8
    ≡ record { answer = Err (refusal 8 0); untaken = 8; state = once (41 ∷ []) [] })
unfolding stepped_pressed admitted_mixed slot_count first_strange
    judged_mixed first_faulty task_fault first round load horizon largest sum count
press_refused = (refl, refl)

-- Ties go as in the run, by the clock or by a press: the shorter period or spacing, then the lower number.
press_ties :
    map (λ t. owner_come t (start_of t) false (comes t (start_of t) 3)) (
    table_of (of 0 1 4 8 ∷ button 1 4 4 ∷ []) ∷ table_of (of 0 1 4 4 ∷ button 1 4 8 ∷ [])
    ∷ table_of (button 1 4 8 ∷ of 0 1 4 8 ∷ []) ∷ []
    )
    ≡ 1 ∷ 0 ∷ 0 ∷ []
unfolding start_of owner_come choose fill
press_ties = refl

-- A button's job at its deadline is closed as late, and then a press of it is taken, in one step.
press_at_deadline :
    let t = table_of (button 2 3 3 ∷ []) in
    let d = uncounted (padded 0 []) (padded 0 (1 ∷ [])) task_limit in
    map (λ pressed. (stepped_pressed t d false pressed).answer) (0 ∷ 1 ∷ [])
    ≡ map (λ owner. Ok (record { owner = owner; late = 1; closed = 1; lowest = 0 })) (task_limit ∷ 0 ∷ [])
unfolding stepped_pressed admitted_mixed slot_count first_strange owner_come choose
    judged_mixed first_faulty task_fault first round load horizon largest sum count bits
press_at_deadline = refl

-- Pressed in every slot, and never told of an end, the shutter is released in every second one. Slot 5 is empty.
pressed_history :
    (map (arrivals table_shutter (λ n. false) (λ n. 4) 2) (0 ∷ 1 ∷ 2 ∷ 3 ∷ []) ≡ true ∷ false ∷ true ∷ false ∷ [])
    × (owner_under table_shutter (λ n. false) (λ n. 4) 5 ≡ task_limit)
unfolding state_under after_come owner_come start_of fill choose
pressed_history = (refl, refl)

-- Over bytes: in slot 0 the shutter's press is taken and those of the lamps are not; in slot 1 it comes too early.
-- The button has slot 0, a lamp slot 1, the button slot 2.
pressed_thrice : ℕ → ℕ
pressed_thrice n = get_or (7 ∷ 4 ∷ 4 ∷ []) n 0

press_bytes :
    ((press_start_exported file_shutter (replicate state_bytes 9)).number ≡ 0)
    × (map (λ n. (press_step_exported file_shutter (handed_pressed file_shutter (replicate state_bytes 9) (λ k. 0) pressed_thrice n)
    0 (pressed_thrice n)).number) (0 ∷ 1 ∷ 2 ∷ []) ≡ (3 * word_limit + 2) ∷ (4 * word_limit) ∷ 2 ∷ [])
unfolding pressed_thrice handed_pressed state_in buffer_of bytes_of halves started_mixed start_of stepped_pressed admitted_mixed
    slot_count not_taken owner_come after_come choose fill bits first_strange form_of read_from judged_mixed
    first_faulty task_fault first round load horizon largest sum count
press_bytes = (refl, refl)

-- A state that is not the table's is 8 and stays, and no press is taken; a buffer of another length is 50.
press_bytes_refused :
    (press_step_exported file_shutter (replicate state_bytes 7) 0 4
    ≡ record { number = 524288; buffer = replicate state_bytes 7 })
    × (press_start_exported file_shutter (7 ∷ []) ≡ record { number = 3276801; buffer = 7 ∷ [] })
unfolding state_in stepped_pressed admitted_mixed slot_count fill first_strange form_of read_from judged_mixed
    first_faulty task_fault first round load horizon largest sum count bytes_of
press_bytes_refused = (refl, refl)

-- A button as a periodic task starts at 0, and has its spacing as period.
button_as_task :
    as_tasks (table_of (of 1 1 1 2 ∷ button 1 2 3 ∷ [])) ≡ table_of (of 1 1 1 2 ∷ of 0 1 2 3 ∷ [])
button_as_task = refl

-- The room beside a task of one slot in four is three slots, of a task and of a button; a third task there is none.
-- Without a pass there is no number: no answer is 60,003, and overload 60,001.
rooms :
    (map (room_answer (table_of (of 0 1 4 4 ∷ button 1 4 4 ∷ []))) (0 ∷ 1 ∷ 2 ∷ []) ≡ 3 ∷ 3 ∷ (65536 * 12 + 2) ∷ [])
    × (map (λ t. room_answer t 0) (table_of (of 0 1 1 2 ∷ button 1 1 2 ∷ []) ∷ table_of (of 0 1 1 2 ∷ button 2 2 2 ∷ []) ∷ [])
    ≡ 60003 ∷ 60001 ∷ [])
unfolding room_answer room distance_answer distance_pass distance common_divisor calm starting_at fill first_idle idle_at missed_at
    last judged_mixed first_faulty task_fault first round load horizon largest sum count served owner_of choose
rooms = (refl, refl)
