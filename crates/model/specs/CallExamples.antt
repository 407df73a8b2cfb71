-- What the program prints and the calls from C return and write, by computing: the report, the quick test and the
-- distance test, the answer as numbers, the state buffer, and what a host reads off a report.
use Rattle.std.specs.Prelude.{◌≡◌, refl, List, [], ◌∷◌, ◌++◌, map, true, false, ℕ, ◌+◌, ◌-◌, ◌*◌, get_or, replicate, take, Ok}
use Rattle.model.specs.Values.{Verdict, Outcome, verdict_said, refusal}
use Rattle.model.specs.Notation.{sum, largest, count, first, last, bits, fill, text, digits, decimal}
use Rattle.model.specs.Limits.{task_limit, report_bytes}
use Rattle.model.specs.Tasks.{task_fault, first_faulty, round, load, horizon, judged_mixed, first_button, judged}
use Rattle.model.specs.Demand.{arrived_in, demand, late_at}
use Rattle.model.specs.Run.{choose, owner_of, served}
use Rattle.model.specs.Idle.{idle_at, first_idle, missed_at}
use Rattle.model.specs.Patterns.{starting_at, calm, quick_pass, quick_answer, common_divisor, distance, distance_pass}
use Rattle.model.specs.Patterns.{distance_answer}
use Rattle.model.specs.Verdict.{needed, late_start, verdict, settled_by, brief, Permitted}
use Rattle.model.specs.TableFile.{four, bytes_of, read_from, form_of, file_read, periodic_from}
use Rattle.model.specs.Dispatcher.{State, slot_count, first_strange, admitted, start_of, started}
use Rattle.model.specs.Dispatcher.{owner_now_by, after_by, turn_by, stepped_by}
use Rattle.model.specs.Report.{worst_lines, report_of, refused, written, Checked, quick_exported, distance_exported}
use Rattle.model.specs.Report.{Printed}
use Rattle.model.specs.StateBuffer.{state_bytes, halves, buffer_of, state_in, start_exported, step_exported, handed}
use Rattle.model.specs.AnswerBuffer.{numbers_of, answer_buffer, numbers_in, Answered}
use Rattle.model.specs.PlainText.{split, same}
use Rattle.model.specs.ReportRead.{has_line, passes_exported}
use Rattle.model.specs.Examples.{padded, of, measured, word, budget_of, row_of, file_e, file_f, file_g}

-- ---- the report

-- Whole reports: on b, on c, which is late, and on a, which passes quickly and, though fully loaded, has an idle line.
-- Overload has neither an interval nor worst and idle lines. (`promises/specs/Tables.antt` has these answers.)
reports :
    (report_of 2 false (record {
      outcome = Ok Verdict.Passes;
      measure = measured 15 11 38;
      settled = 38;
      worst = padded 0 (7 ∷ 2 ∷ []);
      idle = 2;
    }) Verdict.Passes
    ≡ text "tasks 2\nload 11/15\nquick none\nhorizon 38\nverdict passes\nsettled 38\nworst 0 7\nworst 1 2\nidle 2\n")
    × (report_of 1 true (record {
      outcome = Ok Verdict.Passes;
      measure = measured 1 1 2;
      settled = 2;
      worst = padded 0 (1 ∷ []);
      idle = 1;
    }) Verdict.Passes
    ≡ text "tasks 1\nload 1/1\nquick pass\nhorizon 2\nverdict passes\nsettled 2\nworst 0 1\nidle 1\n")
    × (report_of 2 false (brief (Ok (Verdict.Late 8 15 8)) (measured 15 12 38) 15) (Verdict.Late 8 15 8)
    ≡ text "tasks 2\nload 12/15\nquick none\nhorizon 38\nverdict late\nsettled 15\ninterval 8 15 demand 8\n")
    × (report_of 2 false (brief (Ok Verdict.Overload) (measured 5 6 12) 0) Verdict.Overload
    ≡ text "tasks 2\nload 6/5\nquick none\nhorizon 12\nverdict overload\nsettled 0\n")
unfolding report_of worst_lines text decimal digits
reports = (refl, refl, refl, refl)

-- The exported call: a short buffer is 30 at its length, and one that is just long enough is not short; a refusal is
-- 65,536 · number + place and writes nowhere; bytes behind a report stay.
exported :
    (Checked [] (7 ∷ []) (record { number = 1966081; buffer = 7 ∷ [] }))
    × (Checked [] (replicate 1023 7) (record { number = 1967103; buffer = replicate 1023 7 }))
    × (Checked (budget_of 1 ++ (9 ∷ [])) (replicate report_bytes 7)
    (record { number = 1376265; buffer = replicate report_bytes 7 }))
    × (refused (refusal 21 9) (7 ∷ []) ≡ record { number = 1376265; buffer = 7 ∷ [] })
    × (written (5 ∷ 6 ∷ []) (1 ∷ 2 ∷ 3 ∷ []) ≡ record { number = 2; buffer = 5 ∷ 6 ∷ 3 ∷ [] })
unfolding file_read periodic_from form_of read_from
exported = (refl, refl, refl, refl, refl)

-- A whole report, of 66 bytes, in the buffer and as it is printed: e with a budget of 4, which is undecided.
abbrev report_short : List ℕ
report_short = text "tasks 2\nload 2/2\nquick none\nhorizon 5\nverdict undecided\nsettled 4\n"

told : Checked (file_e 4) (replicate report_bytes 7)
    (record { number = 66; buffer = report_short ++ replicate (report_bytes - 66) 7 })
    × Printed (file_e 4) report_short
unfolding file_read periodic_from form_of read_from Permitted judged judged_mixed first_button first_faulty task_fault settled_by
    verdict needed late_start late_at first last round load horizon largest sum count demand arrived_in report_of text
    decimal digits quick_pass calm starting_at fill first_idle idle_at missed_at owner_of served choose
told =
    let a = brief (Ok Verdict.Undecided) (measured 2 2 5) 4 in
    ((a, refl, refl), (a, refl, refl))

-- The line of a refusal; a number as long as the longest of a report, `task_limit` times the limit of H.
refusal_lines :
    Printed (budget_of 1 ++ (3 ∷ 3 ∷ [])) (text "refused 24 at 10\n") × (decimal 32000000000000 ≡ text "32000000000000")
unfolding file_read periodic_from form_of read_from text decimal digits
refusal_lines = (refl, refl)

-- A host reads the whole line, and not a part of one; what is longer than a report says nothing.
passes_read :
    map passes_exported (text "verdict passes\n" ∷ text "tasks 1\nverdict passes\nsettled 2\n" ∷ text "verdict passe\n"
    ∷ text "verdict passes \n" ∷ text "verdict late\n" ∷ [] ∷ (text "verdict passes\n" ++ replicate report_bytes 7) ∷ [])
    ≡ 1 ∷ 1 ∷ 0 ∷ 0 ∷ 0 ∷ 0 ∷ 0 ∷ []
unfolding has_line same split text
passes_read = refl

-- ---- the answer as numbers

-- b passes: H, load, horizon, settled, idle, no interval; two tasks, no quick pass, verdict 4, spare; the worst responses.
abbrev numbers_b : List ℕ
numbers_b =
    word 15 ++ word 0 ++ word 11 ++ word 0 ++ word 38 ++ word 0 ++ word 38 ++ word 0 ++ word 2 ++ replicate 28 0
    ++ word 2 ++ word 0 ++ word 4 ++ word 0 ++ word 7 ++ word 2 ++ replicate (4 * (task_limit - 2)) 0

-- c is late: its interval and demand stand where b has 0, and its verdict is 3. What a verdict does not tell is 0,
-- whatever the answer holds there.
answers :
    (answer_buffer (numbers_of 2 false (record {
      outcome = Ok Verdict.Passes;
      measure = measured 15 11 38;
      settled = 38;
      worst = padded 0 (7 ∷ 2 ∷ []);
      idle = 2;
    }) Verdict.Passes)
    ≡ numbers_b)
    × ((numbers_in numbers_b).load ≡ 11) × ((numbers_in numbers_b).idle ≡ 2) × ((numbers_in numbers_b).verdict ≡ 4)
    × ((numbers_in numbers_b).worst ≡ padded 0 (7 ∷ 2 ∷ []))
    × (answer_buffer (numbers_of 2 true (record {
      outcome = Ok (Verdict.Late 8 15 8);
      measure = measured 15 12 38;
      settled = 15;
      worst = padded 0 (9 ∷ 9 ∷ []);
      idle = 9;
    }) (Verdict.Late 8 15 8))
    ≡ word 15 ++ word 0 ++ word 12 ++ word 0 ++ word 38 ++ word 0 ++ word 15 ++ replicate 12 0 ++ word 8 ++ word 0
    ++ word 15 ++ word 0 ++ word 8 ++ word 0 ++ word 2 ++ word 1 ++ word 3 ++ replicate (4 * (task_limit + 1)) 0)
unfolding answer_buffer numbers_in bytes_of halves fill
answers = (refl, refl, refl, refl, refl, refl)

-- Verdicts have the numbers by which they are said.
said : map (λ v. (numbers_of 1 false (brief (Ok v) (measured 1 1 2) 0) v).verdict ∷ [])
    (Verdict.Overload ∷ Verdict.Undecided ∷ Verdict.Late 0 1 2 ∷ Verdict.Passes ∷ [])
    ≡ map (λ v. take 1 (verdict_said v 0 0 [])) (Verdict.Overload ∷ Verdict.Undecided ∷ Verdict.Late 0 1 2 ∷ Verdict.Passes ∷ [])
said = refl

-- The exported call: 30 below 208 bytes, before all else; a refusal writes nowhere; the byte behind the numbers stays.
-- e with a budget of 4 is undecided.
answered :
    (Answered [] (replicate 207 7) (record { number = 1966287; buffer = replicate 207 7 }))
    × (Answered (budget_of 1 ++ (9 ∷ [])) (replicate 208 7) (record { number = 1376265; buffer = replicate 208 7 }))
    × Answered (file_e 4) (replicate 209 7) (record {
      number = 0;
      buffer =
          word 2 ++ word 0 ++ word 2 ++ word 0 ++ word 5 ++ word 0 ++ word 4 ++ replicate 36 0 ++ word 2 ++ word 0
          ++ word 2 ++ replicate (4 * (task_limit + 1)) 0 ++ (7 ∷ []);
    })
unfolding file_read periodic_from form_of read_from Permitted judged judged_mixed first_button first_faulty task_fault settled_by
    verdict needed late_start late_at first last round load horizon largest sum count demand arrived_in answer_buffer
    bytes_of halves quick_pass calm starting_at fill first_idle idle_at missed_at owner_of served choose
answered = (refl, refl, (brief (Ok Verdict.Undecided) (measured 2 2 5) 4, refl, refl))

-- ---- the quick test and the distance test

-- The quick test: no answer to e, pass for g. The distance test: pass for e, no answer to f, overload of i.
-- A file is refused by its form, and by its table.
tests_told :
    (map quick_exported (file_e 5 ∷ file_g ∷ (9 ∷ []) ∷ (budget_of 1 ++ (3 ∷ [])) ∷ []) ≡ 0 ∷ 1 ∷ 1376256 ∷ 65536 ∷ [])
    × (map distance_exported (file_e 5 ∷ file_f ∷ (budget_of 1 ++ row_of (of 0 3 5 5) ++ row_of (of 2 3 5 5) ++ (3 ∷ []))
    ∷ (9 ∷ []) ∷ (budget_of 1 ++ (3 ∷ [])) ∷ [])
    ≡ 1 ∷ 0 ∷ 2 ∷ 1376256 ∷ 65536 ∷ [])
unfolding form_of read_from quick_answer distance_answer judged judged_mixed first_button first_faulty task_fault
    horizon largest quick_pass distance_pass distance common_divisor calm starting_at fill first_idle idle_at
    missed_at first last round load sum count served owner_of choose
tests_told = (refl, refl)

-- ---- the state buffer

-- The first wait stands at byte 0, the slots left behind the last wait, then the last-run task, behind it what the step
-- told, and then the counts of eight bytes, the empty slots last. A step reads the same state from there.
abbrev kept : State
kept =
    record {
      wait = 67305985 ∷ replicate (task_limit - 2) 0 ++ (8 ∷ []);
      left = 3 ∷ replicate (task_limit - 2) 0 ++ (9 ∷ []);
      last = 4;
      given = 578437695752307201 ∷ replicate (task_limit - 2) 0 ++ (10 ∷ []);
      empty = 4294967307;
    }

abbrev kept_bytes : List ℕ
kept_bytes =
    1 ∷ 2 ∷ 3 ∷ 4 ∷ replicate (4 * (task_limit - 2)) 0 ++ word 8 ++ word 3 ++ replicate (4 * (task_limit - 2)) 0
    ++ word 9 ++ word 4 ++ word 5 ++ word 6 ++ word 7 ++ (1 ∷ 2 ∷ 3 ∷ 4 ∷ 5 ∷ 6 ∷ 7 ∷ 8 ∷ [])
    ++ replicate (8 * (task_limit - 2)) 0 ++ word 10 ++ word 0 ++ word 11 ++ word 1

layout :
    (buffer_of kept (record { owner = 0; late = 5; closed = 6; lowest = 7 }) ≡ kept_bytes)
    × ((state_in kept_bytes).wait ≡ kept.wait)
    × ((state_in kept_bytes).left ≡ kept.left)
    × ((state_in kept_bytes).last ≡ 4)
    × (map (λ i. get_or (state_in kept_bytes).given i 0) (0 ∷ (task_limit - 1) ∷ []) ≡ 578437695752307201 ∷ 10 ∷ [])
    × ((state_in kept_bytes).empty ≡ 4294967307)
unfolding buffer_of bytes_of halves state_in fill
layout = (refl, refl, refl, refl, refl, refl)

-- A start on e; a buffer of another length is 50 at its length, or at 65,535, also with a broken file;
-- a damaged file and a table's refusal write nowhere.
camera_starts :
    (start_exported (file_e 5) (replicate state_bytes 9) ≡ record {
      number = 0;
      buffer =
          word 1 ++ replicate (8 * task_limit - 4) 0 ++ word task_limit ++ word 0 ++ word 0 ++ word task_limit
          ++ replicate (8 * (task_limit + 1)) 0;
    })
    × (start_exported (9 ∷ []) (7 ∷ []) ≡ record { number = 3276801; buffer = 7 ∷ [] })
    × (start_exported (9 ∷ []) (replicate (state_bytes + 1) 7)
    ≡ record { number = 3276800 + (state_bytes + 1); buffer = replicate (state_bytes + 1) 7 })
    × ((start_exported (9 ∷ []) (replicate 65536 7)).number ≡ 3342335)
    × (start_exported (9 ∷ []) (replicate state_bytes 7) ≡ record { number = 1376256; buffer = replicate state_bytes 7 })
    × (start_exported (budget_of 1 ++ (3 ∷ [])) (replicate state_bytes 7)
    ≡ record { number = 65536; buffer = replicate state_bytes 7 })
unfolding buffer_of bytes_of halves started start_of fill form_of read_from judged judged_mixed first_button first_faulty
    task_fault first round load horizon largest sum count
camera_starts = (refl, refl, refl, refl, refl, refl)

-- The words of a buffer that speak of two tasks: their waits, their slots left, the last-run task, the late set,
-- its count and its lowest task, their counts, and the empty slots.
words_of_two : List ℕ → List ℕ
words_of_two buffer = map (λ w. four buffer (4 * w)) (0 ∷ 1 ∷ 32 ∷ 33 ∷ 64 ∷ 65 ∷ 66 ∷ 67 ∷ 68 ∷ 70 ∷ 132 ∷ [])

-- The loop on g with task 0 done after one slot: a done report is any number but 0.
-- On f the second step leaves what it told.
done_after_one : ℕ → ℕ
done_after_one n = get_or (0 ∷ 2 ∷ []) n 0

camera_steps :
    (map (λ n. (step_exported file_g (handed file_g (replicate state_bytes 9) done_after_one n) (done_after_one n)).number)
    (0 ∷ 1 ∷ []) ≡ 0 ∷ 1 ∷ [])
    × (words_of_two (handed file_f (replicate state_bytes 9) (λ n. 0) 2)
    ≡ 0 ∷ 0 ∷ 0 ∷ 0 ∷ task_limit ∷ 2 ∷ 1 ∷ 1 ∷ 1 ∷ 0 ∷ 1 ∷ [])
unfolding words_of_two done_after_one handed state_in buffer_of bytes_of halves started start_of stepped_by admitted slot_count
    after_by turn_by owner_now_by choose fill bits first_strange form_of read_from judged judged_mixed first_button
    first_faulty task_fault first round load horizon largest sum count
camera_steps = (refl, refl)

-- A state that is not g's is 8, and stays.
camera_stranger :
    step_exported file_g (replicate state_bytes 7) 0 ≡ record { number = 524288; buffer = replicate state_bytes 7 }
unfolding state_in stepped_by admitted slot_count fill first_strange form_of read_from judged judged_mixed first_button
    first_faulty task_fault first round load horizon largest sum count
camera_stranger = refl
