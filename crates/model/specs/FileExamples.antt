-- Table files, what writes them, and tables in plain text, by computing: what is read, and the refusals in their order.
use Rattle.std.specs.Prelude.{◌≡◌, refl, List, [], ◌∷◌, ◌++◌, map, ℕ, zero, suc, ◌+◌, ◌-◌, replicate, Ok, Err}
use Rattle.model.specs.Values.{Admission, Writing, refusal}
use Rattle.model.specs.Notation.{sum, largest, count, first, fill, text, digits, decimal}
use Rattle.model.specs.Limits.{task_limit, longest_file}
use Rattle.model.specs.Tasks.{task_fault, first_faulty, round, load, horizon, judged_mixed, first_button, judged}
use Rattle.model.specs.TableFile.{task_in, table_of, admit, bytes_of, task_records, file_of, read_from, form_of, file_read}
use Rattle.model.specs.TableFile.{periodic_from}
use Rattle.model.specs.Writer.{file_written, first_stranger, table_in, write_exported}
use Rattle.model.specs.PlainText.{split, filled, all_digits, value_after, numbers_fault, same, budget_line, task_line}
use Rattle.model.specs.PlainText.{line_of, read_lines, text_form, text_read, task_texts, text_of, text_written}
use Rattle.model.specs.PlainText.{from_text_exported, to_text_exported}
use Rattle.model.specs.Examples.{at, of, table_b, word, budget_of, row_of, file_b}

-- ---- table files

rows_of_one : ℕ → List ℕ
rows_of_one zero = []
rows_of_one (suc n) = row_of (of 0 1 1 1) ++ rows_of_one n

-- A file is read; of one whose table is refused nothing is kept. A table holds the most tasks, of zeros past its last.
-- A budget of more than four bytes, and numbers of three and four.
files :
    (file_read file_b ≡ record { admission = Ok tt; budget = 1000; table = table_b })
    × (file_read (budget_of 1000 ++ (3 ∷ [])) ≡ record { admission = at 1 0; budget = 0; table = table_of [] })
    × (table_of (of 0 1 1 1 ∷ []) ≡ record { count = 1; tasks = of 0 1 1 1 ∷ replicate (task_limit - 1) (of 0 0 0 0) })
    × ((form_of (1 ∷ 1 ∷ 2 ∷ 3 ∷ 4 ∷ 5 ∷ 6 ∷ 7 ∷ 8 ∷ 3 ∷ [])).budget ≡ 578437695752307201)
    × (task_in (2 ∷ 1 ∷ 0 ∷ 0 ∷ 0 ∷ 0 ∷ 1 ∷ 0 ∷ 0 ∷ 0 ∷ 0 ∷ 1 ∷ 0 ∷ 0 ∷ 0 ∷ 0 ∷ 1 ∷ []) 1 ≡ of 1 256 65536 16777216)
unfolding file_read periodic_from form_of read_from judged judged_mixed first_button first_faulty
    task_fault first round load horizon largest sum count
files = (refl, refl, refl, refl, refl)

abbrev pub refusal_of : List ℕ → Admission
refusal_of s = (file_read s).admission

-- The first fault wins; at a record: kind known, kind allowed here, body whole. The table is judged after the form.
-- The most tasks are read, and one more is refused before its body is looked at.
file_refusals :
    map refusal_of (
    [] ∷ (9 ∷ []) ∷ (2 ∷ []) ∷ (1 ∷ replicate 7 0)
    ∷ budget_of 1 ∷ (budget_of 1 ++ (0 ∷ 1 ∷ [])) ∷ (budget_of 1 ++ (1 ∷ []))
    ∷ (budget_of 1 ++ (3 ∷ 9 ∷ [])) ∷ (budget_of 1 ++ row_of (of 0 0 0 0) ++ (3 ∷ 3 ∷ []))
    ∷ (budget_of 1 ++ rows_of_one 1 ++ row_of (of 0 0 0 0) ++ (3 ∷ [])) ∷ (budget_of 1 ++ (3 ∷ []))
    ∷ (budget_of 1 ++ rows_of_one task_limit ++ (2 ∷ [])) ∷ (budget_of 1 ++ rows_of_one task_limit)
    ∷ (budget_of 1 ++ rows_of_one 1 ++ (9 ∷ [])) ∷ (budget_of 1 ++ rows_of_one 1 ++ (1 ∷ []))
    ∷ (budget_of 1 ++ rows_of_one 1 ++ (2 ∷ replicate 15 0)) ∷ []
    )
    ≡ at 22 0 ∷ at 21 0 ∷ at 22 0 ∷ at 20 0
    ∷ at 26 9 ∷ at 21 9 ∷ at 23 9
    ∷ at 24 10 ∷ at 24 27
    ∷ at 3 1 ∷ at 1 0
    ∷ at 25 (longest_file - 1) ∷ at 26 (longest_file - 1)
    ∷ at 21 26 ∷ at 23 26
    ∷ at 20 26 ∷ []
unfolding file_read periodic_from form_of read_from judged judged_mixed first_button first_faulty task_fault first rows_of_one
file_refusals = refl

-- A whole budget of 0 is 27 at 0, before any later fault and before the table; a second budget is 23, whatever it is.
-- A budget whose lower half alone is 0 is taken.
budgets_of_nothing :
    map refusal_of (
    budget_of 0 ∷ (budget_of 0 ++ (9 ∷ [])) ∷ (budget_of 0 ++ (3 ∷ [])) ∷ (budget_of 1 ++ budget_of 0)
    ∷ (1 ∷ word 0 ++ word 1 ++ rows_of_one 1 ++ (3 ∷ [])) ∷ []
    )
    ≡ at 27 0 ∷ at 27 0 ∷ at 27 0 ∷ at 23 9 ∷ (Ok tt) ∷ []
unfolding file_read periodic_from form_of read_from judged judged_mixed first_button first_faulty
    task_fault first round load horizon largest sum count rows_of_one
budgets_of_nothing = refl

-- ---- the writer

-- The file of table b is written, and bytes behind it stay; a buffer one byte short is 31 at its length, and stays.
-- The table's refusal comes first, then 27 for a budget of 0, then the buffer's.
-- A budget of eight bytes has its lowest byte first.
writes :
    (file_written table_b 1000 (replicate 46 7) ≡ record { said = Ok 44; buffer = file_b ++ (7 ∷ 7 ∷ []) })
    × (file_written table_b 1000 (replicate 43 7)
    ≡ record { said = Err (refusal 31 43); buffer = replicate 43 7 })
    × (file_written (table_of []) 0 [] ≡ record { said = Err (refusal 1 0); buffer = [] })
    × (file_written table_b 0 (7 ∷ []) ≡ record { said = Err (refusal 27 0); buffer = 7 ∷ [] })
    × ((file_written table_b 1 []).said ≡ Err (refusal 31 0))
    × (file_of 578437695752307201 [] ≡ 1 ∷ 1 ∷ 2 ∷ 3 ∷ 4 ∷ 5 ∷ 6 ∷ 7 ∷ 8 ∷ 3 ∷ [])
unfolding file_written judged judged_mixed first_button first_faulty task_fault
    first round load horizon largest sum count bytes_of task_records
writes = (refl, refl, refl, refl, refl, refl)

-- The rows of table b, and what C is told: 51 at the number of words, 52 at the first row of another kind,
-- then the table, then 31.
abbrev rows_b : List ℕ
rows_b = 2 ∷ 8 ∷ 5 ∷ 7 ∷ 15 ∷ 2 ∷ 0 ∷ 2 ∷ 2 ∷ 5 ∷ []

exported_writes :
    (table_in rows_b ≡ table_b)
    × (write_exported rows_b 1000 (replicate 45 7) ≡ record { number = 44; buffer = file_b ++ (7 ∷ []) })
    × (write_exported rows_b 1000 (replicate 43 7) ≡ record { number = 2031659; buffer = replicate 43 7 })
    × ((write_exported (9 ∷ rows_b) 1000 []).number ≡ 3342347)
    × ((write_exported (rows_b ++ (1 ∷ 0 ∷ 2 ∷ 2 ∷ 5 ∷ [])) 1000 []).number ≡ 3407874)
    × ((write_exported [] 1000 []).number ≡ 65536)
unfolding first_stranger table_in file_written judged judged_mixed first_button first_faulty task_fault first round load
    horizon largest sum count fill bytes_of task_records
exported_writes = (refl, refl, refl, refl, refl, refl)

-- ---- plain text

-- Words are parted by blanks and tabs; a carriage return at a line's end and a comment say nothing;
-- the last line may lack its line feed.
text_b : text_read (text "# the bench\n\n budget 1000\r\ntask 8\t5  7 015# camera\ntask 0 2 2 5")
    ≡ record { admission = Ok tt; budget = 1000; table = table_b }
unfolding text_read text_form read_lines line_of budget_line task_line numbers_fault value_after all_digits same filled split
    text judged judged_mixed first_button first_faulty task_fault first round load horizon largest sum count
text_b = refl

-- The text of table b; from text to file and back.
text_of_b :
    (text_of 1000 (of 8 5 7 15 ∷ of 0 2 2 5 ∷ []) ≡ text "budget 1000\ntask 8 5 7 15\ntask 0 2 2 5\n")
    × (from_text_exported (text "budget 1000\ntask 8 5 7 15\ntask 0 2 2 5\n") (replicate 45 7)
    ≡ record { number = 44; buffer = file_b ++ (7 ∷ []) })
    × (to_text_exported file_b (replicate 40 7)
    ≡ record { number = 39; buffer = text "budget 1000\ntask 8 5 7 15\ntask 0 2 2 5\n" ++ (7 ∷ []) })
    × (to_text_exported file_b (replicate 38 7) ≡ record { number = 2031654; buffer = replicate 38 7 })
unfolding task_texts text_form read_lines line_of budget_line task_line numbers_fault value_after all_digits same filled split
    text decimal digits file_written text_written form_of read_from judged judged_mixed first_button first_faulty task_fault
    first round load horizon largest sum count bytes_of task_records
text_of_b = (refl, refl, refl, refl)

-- The first fault wins, from left to right: the first word, its place, then the numbers;
-- the table is judged after the form.
-- A budget of 0 is 27 at its line, once the line has no other fault, and before any later line.
text_refusals :
    map (λ s. (text_read s).admission) (
    text "" ∷ text "# nothing\n" ∷ text "\nbudgets 5" ∷ text "task 1 2 3 4\nbudget 5" ∷ text "button 1 2 3\n\nbudget x"
    ∷ text "budget 5\ntask 1 2 3 4\nbudget 5" ∷ text "budget 5\n\nbudget x"
    ∷ text "budget" ∷ text "budget 5 6" ∷ text "budget -5" ∷ text "budget 18446744073709551615"
    ∷ text "budget 18446744073709551616" ∷ text "budget 99999999999999999999x"
    ∷ text "budget 5\ntask 1 x" ∷ text "budget 5\ntask 1 2 3 4 x" ∷ text "budget 5\ntask 1 2 3"
    ∷ text "budget 5\ntask 4294967296 2" ∷ text "budget 5\ntask 4294967295 1 1 1"
    ∷ text "budget 5" ∷ text "budget 5\rtask 1 1 1 1"
    ∷ text "budget 0\nx" ∷ text "# none\nbudget 000" ∷ text "budget 0 0"
    ∷ text "budget 0x" ∷ text "budget 5\nbudget 0" ∷ []
    )
    ≡ at 1 0 ∷ at 1 0 ∷ at 60 2 ∷ at 64 2 ∷ at 64 3
    ∷ at 65 3 ∷ at 65 3
    ∷ at 63 1 ∷ at 63 1 ∷ at 61 1 ∷ at 1 0 ∷ at 62 1 ∷ at 61 1
    ∷ at 61 2 ∷ at 63 2 ∷ at 63 2 ∷ at 62 2 ∷ at 6 0
    ∷ at 1 0 ∷ at 61 1
    ∷ at 27 1 ∷ at 27 2 ∷ at 63 1
    ∷ at 61 1 ∷ at 65 2 ∷ []
unfolding text_read text_form read_lines line_of budget_line task_line numbers_fault value_after all_digits same filled split
    text judged judged_mixed first_button first_faulty task_fault first round load horizon largest sum count
text_refusals = refl

-- Without a budget it is the largest.
no_budget :
    (text_form (text "# b\ntask 8 5 7 15\ntask 0 2 2 5") ≡ admit 18446744073709551615 (of 8 5 7 15 ∷ of 0 2 2 5 ∷ []))
    × (text_form (text "budget 7\ntask 8 5 7 15") ≡ admit 7 (of 8 5 7 15 ∷ []))
unfolding text_form read_lines line_of budget_line task_line numbers_fault value_after all_digits same filled split text
no_budget = (refl, refl)

tasks_of_one : ℕ → List ℕ
tasks_of_one zero = []
tasks_of_one (suc n) = text "task 0 1 1 1\n" ++ tasks_of_one n

-- A task too many is 66, whatever follows it on its line.
many_lines : ((text_read (text "budget 1\n" ++ tasks_of_one task_limit)).admission ≡ Ok tt)
    × ((text_read (text "budget 1\n" ++ tasks_of_one task_limit ++ text "task x")).admission ≡ at 66 (task_limit + 2))
unfolding tasks_of_one text_read text_form read_lines line_of budget_line task_line numbers_fault value_after all_digits same
    filled split text judged judged_mixed first_button first_faulty task_fault first round load horizon largest sum count
many_lines = (refl, refl)
