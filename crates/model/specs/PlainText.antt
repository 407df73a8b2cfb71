-- Tables in plain text: for any bytes the refusal, or the budget and the tasks;
-- the text of a budget and tasks; the exported calls.
use Rattle.values.specs.declared.Entry.{Entry}
use Rattle.std.specs.Prelude.{List, [], ◌∷◌, ◌++◌, Bool, true, false, cond, ◌&&◌, ◌||◌, ℕ, zero, suc, ◌+◌, ◌-◌, ◌*◌}
use Rattle.std.specs.Prelude.{min, leb, ltb, eqb, get_or, length, take, Ok, Err}
use Rattle.model.specs.Notation.{text, decimal}
use Rattle.model.specs.Values.{Sort, Task, Table, Contents, Admission, Line}
use Rattle.model.specs.Limits.{task_limit, word_limit, budget_limit}
use Rattle.model.specs.Tasks.{within, judged_mixed}
use Rattle.model.specs.TableFile.{refuse_file, admit, judged_form, form_of}
use Rattle.model.specs.Report.{Exported, line}
use Rattle.model.specs.Writer.{Filled, unwritten, tasks_of, written_by, file_written, fill_told}

-- A byte before these pieces: one that parts them begins a new piece, any other stands in front of the first.
abbrev pub before : Bool → ℕ → List (List ℕ) → List (List ℕ)
before true x ws = [] ∷ ws
before false x [] = (x ∷ []) ∷ []
before false x (w ∷ ws) = (x ∷ w) ∷ ws

-- The pieces between the bytes that pass the test.
unfoldable pub split : (ℕ → Bool) → List ℕ → List (List ℕ)
split p [] = [] ∷ []
split p (x ∷ s) = before (p x) x (split p s)

-- Those that are not empty.
unfoldable pub filled : List (List ℕ) → List (List ℕ)
filled [] = []
filled ([] ∷ ws) = filled ws
filled ((x ∷ w) ∷ ws) = (x ∷ w) ∷ filled ws

-- A line feed ends a line, `#` begins a comment, a blank or a tab parts words; a digit.
abbrev pub is_line_feed : ℕ → Bool
is_line_feed x = eqb x 10

abbrev pub is_hash : ℕ → Bool
is_hash x = eqb x 35

abbrev pub is_gap : ℕ → Bool
is_gap x = eqb x 32 || eqb x 9

abbrev pub is_digit : ℕ → Bool
is_digit x = within 48 57 x

-- The lines of a text. What follows the last line feed is a line too.
abbrev pub lines_of : List ℕ → List (List ℕ)
lines_of s = split is_line_feed s

-- What a line says without the carriage return at its end, and without its comment.
abbrev pub without_return : List ℕ → List ℕ
without_return l = cond (eqb (get_or l (length l - 1) 0) 13) (take (length l - 1) l) l

abbrev pub content_of : List ℕ → List ℕ
content_of l = get_or (split is_hash (without_return l)) 0 []

-- The words of a line.
abbrev pub words_of : List ℕ → List (List ℕ)
words_of s = filled (split is_gap s)

-- A word of digits, and its value.
unfoldable pub all_digits : List ℕ → Bool
all_digits [] = true
all_digits (x ∷ w) = is_digit x && all_digits w

unfoldable pub value_after : ℕ → List ℕ → ℕ
value_after n [] = n
value_after n (x ∷ w) = value_after (10 * n + (x - 48)) w

abbrev pub value : List ℕ → ℕ
value w = value_after 0 w

-- The fault of a word that should be a number below the limit: 61 if it is none, 62 if it is too large; else 0.
abbrev pub number_fault : ℕ → List ℕ → ℕ
number_fault limit w = cond (all_digits w) (cond (ltb (value w) limit) 0 62) 61

-- The first of two faults.
abbrev pub or_else : ℕ → ℕ → ℕ
or_else zero g = g
or_else (suc f) g = suc f

-- The fault of words that should be so many numbers below the limit, from left to right; one too few or too many is 63.
unfoldable pub numbers_fault : ℕ → ℕ → List (List ℕ) → ℕ
numbers_fault limit zero [] = 0
numbers_fault limit zero (w ∷ ws) = 63
numbers_fault limit (suc n) [] = 63
numbers_fault limit (suc n) (w ∷ ws) = or_else (number_fault limit w) (numbers_fault limit n ws)

abbrev pub number : List (List ℕ) → ℕ → ℕ
number ws i = value (get_or ws i [])

-- Two words are the same.
unfoldable pub same : List ℕ → List ℕ → Bool
same [] [] = true
same [] (y ∷ v) = false
same (x ∷ w) [] = false
same (x ∷ w) (y ∷ v) = eqb x y && same w v

-- What words say unless they have a fault.
abbrev pub unless : ℕ → Line → Line
unless zero l = l
unless (suc f) l = Err (suc f)

-- A budget, once its line has no other fault: one of 0 is 27.
abbrev pub budget_said : ℕ → Line
budget_said b = cond (eqb b 0) (Err 27) (Ok (Entry.Budget b))

-- A budget, if there is one, stands before all tasks and once: a second one is 65, one behind a task 64.
unfoldable pub budget_line : Bool → ℕ → List (List ℕ) → Line
budget_line given count ws =
    cond given (Err 65)
    (cond (ltb 0 count) (Err 64) (unless (numbers_fault budget_limit 1 ws) (budget_said (number ws 0))))

-- The numbers of a task are O, C, D, T, and of a button C, D and its spacing.
abbrev pub task_in : List (List ℕ) → Task
task_in ws =
    record { sort = Sort.Periodic (number ws 0); cost = number ws 1; deadline = number ws 2; period = number ws 3 }

abbrev pub button_in : List (List ℕ) → Task
button_in ws = record { sort = Sort.Button; cost = number ws 0; deadline = number ws 1; period = number ws 2 }

-- A task of so many numbers: one more than a table may have is 66.
unfoldable pub task_line : ℕ → Task → ℕ → List (List ℕ) → Line
task_line numbers k count ws =
    cond (leb task_limit count) (Err 66) (unless (numbers_fault word_limit numbers ws) (Ok (Entry.OneTask k)))

-- What a line of these words says, after a budget or none and so many tasks:
-- its first word tells which it is, or is 60.
unfoldable pub line_of : Bool → ℕ → List (List ℕ) → Line
line_of given count [] = Ok Entry.Nothing
line_of given count (w ∷ ws) =
    cond (same w (text "budget")) (budget_line given count ws)
    (cond (same w (text "task")) (task_line 4 (task_in ws) count ws)
    (cond (same w (text "button")) (task_line 3 (button_in ws) count ws) (Err 60)))

-- A fault is told with its line, counted from 1, or with 65,535.
abbrev pub refuse_text : ℕ → ℕ → Contents
refuse_text f n = refuse_file f (min n 65535)

-- What line n leads to after the budget b, given or not, and the tasks ks.
abbrev pub after_line : (Bool → ℕ → List Task → Contents) → Bool → ℕ → List Task → ℕ → Line → Contents
after_line go given b ks n (Ok Entry.Nothing) = go given b ks
after_line go given b ks n (Ok (Entry.Budget x)) = go true x ks
after_line go given b ks n (Ok (Entry.OneTask k)) = go given b (ks ++ (k ∷ []))
after_line go given b ks n (Err f) = refuse_text f n

-- The lines after n lines.
unfoldable pub read_lines : Bool → ℕ → List Task → ℕ → List (List ℕ) → Contents
read_lines given b ks n [] = admit b ks
read_lines given b ks n (l ∷ ls) =
    after_line (λ g x js. read_lines g x js (suc n) ls) given b ks (suc n)
    (line_of given (length ks) (words_of (content_of l)))

-- The budget of a text that gives none: the largest there is, so that a test looks as far as it must.
abbrev pub largest_budget : ℕ
largest_budget = budget_limit - 1

-- The form of a text; its table is judged only after the form is good.
unfoldable pub text_form : List ℕ → Contents
text_form s = read_lines false largest_budget [] 0 (lines_of s)

unfoldable pub text_read : List ℕ → Contents
text_read s = judged_form judged_mixed (text_form s) (text_form s).admission

-- The text of a budget and tasks: a line for the budget, and one for each task.
abbrev pub budget_text : ℕ → List ℕ
budget_text b = line (text "budget " ++ decimal b)

abbrev pub sort_text : Sort → List ℕ
sort_text (Sort.Periodic o) = text "task " ++ decimal o ++ text " "
sort_text Sort.Button = text "button "

abbrev pub task_text : Task → List ℕ
task_text k =
    line (sort_text k.sort ++ decimal k.cost ++ text " "
    ++ decimal k.deadline ++ text " " ++ decimal k.period)

unfoldable pub task_texts : List Task → List ℕ
task_texts [] = []
task_texts (k ∷ ks) = task_text k ++ task_texts ks

abbrev pub text_of : ℕ → List Task → List ℕ
text_of b ks = budget_text b ++ task_texts ks

-- The one permitted result of the writer of texts on any table, budget and buffer.
unfoldable pub text_written : Table → ℕ → List ℕ → Filled
text_written t budget buffer = written_by budget (text_of budget (tasks_of t)) buffer (judged_mixed t)

-- What is written of a form: its refusal, or `go`.
abbrev pub form_written : List ℕ → Filled → Admission → Filled
form_written buffer go (Err r) = unwritten r.number r.place buffer
form_written buffer go (Ok u) = go

-- The file of a text, and the text of a file, each in a lent buffer: the form comes first, then the table,
-- then the buffer's length.
abbrev pub from_text : List ℕ → List ℕ → Filled
from_text s buffer = let l = text_form s in form_written buffer (file_written l.table l.budget buffer) l.admission

abbrev pub to_text : List ℕ → List ℕ → Filled
to_text file buffer =
    let l = form_of file in form_written buffer (text_written l.table l.budget buffer) l.admission

-- The one permitted result of each exported call.
abbrev pub from_text_exported : List ℕ → List ℕ → Exported
from_text_exported s buffer = let f = from_text s buffer in fill_told f.buffer f.said

abbrev pub to_text_exported : List ℕ → List ℕ → Exported
to_text_exported file buffer = let f = to_text file buffer in fill_told f.buffer f.said
