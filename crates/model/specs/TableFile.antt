-- The table file: for any list of bytes the refusal, or the budget and the tasks; and the file of a budget and tasks.
use Rattle.std.specs.Prelude.{List, [], ◌∷◌, ◌++◌, cond, ◌||◌, ℕ, zero, suc, ◌+◌, ◌-◌, ◌*◌, ◌/◌, ◌%◌, ltb, leb, eqb, get_or, length, replicate, Ok, Err}
use Rattle.model.specs.Values.{Sort, Task, Table, Judgement, Admission, Contents, refusal}
use Rattle.model.specs.Limits.{task_limit, word_limit, budget_bytes, task_bytes, button_bytes}
use Rattle.model.specs.Tasks.{no_task, judged_mixed, judged}

-- The kinds of records.
abbrev pub budget_kind : ℕ
budget_kind = 1

abbrev pub task_kind : ℕ
task_kind = 2

abbrev pub end_kind : ℕ
end_kind = 3

abbrev pub button_kind : ℕ
button_kind = 4

-- Four bytes, and eight, from a place on: numbers, the lowest byte first.
abbrev pub four : List ℕ → ℕ → ℕ
four s at = get_or s at 0 + 256 * get_or s (at + 1) 0 + 65536 * get_or s (at + 2) 0 + 16777216 * get_or s (at + 3) 0

abbrev pub eight : List ℕ → ℕ → ℕ
eight s at = four s at + word_limit * four s (at + 4)

-- A task's body: O, C, D, T. A button's: C, D and its spacing.
abbrev pub task_in : List ℕ → ℕ → Task
task_in s at =
    record {
      sort = Sort.Periodic (four s at);
      cost = four s (at + 4);
      deadline = four s (at + 8);
      period = four s (at + 12);
    }

abbrev pub button_in : List ℕ → ℕ → Task
button_in s at = record { sort = Sort.Button; cost = four s at; deadline = four s (at + 4); period = four s (at + 8) }

-- A table of these tasks. A refused file holds none, and its budget is 0; an admitted one holds what was read.
abbrev pub table_of : List Task → Table
table_of ks = record { count = length ks; tasks = ks ++ replicate (task_limit - length ks) no_task }

abbrev pub refuse_file : ℕ → ℕ → Contents
refuse_file n p = record { admission = Err (refusal n p); budget = 0; table = table_of [] }

abbrev pub admit : ℕ → List Task → Contents
admit b ks = record { admission = Ok tt; budget = b; table = table_of ks }

-- The record at this place is whole, or else refused by 20.
abbrev pub whole : List ℕ → ℕ → ℕ → Contents → Contents
whole s at bytes go = cond (ltb (length s) (at + bytes)) (refuse_file 20 at) go

-- The record at a place after the budget b and the tasks ks; a task of either sort leads to `go` with its bytes.
-- A kind is known, or 21; then allowed here, or 23 or 25; then its body is whole, or 20. Where the file stops it is 26.
-- Whatever follows the end is 24.
abbrev pub read_record : List ℕ → ℕ → List Task → ℕ → (ℕ → Task → Contents) → Contents
read_record s b ks at go =
    cond (leb (length s) at) (refuse_file 26 (length s))
    (cond (eqb (get_or s at 0) budget_kind) (refuse_file 23 at)
    (cond (eqb (get_or s at 0) task_kind) (go task_bytes (task_in s (at + 1)))
    (cond (eqb (get_or s at 0) button_kind) (go button_bytes (button_in s (at + 1)))
    (cond (eqb (get_or s at 0) end_kind)
    (cond (ltb (at + 1) (length s)) (refuse_file 24 (at + 1)) (admit b ks))
    (refuse_file 21 at)))))

-- The records after the budget, with room for this many more tasks.
unfoldable pub read_from : List ℕ → ℕ → List Task → ℕ → ℕ → Contents
read_from s b ks zero at = read_record s b ks at (λ bytes k. refuse_file 25 at)
read_from s b ks (suc room) at =
    read_record s b ks at (λ bytes k. whole s at bytes (read_from s b (ks ++ (k ∷ [])) room (at + bytes)))

-- A file's budget is at least 1: one of 0 is refused by 27, when it is read, before anything behind it.
abbrev pub worth : ℕ → Contents → Contents
worth b go = cond (eqb b 0) (refuse_file 27 0) go

-- The form of a file: the budget first, once; then the tasks; then the end, and nothing after it.
unfoldable pub form_of : List ℕ → Contents
form_of s =
    cond (eqb (length s) 0) (refuse_file 22 0)
    (cond (eqb (get_or s 0 0) budget_kind)
    (whole s 0 budget_bytes (worth (eight s 1) (read_from s (eight s 1) [] task_limit budget_bytes)))
    (cond (eqb (get_or s 0 0) task_kind || (eqb (get_or s 0 0) end_kind || eqb (get_or s 0 0) button_kind))
    (refuse_file 22 0)
    (refuse_file 21 0)))

-- The table of a file is judged only after the file's form is good.
abbrev pub judged_table : Contents → Judgement → Contents
judged_table l (Err r) = refuse_file r.number r.place
judged_table l (Ok m) = l

abbrev pub judged_form : (Table → Judgement) → Contents → Admission → Contents
judged_form judge l (Err r) = l
judged_form judge l (Ok u) = judged_table l (judge l.table)

unfoldable pub file_read : List ℕ → Contents
file_read s = judged_form judged_mixed (form_of s) (form_of s).admission

-- Where only periodic tasks are allowed, a table with a button is refused too.
unfoldable pub periodic_from : List ℕ → Contents
periodic_from s = judged_form judged (form_of s) (form_of s).admission

-- A word in four bytes, the lowest first; words one after another.
abbrev pub word_bytes : ℕ → List ℕ
word_bytes x = x % 256 ∷ x / 256 % 256 ∷ x / 65536 % 256 ∷ x / 16777216 % 256 ∷ []

unfoldable pub bytes_of : List ℕ → List ℕ
bytes_of [] = []
bytes_of (x ∷ w) = word_bytes x ++ bytes_of w

-- A number of eight bytes as two words, the lower one first.
abbrev pub two_words : ℕ → List ℕ
two_words x = x % word_limit ∷ x / word_limit ∷ []

-- The record of a budget; of a task: O, C, D, T; of a button: C, D and its spacing; of tasks, in their order.
abbrev pub budget_record : ℕ → List ℕ
budget_record b = budget_kind ∷ bytes_of (two_words b)

abbrev pub sort_bytes : Sort → List ℕ
sort_bytes (Sort.Periodic o) = task_kind ∷ word_bytes o
sort_bytes Sort.Button = button_kind ∷ []

abbrev pub task_record : Task → List ℕ
task_record k = sort_bytes k.sort ++ bytes_of (k.cost ∷ k.deadline ∷ k.period ∷ [])

unfoldable pub task_records : List Task → List ℕ
task_records [] = []
task_records (k ∷ ks) = task_record k ++ task_records ks

-- The file of a budget and tasks: the budget, the tasks, the end.
abbrev pub file_of : ℕ → List Task → List ℕ
file_of b ks = budget_record b ++ (task_records ks ++ (end_kind ∷ []))
