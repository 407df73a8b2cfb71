-- The writer: a table and a budget as a table file in a lent buffer, and the exported call.
use Rattle.std.specs.Prelude.{List, ◌++◌, Bool, cond, not, ◌&&◌, ◌||◌, ℕ, ◌+◌, ◌*◌, ◌/◌, ◌%◌, min, ltb, eqb, get_or, length, replicate, take, drop, Ok, Err}
use Rattle.model.specs.Notation.{first, fill}
use Rattle.model.specs.Values.{Sort, Task, Table, Judgement, Writing, refusal}
use Rattle.model.specs.Limits.{task_limit}
use Rattle.model.specs.Tasks.{no_task, judged_mixed}
use Rattle.model.specs.TableFile.{task_kind, button_kind, file_of}
use Rattle.model.specs.Report.{Exported, refused}

-- What a writer does: what it says, and what the buffer then holds.
pub record Filled : Type 0 where
  pub said : Writing
  pub buffer : List ℕ

-- A refusal writes nowhere.
abbrev pub unwritten : ℕ → ℕ → List ℕ → Filled
unwritten n p buffer = record { said = Err (refusal n p); buffer = buffer }

-- Bytes are written at the front of the buffer, and their number told; those behind them stay as found.
-- A shorter buffer is refused by 31 at its length.
abbrev pub fitted : List ℕ → List ℕ → Filled
fitted bytes buffer =
    cond (ltb (length buffer) (length bytes)) (unwritten 31 (length buffer) buffer)
    (record { said = Ok (length bytes); buffer = bytes ++ drop (length bytes) buffer })

-- The tasks of a table, in their order.
abbrev pub tasks_of : Table → List Task
tasks_of t = take t.count t.tasks

-- A budget of 0 is refused by 27, before the buffer's length is looked at.
abbrev pub budgeted : ℕ → List ℕ → List ℕ → Filled
budgeted budget bytes buffer = cond (eqb budget 0) (unwritten 27 0 buffer) (fitted bytes buffer)

-- The bytes of a table and a budget are written after the table's own refusals.
abbrev pub written_by : ℕ → List ℕ → List ℕ → Judgement → Filled
written_by budget bytes buffer (Err r) = unwritten r.number r.place buffer
written_by budget bytes buffer (Ok m) = budgeted budget bytes buffer

-- The one permitted result of the writer on any table, budget and buffer.
unfoldable pub file_written : Table → ℕ → List ℕ → Filled
file_written t budget buffer = written_by budget (file_of budget (tasks_of t)) buffer (judged_mixed t)

-- From C a table is handed over as words, five for each task: its kind, O, C, D, T.
-- A button has 0 for O, and its spacing for T.
abbrev pub row_words : ℕ
row_words = 5

abbrev pub rows : List ℕ → ℕ
rows words = length words / row_words

abbrev pub row_task : List ℕ → ℕ → Task
row_task words i =
    let at = row_words * i in
    let sort = cond (eqb (get_or words at 0) button_kind) Sort.Button (Sort.Periodic (get_or words (at + 1) 0)) in
    record {
      sort = sort;
      cost = get_or words (at + 2) 0;
      deadline = get_or words (at + 3) 0;
      period = get_or words (at + 4) 0;
    }

-- Row i is a task; the first that is none, or the number of rows.
abbrev pub is_task : List ℕ → ℕ → Bool
is_task words i =
    let kind = get_or words (row_words * i) 0 in
    eqb kind task_kind || (eqb kind button_kind && eqb (get_or words (row_words * i + 1) 0) 0)

unfoldable pub first_stranger : List ℕ → ℕ
first_stranger words = first (λ i. not (is_task words i)) 0 (rows words)

-- The table of the rows: it counts them all, and holds as many as a table can.
unfoldable pub table_in : List ℕ → Table
table_in words =
    record {
      count = rows words;
      tasks = fill (min (rows words) task_limit) (row_task words) (replicate task_limit no_task);
    }

-- What C is told of a writer.
abbrev pub fill_told : List ℕ → Writing → Exported
fill_told buffer (Err r) = refused r buffer
fill_told buffer (Ok n) = record { number = n; buffer = buffer }

-- The one permitted result of the exported call. The form of the words comes before the table: 51 where they do not
-- make whole rows, at their number, then 52 at the first row that is no task; a place is at most 65,535.
abbrev pub write_exported : List ℕ → ℕ → List ℕ → Exported
write_exported words budget buffer =
    cond (not (eqb (length words % row_words) 0)) (refused (refusal 51 (min (length words) 65535)) buffer)
    (cond (ltb (first_stranger words) (rows words)) (refused (refusal 52 (min (first_stranger words) 65535)) buffer)
    (let f = file_written (table_in words) budget buffer in fill_told f.buffer f.said))
