-- DEMAND 1 at the writer: a refusal changes no byte; what was written is read as the same budget and tasks,
-- and what was read is written as the same bytes.
use Rattle.std.specs.Prelude.{◌≡◌, refl, ◌⊎◌, List, [], ◌∷◌, ◌++◌, true, false, ℕ, min, ◌%◌, ◌≤◌, ◌<◌, eqb, length, get_or, take, drop, Ok, Err}
use Rattle.std.proofs.Common.{ap, ◌∙◌}
use Rattle.values.specs.declared.Table.{Table}
use Rattle.values.specs.declared.Refusal.{Refusal}
use Rattle.values.specs.declared.Measure.{Measure}
use Rattle.values.specs.declared.Contents.{Contents}
use Rattle.model.specs.Limits.{task_limit, budget_limit, longest_file}
use Rattle.model.specs.Values.{refusal, refusal_said, writing_said}
use Rattle.model.specs.Tasks.{task, judged_mixed}
use Rattle.model.specs.TableFile.{file_of, file_read}
use Rattle.model.specs.Report.{refused}
use Rattle.model.specs.Writer.{tasks_of, file_written, row_words, rows, row_task, is_task, table_in, fill_told}
use Rattle.model.specs.Writer.{write_exported}
use Rattle.writer.specs.RoundTrip as round
use Rattle.writer.specs.Told as told

-- A refused table is refused by its number and place, whatever the buffer, and the buffer stays as it was.
pub refused_writing : (t : Table) (budget : ℕ) (buffer : List ℕ) (r : Refusal) → judged_mixed t ≡ Err r
    → let f = file_written t budget buffer in (writing_said f.said ≡ refusal_said r) × (f.buffer ≡ buffer)
unfolding file_written
refused_writing t budget buffer r e = rw e (refl, refl)

-- Then a budget of 0 is refused by 27 at 0, whatever the buffer, and the buffer stays as it was.
pub nothing_writing : (t : Table) (m : Measure) (buffer : List ℕ) → judged_mixed t ≡ Ok m
    → let f = file_written t 0 buffer in (writing_said f.said ≡ 27 ∷ 0 ∷ []) × (f.buffer ≡ buffer)
unfolding file_written
nothing_writing t m buffer well = rw well (refl, refl)

-- Then a buffer that is shorter than the file is refused by 31 at its length, and stays as it was.
pub short_writing : (t : Table) (m : Measure) (budget : ℕ) (buffer : List ℕ)
    → judged_mixed t ≡ Ok m → 0 < budget
    → length buffer < length (file_of budget (tasks_of t))
    → let f = file_written t budget buffer in (writing_said f.said ≡ 31 ∷ length buffer ∷ []) × (f.buffer ≡ buffer)
short_writing t m budget buffer well some h = rw (told.short_writing t m budget buffer well some h) (refl, refl)

-- Any other gets the file at its front, of at most `longest_file` bytes, and its length is told;
-- the bytes behind it stay as they were.
pub long_writing : (t : Table) (m : Measure) (budget : ℕ) (buffer : List ℕ)
    → judged_mixed t ≡ Ok m → 0 < budget
    → length (file_of budget (tasks_of t)) ≤ length buffer
    → let f = file_written t budget buffer in
    let file = file_of budget (tasks_of t) in
    (writing_said f.said ≡ 0 ∷ length file ∷ [])
    × (f.buffer ≡ file ++ drop (length file) buffer) × (length file ≤ longest_file)
long_writing t m budget buffer well some h =
    let (e, few) = told.long_writing t m budget buffer well some h in rw e (refl, refl, few)

-- What was written is read: it is not refused, and has the same budget and the same tasks in their order.
pub written_reads : (t : Table) (budget : ℕ) (buffer : List ℕ) (n : ℕ)
    → budget < budget_limit → (file_written t budget buffer).said ≡ Ok n
    → let l = file_read (take n (file_written t budget buffer).buffer) in
    (l.admission ≡ Ok tt) × (l.budget ≡ budget) × (tasks_of l.table ≡ tasks_of t)
written_reads t budget buffer n limit e =
    let same = round.written_reads t budget buffer n limit e in (
      ap (λ (l : Contents). l.admission) same,
      ap (λ (l : Contents). l.budget) same,
      ap (λ (l : Contents). tasks_of l.table) same ∙ round.tasks_back (tasks_of t),
    )

-- What was read from a file that is not refused is written as the same bytes, if the buffer is not shorter.
pub read_writes : (file buffer : List ℕ)
    → ((i : ℕ) → get_or file i 0 < 256) → (file_read file).admission ≡ Ok tt → length file ≤ length buffer
    → file_written (file_read file).table (file_read file).budget buffer
    ≡ record { said = Ok (length file); buffer = file ++ drop (length file) buffer }
read_writes = told.read_writes

-- From C: words that do not make whole rows are refused by 51 at their number, at most 65,535, whatever the rest.
pub broken_rows : (words : List ℕ) (budget : ℕ) (buffer : List ℕ) → eqb (length words % row_words) 0 ≡ false
    → write_exported words budget buffer ≡ refused (refusal 51 (min (length words) 65535)) buffer
broken_rows words budget buffer e = rw e

module _ (words : List ℕ) (whole : eqb (length words % row_words) 0 ≡ true) (budget : ℕ) (buffer : List ℕ) where
  -- Then the first row that is no task by 52 at its number, at most 65,535.
  pub strange_row : (i : ℕ) → i < rows words → is_task words i ≡ false → ((k : ℕ) → k < i → is_task words k ≡ true)
      → write_exported words budget buffer ≡ refused (refusal 52 (min i 65535)) buffer
  strange_row = told.strange_row words whole budget buffer

  -- Where every row is a task, the file of their table is written.
  pub rows_written : ((k : ℕ) → k < rows words → is_task words k ≡ true)
      → let f = file_written (table_in words) budget buffer in
      write_exported words budget buffer ≡ fill_told f.buffer f.said
  rows_written = told.rows_written words whole budget buffer

-- That table has the tasks of the rows, in their order, and counts all rows:
-- more than `task_limit` of them are refused by 2.
pub rows_tasks : (words : List ℕ)
    → ((table_in words).count ≡ rows words)
    × ((i : ℕ) → i < rows words → i < task_limit → task (table_in words) i ≡ row_task words i)
unfolding table_in
rows_tasks words = (refl, told.rows_tasks words)

-- The exported call writes the file of the rows' table and returns its length, at most `longest_file`,
-- or it refuses by a number above 0 and a place below 65,536 and changes no byte.
pub write_or_refusal : (words : List ℕ) (budget : ℕ) (buffer : List ℕ)
    → let file = file_of budget (tasks_of (table_in words)) in
    ((write_exported words budget buffer ≡ record { number = length file; buffer = file ++ drop (length file) buffer })
    × (length file ≤ longest_file))
    ⊎ ((r : Refusal) × (write_exported words budget buffer ≡ refused r buffer) × ((0 < r.number) × (r.place < 65536)))
write_or_refusal words budget buffer = told.write_apart buffer words budget
