-- What a writer tells: the file where it fits, and else a refusal that changes no byte.
use Rattle.std.specs.Prelude.{◌≡◌, refl, ◌⊎◌, Bool, true, false, cond, List, ◌++◌, ℕ, min, ◌%◌, ◌≤◌, ◌<◌, ltb, eqb, length, get_or, drop, replicate, Ok, Err}
use Rattle.std.proofs.Common.{inl, inr, le_refl, arith, lit<, length-take-le}
use Rattle.std.proofs.Math.Bool.{not}
use borrow.Author.Tests.{ne_eqb, lt-ltb, le-ltb, ltb-true}
use Rattle.std.proofs.lemmas.List.{length-replicate}
use Rattle.values.specs.declared.Table.{Table}
use Rattle.values.specs.declared.Refusal.{Refusal}
use Rattle.values.specs.declared.Measure.{Measure}
use Rattle.model.specs.Limits.{task_limit, longest_file}
use Rattle.model.specs.Tasks.{no_task, task, judged_mixed}
use Rattle.model.specs.TableFile.{file_of, file_read}
use Rattle.model.specs.Report.{Exported, refused}
use Rattle.model.specs.Values.{refusal, Judgement}
use Rattle.model.specs.Writer.{unwritten, fitted, budgeted, tasks_of, file_written, written_by, row_words, rows, row_task, is_task, first_stranger, table_in}
use Rattle.model.specs.Writer.{fill_told, write_exported}
use Rattle.counting.specs.Search.{first_is, first_none}
use Rattle.counting.specs.Fill.{fill_passed}
use Rattle.wellformed.specs.Ranges.{Ranged, holds_all}
use Rattle.wellformed.specs.WellFormed.{well_mixed}
use Rattle.wellformed.specs.Refused.{Tellable, JudgementTellable, mixed_tellable}
use Rattle.tablefile.specs.Written.{file_length, records_le}
use Rattle.writer.specs.RoundTrip as round

-- The file of a table that keeps its ranges is no longer than the longest legal file.
short_file : (t : Table) (b : ℕ) → Ranged t → length (file_of b (tasks_of t)) ≤ longest_file
short_file t b r = omega (arith, file_length b (tasks_of t), records_le (tasks_of t), length-take-le t.count t.tasks (holds_all t r), r.few)

pub short_writing : (t : Table) (m : Measure) (b : ℕ) (buffer : List ℕ) → judged_mixed t ≡ Ok m → 0 < b
    → length buffer < length (file_of b (tasks_of t)) → file_written t b buffer ≡ unwritten 31 (length buffer) buffer
unfolding file_written
short_writing t m b buffer well some h = rw (well, ne_eqb b 0 (omega arith), lt-ltb (length buffer) (length (file_of b (tasks_of t))) h)

pub long_writing : (t : Table) (m : Measure) (b : ℕ) (buffer : List ℕ) → judged_mixed t ≡ Ok m → 0 < b
    → length (file_of b (tasks_of t)) ≤ length buffer
    → let file = file_of b (tasks_of t) in
    (file_written t b buffer ≡ record { said = Ok (length file); buffer = file ++ drop (length file) buffer }) × (length file ≤ longest_file)
unfolding file_written
long_writing t m b buffer well some h =
    (rw (well, ne_eqb b 0 (omega arith), le-ltb (length buffer) (length (file_of b (tasks_of t))) h), short_file t b (well_mixed t m well).ranged)

pub read_writes : (file buffer : List ℕ) → ((i : ℕ) → get_or file i 0 < 256) → (file_read file).admission ≡ Ok tt → length file ≤ length buffer
    → file_written (file_read file).table (file_read file).budget buffer
    ≡ record { said = Ok (length file); buffer = file ++ drop (length file) buffer }
read_writes file buffer bytes good h = rw (round.read_writes file buffer bytes good, le-ltb (length buffer) (length file) h)

-- Bytes that fit are told, no more than `most`; or there is a refusal that C can tell, and no byte is changed.
abbrev pub Apart : ℕ → List ℕ → List ℕ → Exported → Type 0
Apart most buffer bytes e =
    ((e ≡ record { number = length bytes; buffer = bytes ++ drop (length bytes) buffer }) × (length bytes ≤ most))
    ⊎ ((r : Refusal) × (e ≡ refused r buffer) × Tellable r)

module _ (most : ℕ) (small : most < 65536) (buffer : List ℕ) where
  fitted_apart : (bytes : List ℕ) → length bytes ≤ most → let f = fitted bytes buffer in Apart most buffer bytes (fill_told f.buffer f.said)
  fitted_apart bytes few = go (ltb (length buffer) (length bytes)) (ltb-true (length buffer) (length bytes))
    where
      go : (short : Bool) → (short ≡ true → length buffer < length bytes)
          → let f =
          cond short (unwritten 31 (length buffer) buffer) (record { said = Ok (length bytes); buffer = bytes ++ drop (length bytes) buffer }) in
          Apart most buffer bytes (fill_told f.buffer f.said)
      go true h = inr (refusal 31 (length buffer), refl, (omega arith, omega (arith, h refl)))
      go false h = inl (refl, few)

  budgeted_apart : (b : ℕ) (bytes : List ℕ) → length bytes ≤ most
      → let f = budgeted b bytes buffer in Apart most buffer bytes (fill_told f.buffer f.said)
  budgeted_apart b bytes few = go (eqb b 0)
    where
      go : (nothing : Bool)
          → let f = cond nothing (unwritten 27 0 buffer) (fitted bytes buffer) in Apart most buffer bytes (fill_told f.buffer f.said)
      go true = inr (refusal 27 0, refl, (omega arith, omega arith))
      go false = fitted_apart bytes few

  -- The bytes of a table and a budget, if those of a well-formed one are not too many.
  pub table_apart : (t : Table) (b : ℕ) (bytes : List ℕ) → (Ranged t → length bytes ≤ most)
      → let f = written_by b bytes buffer (judged_mixed t) in Apart most buffer bytes (fill_told f.buffer f.said)
  table_apart t b bytes few = go (judged_mixed t) refl (mixed_tellable t)
    where
      go : (j : Judgement) → judged_mixed t ≡ j → JudgementTellable j → let f = written_by b bytes buffer j in Apart most buffer bytes
          (fill_told f.buffer f.said)
      go (Err r) e n = inr (r, refl, n)
      go (Ok m) e n = budgeted_apart b bytes (few (well_mixed t m e).ranged)

module _ (buffer : List ℕ) where
  pub file_apart : (t : Table) (b : ℕ) → let f = file_written t b buffer in Apart longest_file buffer (file_of b (tasks_of t)) (fill_told f.buffer f.said)
  unfolding file_written
  file_apart t b = table_apart longest_file (lit< tt) buffer t b (file_of b (tasks_of t)) (short_file t b)

  pub write_apart : (words : List ℕ) (b : ℕ) → Apart longest_file buffer (file_of b (tasks_of (table_in words))) (write_exported words b buffer)
  write_apart words b = go (not (eqb (length words % row_words) 0)) (ltb (first_stranger words) (rows words))
    where
      go : (broken strange : Bool)
          → let f = file_written (table_in words) b buffer in
          Apart longest_file buffer (file_of b (tasks_of (table_in words)))
          (cond broken (refused (refusal 51 (min (length words) 65535)) buffer)
          (cond strange (refused (refusal 52 (min (first_stranger words) 65535)) buffer) (fill_told f.buffer f.said)))
      go true strange = inr (refusal 51 (min (length words) 65535), refl, (omega arith, omega arith))
      go false true = inr (refusal 52 (min (first_stranger words) 65535), refl, (omega arith, omega arith))
      go false false = file_apart (table_in words) b

module _ (words : List ℕ) (whole : eqb (length words % row_words) 0 ≡ true) (b : ℕ) (buffer : List ℕ) where
  -- The first row that is no task is told.
  pub strange_row : (i : ℕ) → i < rows words → is_task words i ≡ false → ((k : ℕ) → k < i → is_task words k ≡ true)
      → write_exported words b buffer ≡ refused (refusal 52 (min i 65535)) buffer
  unfolding first_stranger
  strange_row i l e tasks =
      let at : first_stranger words ≡ i = first_is (λ k. not (is_task words k)) 0 (rows words) i (omega arith) (omega arith) (rw e tt)
      (λ k a m. rw (tasks k m) (λ x. x)) in
      rw (whole, at, lt-ltb i (rows words) l)

  -- Where there is none, the file of the rows' table is written.
  pub rows_written : ((k : ℕ) → k < rows words → is_task words k ≡ true) → let f = file_written
      (table_in words) b buffer in write_exported words b buffer ≡ fill_told f.buffer f.said
  unfolding first_stranger
  rows_written tasks =
      let none : first_stranger words ≡ rows words = omega
      (arith, first_none (λ k. not (is_task words k)) 0 (rows words) (λ k a m. rw (tasks k (omega arith)) (λ x. x))) in
      rw (whole, none, le-ltb (rows words) (rows words) (le_refl _))

-- The tasks of the rows' table are those of the rows, in their order.
pub rows_tasks : (words : List ℕ) (i : ℕ) → i < rows words → i < task_limit → task (table_in words) i ≡ row_task words i
unfolding table_in
rows_tasks words i l m =
    fill_passed (min (rows words) task_limit) (row_task words) (replicate task_limit no_task) i no_task (omega arith)
    (omega (arith, length-replicate task_limit no_task))
