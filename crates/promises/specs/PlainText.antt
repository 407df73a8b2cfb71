-- DEMAND 1 at tables in plain text: a refusal changes no byte;
-- the text of a budget and tasks is read as these; from a file to its text and back the bytes are the same.
use Rattle.std.specs.Prelude.{◌≡◌, refl, ◌⊎◌, List, [], ◌∷◌, ◌++◌, ℕ, ◌≤◌, ◌<◌, length, get_or, take, drop, Ok, Err}
use Rattle.std.proofs.Common.{ap, ◌∙◌}
use Rattle.values.specs.declared.Task.{Task}
use Rattle.values.specs.declared.Table.{Table}
use Rattle.values.specs.declared.Refusal.{Refusal}
use Rattle.values.specs.declared.Measure.{Measure}
use Rattle.values.specs.declared.Contents.{Contents}
use Rattle.model.specs.Limits.{task_limit, budget_limit, longest_file, longest_text}
use Rattle.model.specs.Values.{refusal_said, writing_said, admission_said}
use Rattle.model.specs.Tasks.{judged_mixed}
use Rattle.model.specs.TableFile.{admit, file_of, form_of, file_read}
use Rattle.model.specs.Report.{refused}
use Rattle.model.specs.Writer.{fitted, tasks_of, file_written}
use Rattle.model.specs.PlainText.{largest_budget, text_form, text_read, task_texts, text_of, text_written, from_text, to_text, from_text_exported}
use Rattle.model.specs.PlainText.{to_text_exported}
use Rattle.tablefile.specs.Written.{AllFit}
use Rattle.writer.specs.RoundTrip.{tasks_back}
use Rattle.plaintext.specs.Canonical.{text_read_lem, tasks_text_read, text_nothing}
use Rattle.plaintext.specs.RoundTrip as round
use Rattle.plaintext.specs.Told as told

-- The text of any budget above 0 and below 2^64 and of at most `task_limit` tasks, each number below 2^32,
-- has a good form and holds these.
pub text_is_read : (b : ℕ) (ks : List Task) → 0 < b → b < budget_limit → AllFit ks → length ks ≤ task_limit
    → text_form (text_of b ks) ≡ admit b ks
text_is_read = text_read_lem

-- A text without a budget holds its tasks and the largest budget, so that a test looks as far as it must.
pub no_budget_is_read : (ks : List Task) → AllFit ks → length ks ≤ task_limit → text_form (task_texts ks) ≡ admit largest_budget ks
no_budget_is_read = tasks_text_read

-- That of a budget of 0 is refused by 27 at its first line, whatever follows.
pub text_of_nothing : (ks : List Task) → admission_said (text_form (text_of 0 ks)).admission ≡ 27 ∷ 1 ∷ []
text_of_nothing ks = rw (text_nothing ks) refl

-- Nor is it written: of a well-formed table it is refused by 27 at 0, whatever the buffer, which stays as it was.
pub nothing_text_writing : (t : Table) (m : Measure) (buffer : List ℕ) → judged_mixed t ≡ Ok m
    → let f = text_written t 0 buffer in (writing_said f.said ≡ 27 ∷ 0 ∷ []) × (f.buffer ≡ buffer)
unfolding text_written
nothing_text_writing t m buffer well = rw well (refl, refl)

-- What was written as a text is read: it is not refused, and has the same budget and the same tasks in their order.
pub written_text_reads : (t : Table) (budget : ℕ) (buffer : List ℕ) (n : ℕ)
    → budget < budget_limit → (text_written t budget buffer).said ≡ Ok n
    → let l = text_read (take n (text_written t budget buffer).buffer) in
    (l.admission ≡ Ok tt) × (l.budget ≡ budget) × (tasks_of l.table ≡ tasks_of t)
written_text_reads t budget buffer n limit e =
    let same = round.written_text_reads t budget buffer n limit e in (
      ap (λ (l : Contents). l.admission) same,
      ap (λ (l : Contents). l.budget) same,
      ap (λ (l : Contents). tasks_of l.table) same ∙ tasks_back (tasks_of t),
    )

-- The text of a well-formed table and a budget above 0 is made its file, and its file its text.
pub text_to_file : (t : Table) (m : Measure) (budget : ℕ) (buffer : List ℕ) → 0 < budget → budget < budget_limit
    → judged_mixed t ≡ Ok m
    → from_text (text_of budget (tasks_of t)) buffer ≡ fitted (file_of budget (tasks_of t)) buffer
text_to_file = round.text_to_file

pub file_to_text : (t : Table) (m : Measure) (budget : ℕ) (buffer : List ℕ) → 0 < budget → budget < budget_limit
    → judged_mixed t ≡ Ok m
    → to_text (file_of budget (tasks_of t)) buffer ≡ fitted (text_of budget (tasks_of t)) buffer
file_to_text = round.file_to_text

-- Of a file that is not refused, the file of the text that was written of it is that file, byte for byte.
pub back_to_file : (file lent buffer : List ℕ) (n : ℕ) → ((i : ℕ) → get_or file i 0 < 256)
    → (file_read file).admission ≡ Ok tt → (to_text file lent).said ≡ Ok n
    → from_text (take n (to_text file lent).buffer) buffer ≡ fitted file buffer
back_to_file = round.back_to_file

-- A text of bad form is refused for it, when it is read and when its file is to be written,
-- and the buffer stays as it was.
pub refused_text : (s buffer : List ℕ) (r : Refusal) → (text_form s).admission ≡ Err r
    → let f = from_text s buffer in
    (admission_said (text_read s).admission ≡ refusal_said r)
    × (writing_said f.said ≡ refusal_said r) × (f.buffer ≡ buffer)
unfolding text_read
refused_text s buffer r e = rw e (refl, refl, refl)

-- So is a table for itself that a text of good form holds.
pub refused_text_table : (s buffer : List ℕ) (r : Refusal) → (text_form s).admission ≡ Ok tt
    → judged_mixed (text_form s).table ≡ Err r
    → let f = from_text s buffer in
    (admission_said (text_read s).admission ≡ refusal_said r)
    × (writing_said f.said ≡ refusal_said r) × (f.buffer ≡ buffer)
unfolding text_read file_written
refused_text_table s buffer r e f = rw (e, f) (refl, refl, refl)

-- To write the text of a file: what the file is refused by when it is read, and the buffer stays as it was.
pub refused_to_text : (file buffer : List ℕ) (r : Refusal) → (file_read file).admission ≡ Err r
    → let f = to_text file buffer in (writing_said f.said ≡ refusal_said r) × (f.buffer ≡ buffer)
refused_to_text = told.refused_to_text

-- From text to file: the file, of at most `longest_file` bytes, at the buffer's front and its length returned,
-- or a refusal by a number above 0 and a place below 65,536 that changes no byte.
pub from_text_or_refusal : (s buffer : List ℕ)
    → let l = text_form s in
    let file = file_of l.budget (tasks_of l.table) in
    ((from_text_exported s buffer ≡ record { number = length file; buffer = file ++ drop (length file) buffer })
    × (length file ≤ longest_file))
    ⊎ ((r : Refusal) × (from_text_exported s buffer ≡ refused r buffer) × ((0 < r.number) × (r.place < 65536)))
from_text_or_refusal = told.from_text_apart

-- From file to text: in the same way, of any list of bytes, and a text has at most `longest_text` bytes.
pub to_text_or_refusal : (file buffer : List ℕ) → ((i : ℕ) → get_or file i 0 < 256)
    → let l = form_of file in
    let text = text_of l.budget (tasks_of l.table) in
    ((to_text_exported file buffer ≡ record { number = length text; buffer = text ++ drop (length text) buffer })
    × (length text ≤ longest_text))
    ⊎ ((r : Refusal) × (to_text_exported file buffer ≡ refused r buffer) × ((0 < r.number) × (r.place < 65536)))
to_text_or_refusal = told.to_text_apart
