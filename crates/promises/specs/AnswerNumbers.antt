-- THE ANSWER AS NUMBERS: `yolizadwa_answer` has one permitted result, tells the answer that the report tells,
-- and a host that decodes its buffer has the numbers of that answer.
use Rattle.std.specs.Prelude.{◌≡◌, ◌↔◌, ◌⊎◌, List, ◌++◌, true, false, ℕ, ◌≤◌, ◌<◌, ltb, length, take, drop, Ok, Err}
use Rattle.std.proofs.Common.{sym, ap, ◌∙◌, inl, inr, le-ltb}
use Rattle.std.proofs.Math.Seq.{drop-append_seam}
use Rattle.values.specs.declared.Table.{Table}
use Rattle.values.specs.declared.Refusal.{Refusal}
use Rattle.values.specs.declared.Answer.{Answer}
use Rattle.values.specs.declared.AnswerNumbers.{AnswerNumbers}
use Rattle.model.specs.Limits.{report_bytes}
use Rattle.model.specs.Values.{refusal}
use Rattle.model.specs.Tasks.{horizon}
use Rattle.model.specs.Schedule.{Schedule, Good}
use Rattle.model.specs.Patterns.{quick_pass}
use Rattle.model.specs.Verdict.{verdict, Permitted}
use Rattle.model.specs.TableFile.{file_read, periodic_from}
use Rattle.model.specs.Report.{Exported, report_of, refused, Checked}
use Rattle.model.specs.ReportRead.{passes_exported}
use Rattle.model.specs.AnswerBuffer.{answer_bytes, numbers_of, answer_buffer, numbers_in, numbers_written, Answered}
use Rattle.tablefile.specs.Periodic.{periodic_read, periodic_refused}
use Rattle.answerbuffer.specs.Written.{answer_length}
use Rattle.telling.specs.Reported.{taken}
use Rattle.telling.specs.FileTold.{told_once, told_some, told_refused, button_refused}
use Rattle.telling.specs.ReadOff.{read_off}
pub use Rattle.telling.specs.Answered.{SameAnswer, Numbered}
use Rattle.telling.specs.Answered as telling
use Rattle.telling.specs.Answered.{numbers_fit, numbers_read, four_exactly, numbered_or_refused, numbered}
use Rattle.promises.specs.Demand1.{reported_export}
use Rattle.promises.specs.Demand2.{passes_exactly, answer_exactly}
use Rattle.promises.specs.ReportTold.{passes_told}

-- It has one permitted result, number and buffer, for every file and buffer.
pub one_numbers : (file buffer : List ℕ) (e f : Exported) → Answered file buffer e → Answered file buffer f → e ≡ f
one_numbers file buffer e f =
    told_once (λ r. refused r buffer) (numbers_written buffer) (file_read file) e f (taken answer_bytes file buffer)

pub some_numbers : (file buffer : List ℕ) → (e : Exported) × Answered file buffer e
some_numbers file buffer =
    told_some (λ r. refused r buffer) (numbers_written buffer) (file_read file) (taken answer_bytes file buffer)

-- It writes the numbers of the permitted answer and returns 0 (`Numbered`), or it refuses by a number above 0 and a place
-- below 65,536 and changes no byte.
pub numbers_or_refusal : (file buffer : List ℕ) (e : Exported) → Answered file buffer e
    → Numbered (file_read file) buffer e
    ⊎ ((r : Refusal) × (e ≡ refused r buffer) × ((0 < r.number) × (r.place < 65536)))
numbers_or_refusal = numbered_or_refused

-- A short buffer is refused by 30 at its length, before the file is looked at, and stays as it was.
pub short_answer : (file buffer : List ℕ) (e : Exported)
    → ltb (length buffer) answer_bytes ≡ true → Answered file buffer e → e ≡ refused (refusal 30 (length buffer)) buffer
short_answer file buffer e short =
    told_refused (λ r. refused r buffer) (numbers_written buffer)
    (file_read file) e (refusal 30 (length buffer)) (taken answer_bytes file buffer) (rw short)

-- Whatever the file, with buffers that are long enough both calls refuse alike and change nothing,
-- or they tell one permitted answer with its verdict, as a report and as numbers.
pub same_answer : (file report buffer : List ℕ) (e f : Exported) → report_bytes ≤ length report → answer_bytes ≤ length buffer
    → Checked file report e → Answered file buffer f → SameAnswer (file_read file) report buffer e f
same_answer = telling.same_answer

-- A file that is read and has no button, a buffer that is long enough for the numbers,
-- and what the exported call makes of them.
module _ (file buffer : List ℕ) (f : Exported) (long : answer_bytes ≤ length buffer)
    (good : (periodic_from file).admission ≡ Ok tt) (answered : Answered file buffer f) where
  abbrev table : Table
  table = (file_read file).table

  abbrev decoded : AnswerNumbers
  decoded = numbers_in f.buffer

  -- The numbers that a host decodes are those of the permitted answer and of the verdict: all fit their bytes.
  -- The call returns 0, and what stands behind the numbers stays.
  pub numbers_exactly : (a : Answer) × Permitted table (file_read file).budget a
      × (decoded ≡ numbers_of table.count (quick_pass table) a (verdict table (file_read file).budget))
      × (f.number ≡ 0) × (drop answer_bytes f.buffer ≡ drop answer_bytes buffer)
  numbers_exactly =
      let (a, v, p, o, w) = numbered file buffer f (le-ltb (length buffer) answer_bytes long) good answered in
      let (read, same, (m, well)) = periodic_read file good in
      let says = (answer_exactly table m well (file_read file).budget a p).outcome in
      let is : v ≡ verdict table (file_read file).budget = cc in
      let fits = numbers_fit table (file_read file).budget (quick_pass table) a v o p in
      let x = numbers_of table.count (quick_pass table) a v in
      let rest = drop answer_bytes buffer in
      let past = ap (λ (n : ℕ). drop n (answer_buffer x ++ rest)) (sym (answer_length x fits.worsts)) in
      let back = numbers_read table (file_read file).budget (quick_pass table) a v o p buffer f w in (
        a,
        p,
        back ∙ ap (numbers_of table.count (quick_pass table) a) is,
        ap (λ (e : Exported). e.number) w,
        ap (λ (e : Exported). drop answer_bytes e.buffer) w ∙ past ∙ drop-append_seam (answer_buffer x) rest,
      )

  -- With a budget that reaches the horizon the verdict is 4 exactly if some schedule is good for all time.
  pub answer_passes_exactly : horizon table ≤ (file_read file).budget → (decoded.verdict ≡ 4) ↔ ((σ : Schedule) × Good table σ)
  answer_passes_exactly reach =
      let (a, p, back, zero, rest) = numbers_exactly in
      let (read, same, (m, well)) = periodic_read file good in
      let exactly = passes_exactly table m well (file_read file).budget reach in
      let four = four_exactly table.count (quick_pass table) a (verdict table (file_read file).budget) in
      let code = ap (λ (x : AnswerNumbers). x.verdict) back in
      (λ e. exactly.0 (four.0 (sym code ∙ e)), λ some. code ∙ four.1 (exactly.1 some))

  -- Whatever the budget, it is 4 exactly if the report on the same file says that the table passes.
  pub four_said : (report : List ℕ) (e : Exported) → report_bytes ≤ length report → Checked file report e
      → (decoded.verdict ≡ 4) ↔ (passes_exported (take e.number e.buffer) ≡ 1)
  four_said report e room checked =
      let (b, v, q, o, w, fit) = reported_export file report e (le-ltb (length report) report_bytes room) good checked in
      let (a, p, back, zero, rest) = numbers_exactly in
      let (read, same, (m, well)) = periodic_read file good in
      let says = (answer_exactly table m well (file_read file).budget b q).outcome in
      let is : v ≡ verdict table (file_read file).budget = cc in
      let off = ap passes_exported (read_off (report_of table.count (quick_pass table) b v) report w) in
      let told = passes_told table.count (quick_pass table) b v fit in
      let four = four_exactly table.count (quick_pass table) a (verdict table (file_read file).budget) in
      let code = ap (λ (x : AnswerNumbers). x.verdict) back in
      (λ x. off ∙ told.1 (is ∙ four.0 (sym code ∙ x)), λ x. code ∙ four.1 (sym is ∙ told.0 (sym off ∙ x)))

-- A refused file, or one with a button, leaves the buffer as it was.
pub refused_numbers : (file buffer : List ℕ) (e : Exported) (r : Refusal) → ltb (length buffer) answer_bytes ≡ false
    → (periodic_from file).admission ≡ Err r → Answered file buffer e → e ≡ refused r buffer
refused_numbers file buffer e r long q answered = elim (periodic_refused file r q) [
  | inl f ↦ told_refused (λ r. refused r buffer) (numbers_written buffer)
      (file_read file) e r (taken answer_bytes file buffer) (rw long f) answered
  | inr (f, j) ↦ button_refused (λ r. refused r buffer) (numbers_written buffer)
      (file_read file) e r (taken answer_bytes file buffer) (rw long f) j answered
]
