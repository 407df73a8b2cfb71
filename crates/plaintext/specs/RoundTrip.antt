-- What is written as a text is read with the same budget and tasks; from a file to its text and back the bytes are the same, and so from a text in
-- its canonical form.
use Rattle.model.specs.Values.{Judgement}
use Rattle.std.specs.Prelude.{◌≡◌, refl, ℕ, ◌<◌, get_or, take, Ok, Err}
use Rattle.std.proofs.Common.{sym, ap, ◌∙◌, arith}
use mathlib.Core.List.{List}
use borrow.Author.Tests.{ne_eqb}
use Rattle.values.specs.declared.Task.{Task}
use Rattle.values.specs.declared.Table.{Table}
use Rattle.values.specs.declared.Measure.{Measure}
use Rattle.model.specs.Limits.{budget_limit}
use Rattle.model.specs.Tasks.{judged_mixed}
use Rattle.model.specs.TableFile.{admit, file_of, file_read}
use Rattle.model.specs.Writer.{Filled, fitted, tasks_of, written_by, file_written}
use Rattle.model.specs.PlainText.{text_read, text_of, text_written, from_text, to_text}
use Rattle.tablefile.specs.Written.{written_read}
use Rattle.writer.specs.RoundTrip.{tasks_back, few_and_fit, tasks_well_formed, formed_reads, fitted_front, budgeted_front, file_of_read}
use Rattle.plaintext.specs.Canonical.{text_read_lem}

-- The text of a well-formed table and a budget is read as this budget and these tasks.
pub text_reads : (t : Table) (m : Measure) (b : ℕ) → 0 < b → b < budget_limit → judged_mixed t ≡ Ok m
    → text_read (text_of b (tasks_of t)) ≡ admit b (tasks_of t)
unfolding text_read
text_reads t m b some limit well =
    let (few, fit) = few_and_fit t m b well in
    formed_reads t m b well (text_read_lem b (tasks_of t) some limit fit few)

-- What was written is read: the same budget and the same tasks.
pub written_text_reads : (t : Table) (b : ℕ) (buffer : List ℕ) (n : ℕ) → b < budget_limit → (text_written t b buffer).said ≡ Ok n
    → text_read (take n (text_written t b buffer).buffer) ≡ admit b (tasks_of t)
unfolding text_written
written_text_reads t b buffer n limit = go (judged_mixed t) refl
  where
    go : (j : Judgement) → judged_mixed t ≡ j → (written_by b (text_of b (tasks_of t)) buffer j).said ≡ Ok n
        → text_read (take n (written_by b (text_of b (tasks_of t)) buffer j).buffer) ≡ admit b (tasks_of t)
    go (Err r) well e = let z : ◌≡◌ {A = ℕ} 0 1 = cc in absurd (omega arith)
    go (Ok m) well e =
        let (some, front) = budgeted_front b (text_of b (tasks_of t)) buffer n e in
        rw front (text_reads t m b some limit well)

module _ (t : Table) (m : Measure) (b : ℕ) (buffer : List ℕ) (some : 0 < b) (limit : b < budget_limit) (well : judged_mixed t ≡ Ok m) where
  -- From the text of a table to its file, and from its file to its text.
  pub text_to_file : from_text (text_of b (tasks_of t)) buffer ≡ fitted (file_of b (tasks_of t)) buffer
  unfolding file_written
  text_to_file =
      let (few, fit) = few_and_fit t m b well in
      rw (text_read_lem b (tasks_of t) some limit fit few, tasks_well_formed t m b well, ne_eqb b 0 (omega arith))
      (ap (λ (ks : List Task). fitted (file_of b ks) buffer) (tasks_back (tasks_of t)))

  pub file_to_text : to_text (file_of b (tasks_of t)) buffer ≡ fitted (text_of b (tasks_of t)) buffer
  unfolding text_written
  file_to_text =
      let (few, fit) = few_and_fit t m b well in
      rw (written_read b (tasks_of t) some limit fit few, tasks_well_formed t m b well, ne_eqb b 0 (omega arith))
      (ap (λ (ks : List Task). fitted (text_of b ks) buffer) (tasks_back (tasks_of t)))

-- The file of the text that was written of a file that is not refused is that file.
pub back_to_file : (file lent buffer : List ℕ) (n : ℕ) → ((i : ℕ) → get_or file i 0 < 256) → (file_read file).admission ≡ Ok tt
    → (to_text file lent).said ≡ Ok n
    → from_text (take n (to_text file lent).buffer) buffer ≡ fitted file buffer
back_to_file file lent buffer n bytes h said =
    let (some, limit, same, (m, well)) = file_of_read file bytes h in
    let t = (file_read file).table in
    let b = (file_read file).budget in
    let made : to_text file lent ≡ fitted (text_of b (tasks_of t)) lent = ap (λ (s : List ℕ). to_text s lent) (sym same)
    ∙ file_to_text t m b lent some limit well in
    rw (made, fitted_front (text_of b (tasks_of t)) lent n (ap (λ (f : Filled). f.said) (sym made) ∙ said))
    (text_to_file t m b buffer some limit well ∙ ap (λ (s : List ℕ). fitted s buffer) same)
