-- What the calls on texts tell: a file or a text that is short enough, or a refusal that C can tell and that changes no byte.
use Rattle.std.specs.Prelude.{◌≡◌, refl, Bool, true, false, cond, List, [], ◌∷◌, ◌++◌, ℕ, zero, suc, ◌*◌, ◌≤◌, ◌<◌, leb, ltb, eqb, length, get_or, Ok, Err}
use Rattle.std.proofs.Common.{sym, ap, ◌∙◌, inr, arith, lit<, length-append, length-take-le, get_or-take}
use Rattle.values.specs.declared.Task.{Task}
use Rattle.values.specs.declared.Table.{Table}
use Rattle.model.specs.Values.{Line}
use Rattle.values.specs.declared.Entry.{Entry}
use Rattle.values.specs.declared.Refusal.{Refusal}
use Rattle.values.specs.declared.Contents.{Contents}
use Rattle.model.specs.Notation.{text}
use Rattle.model.specs.Limits.{task_limit, word_limit, budget_limit, longest_file, longest_text}
use Rattle.model.specs.Values.{refusal_said, writing_said, admission_said, Judgement, Admission}
use Rattle.model.specs.Tasks.{no_task, judged_mixed}
use Rattle.model.specs.TableFile.{file_of, judged_table, judged_form, form_of, file_read}
use Rattle.model.specs.Writer.{Filled, tasks_of, written_by, file_written, fill_told}
use Rattle.model.specs.PlainText.{same, numbers_fault, number, unless, budget_said, budget_line, task_in, button_in, task_line, line_of, after_line}
use Rattle.model.specs.PlainText.{read_lines, largest_budget, lines_of, content_of, words_of, text_form, form_written, task_text, task_texts}
use Rattle.model.specs.PlainText.{text_of, text_written, to_text}
use Rattle.model.specs.PlainText.{from_text_exported, to_text_exported}
use Rattle.wellformed.specs.Ranges.{InRange, Ranged, holds_all}
use Rattle.tablefile.specs.Refused.{AdmissionTellable, form_tellable}
use Rattle.tablefile.specs.Written.{read_written}
use Rattle.text.specs.Decimal.{wide}
use Rattle.writer.specs.Told.{Apart, table_apart, file_apart}
use Rattle.plaintext.specs.Texts.{task_line_bytes, task_short}

-- ---- Refusals of a text

-- A line that has no fault, or one above 0.
abbrev Faulty : Line → Type 0
Faulty (Ok Entry.Nothing) = Unit
Faulty (Ok (Entry.Budget b)) = Unit
Faulty (Ok (Entry.OneTask k)) = Unit
Faulty (Err f) = 0 < f

unless_faulty : (f : ℕ) (l : Line) → Faulty l → Faulty (unless f l)
unless_faulty zero l h = h
unless_faulty (suc f) l h = omega arith

either : (test : Bool) (x y : Line) → Faulty x → Faulty y → Faulty (cond test x y)
either true x y p q = p
either false x y p q = q

line_faulty : (given : Bool) (count : ℕ) (ws : List (List ℕ)) → Faulty (line_of given count ws)
unfolding line_of budget_line task_line
line_faulty given count [] = tt
line_faulty given count (w ∷ ws) =
    let budget = unless_faulty (numbers_fault budget_limit 1 ws) (budget_said (number ws 0)) (either (eqb (number ws 0) 0) _ _ (lit< tt) tt) in
    either (same w (text "budget")) _ _ (either given _ _ (lit< tt) (either (ltb 0 count) _ _ (lit< tt) budget))
    (either (same w (text "task")) _ _ (task 4 (task_in ws)) (either (same w (text "button")) _ _ (task 3 (button_in ws)) (lit< tt)))
  where
    task : (n : ℕ) (k : Task) → Faulty (task_line n k count ws)
    task n k = either (leb task_limit count) _ _ (lit< tt) (unless_faulty (numbers_fault word_limit n ws) (Ok (Entry.OneTask k)) tt)

-- What a line leads to is tellable if what follows it is.
after_tellable : (go : Bool → ℕ → List Task → Contents) (given : Bool) (b : ℕ) (ks : List Task) (n : ℕ) (l : Line) → Faulty l
    → ((g : Bool) (x : ℕ) (js : List Task) → AdmissionTellable (go g x js).admission) → AdmissionTellable (after_line go given b ks n l).admission
after_tellable go given b ks n (Ok Entry.Nothing) h next = next given b ks
after_tellable go given b ks n (Ok (Entry.Budget x)) h next = next true x ks
after_tellable go given b ks n (Ok (Entry.OneTask k)) h next = next given b (ks ++ (k ∷ []))
after_tellable go given b ks n (Err f) h next = (h, omega arith)

lines_tellable : (given : Bool) (b : ℕ) (ks : List Task) (n : ℕ) (ls : List (List ℕ)) → AdmissionTellable (read_lines given b ks n ls).admission
unfolding read_lines
lines_tellable given b ks n [] = tt
lines_tellable given b ks n (l ∷ ls) =
    after_tellable (λ g x js. read_lines g x js (suc n) ls) given b ks (suc n) (line_of given (length ks) (words_of (content_of l)))
    (line_faulty given (length ks) (words_of (content_of l)))
    (λ g x js. lines_tellable g x js (suc n) ls)

pub text_tellable : (s : List ℕ) → AdmissionTellable (text_form s).admission
unfolding text_form
text_tellable s = lines_tellable false largest_budget [] 0 (lines_of s)

-- ---- The length of a text

texts_short : (ks : List Task) → ((i : ℕ) → i < length ks → InRange (get_or ks i no_task)) → length (task_texts ks) ≤ length ks * task_line_bytes
unfolding task_texts
texts_short [] each = omega arith
texts_short (k ∷ ks) each =
    omega (arith, length-append (task_text k) (task_texts ks), task_short k (each 0 (omega arith)), texts_short ks (λ i l. each (suc i) (omega arith)))

-- The text of a table that keeps its ranges is no longer than the longest text.
pub text_short : (t : Table) (b : ℕ) → b < budget_limit → Ranged t → length (text_of b (tasks_of t)) ≤ longest_text
unfolding text
text_short t b limit r =
    let size : length (tasks_of t) ≡ t.count = length-take-le t.count t.tasks (holds_all t r) in
    let tasks = texts_short (tasks_of t) (λ i l. rw (get_or-take t.count t.tasks i no_task (omega arith)) (r.each i (omega arith))) in
    simp length-append (omega (arith, wide b (omega arith), r.few))

-- ---- The calls

-- The form comes first; what is written of a good one may use that it is good.
form_apart : (most : ℕ) (buffer bytes : List ℕ) (go : Filled) (a : Admission) → AdmissionTellable a
    → (a ≡ Ok tt → Apart most buffer bytes (fill_told go.buffer go.said))
    → let f = form_written buffer go a in Apart most buffer bytes (fill_told f.buffer f.said)
form_apart most buffer bytes go (Err r) n h = inr (r, refl, n)
form_apart most buffer bytes go (Ok u) n h = h refl

pub from_text_apart : (s buffer : List ℕ) → let l = text_form s in Apart longest_file buffer (file_of l.budget (tasks_of l.table)) (from_text_exported s buffer)
from_text_apart s buffer =
    let l = text_form s in
    form_apart longest_file buffer (file_of l.budget (tasks_of l.table)) (file_written l.table l.budget buffer) l.admission
    (text_tellable s) (λ good. file_apart buffer l.table l.budget)

pub to_text_apart : (file buffer : List ℕ) → ((i : ℕ) → get_or file i 0 < 256)
    → let l = form_of file in Apart longest_text buffer (text_of l.budget (tasks_of l.table)) (to_text_exported file buffer)
unfolding text_written
to_text_apart file buffer bytes =
    let l = form_of file in
    form_apart longest_text buffer (text_of l.budget (tasks_of l.table)) (text_written l.table l.budget buffer) l.admission (form_tellable file)
    (λ good. table_apart longest_text (lit< tt) buffer l.table l.budget (text_of l.budget (tasks_of l.table))
    (text_short l.table l.budget (read_written file bytes good).1))

-- A file that is refused when it is read is refused in the same way when its text is to be written.
pub refused_to_text : (file buffer : List ℕ) (r : Refusal) → (file_read file).admission ≡ Err r
    → let f = to_text file buffer in (writing_said f.said ≡ refusal_said r) × (f.buffer ≡ buffer)
unfolding file_read text_written
refused_to_text file buffer r = go (form_of file) (form_of file).admission refl
  where
    go : (l : Contents) (a : Admission) → l.admission ≡ a → (judged_form judged_mixed l a).admission ≡ Err r
        → let f = form_written buffer (text_written l.table l.budget buffer) a in (writing_said f.said ≡ refusal_said r) × (f.buffer ≡ buffer)
    go l (Err q) e h = (ap admission_said (sym e ∙ h), refl)
    go l (Ok u) e h = by_table (judged_mixed l.table) h
      where
        by_table : (j : Judgement) → (judged_table l j).admission ≡ Err r
            → let f = written_by l.budget (text_of l.budget (tasks_of l.table)) buffer j in (writing_said f.said ≡ refusal_said r) × (f.buffer ≡ buffer)
        by_table (Err q) h = (ap admission_said h, refl)
        by_table (Ok m) h = let z : ◌≡◌ {A = ℕ} 0 1 = cc in absurd (omega arith)
