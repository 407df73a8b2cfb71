-- AN ANSWER AS NUMBERS (`same_answer`): the exported call that gives numbers and the one that writes a report say the same of a
-- file; it gives numbers or refuses (`numbered_or_refused`); the numbers of a permitted answer fit their bytes (`numbers_fit`)
-- and are read back from them (`numbers_read`).
use Rattle.model.specs.Values.{Outcome, Admission}
use Rattle.std.proofs.Math.Path.{◌≡◌, refl, ap}
use Rattle.std.proofs.Common.{sym, subst, ◌∙◌, arith, le-ltb}
use Rattle.std.specs.Prelude.{◌↔◌, ◌⊎◌, List, ◌++◌, Bool, true, false, cond, ℕ, ◌≤◌, ◌<◌, ltb, length, get_or, drop, replicate, Ok, Err}
use Rattle.std.proofs.Math.Logic.{inl, inr}
use Rattle.std.proofs.Math.Decide.{dec_lt}
use Rattle.std.proofs.lemmas.List.{length-replicate, get_or-replicate}
use Rattle.values.specs.declared.Refusal.{Refusal}
use Rattle.values.specs.declared.Table.{Table}
use Rattle.values.specs.declared.Measure.{Measure}
use Rattle.values.specs.declared.Verdict.{Verdict}
use Rattle.values.specs.declared.Answer.{Answer}
use Rattle.values.specs.declared.AnswerNumbers.{AnswerNumbers}
use Rattle.values.specs.declared.Contents.{Contents}
use Rattle.model.specs.Limits.{task_limit, word_limit, budget_limit, report_bytes}
use Rattle.model.specs.Tasks.{judged}
use Rattle.model.specs.Verdict.{verdict, Permitted}
use Rattle.model.specs.Patterns.{quick_pass}
use Rattle.model.specs.TableFile.{file_read, periodic_from}
use Rattle.model.specs.Report.{Exported, refused, outcome_told, FileTold, report_written, Checked}
use Rattle.model.specs.AnswerBuffer.{answer_bytes, numbers_by, numbers_of, answer_buffer, numbers_in, numbers_written, Answered}
use Rattle.backlog.proofs.Unique.{permitted_unique}
use Rattle.report.specs.Fits.{Wide, Printable}
use Rattle.report.specs.Permitted.{permitted_printable, Fitting}
use Rattle.report.proofs.Permitted.{permitted_fits}
use Rattle.tablefile.specs.Periodic.{periodic_read}
use Rattle.tablefile.specs.Refused.{AdmissionTellable}
use Rattle.statebuffer.specs.Told.{Apart}
use Rattle.answerbuffer.specs.RoundTrip.{NumbersFit, numbers_back}
use Rattle.telling.specs.Passed.{passing}
use Rattle.telling.specs.Reported.{taken, taken_tellable, tested}

-- ---- One answer, told twice

-- Both calls refuse alike and change nothing, or tell one answer, as a report and as numbers.
abbrev pub SameAnswer : Contents → List ℕ → List ℕ → Exported → Exported → Type 0
SameAnswer l report buffer e f =
    ((r : Refusal) × (e ≡ refused r report) × (f ≡ refused r buffer))
    ⊎ ((a : Answer) × (v : Verdict) × Permitted l.table l.budget a × (a.outcome ≡ Ok v)
    × (e ≡ report_written report l.table.count (quick_pass l.table) a v)
    × (f ≡ numbers_written buffer l.table.count (quick_pass l.table) a v))

module _ (l : Contents) (report buffer : List ℕ) where
  -- What each call tells of an answer.
  abbrev told : Answer → Outcome → Exported
  told = outcome_told (λ r. refused r report) (report_written report) l.table.count (quick_pass l.table)

  abbrev numbers_told : Answer → Outcome → Exported
  numbers_told = outcome_told (λ r. refused r buffer) (numbers_written buffer) l.table.count (quick_pass l.table)

  by_outcome : (a : Answer) → Permitted l.table l.budget a → (o : Outcome) → a.outcome ≡ o
      → SameAnswer l report buffer (told a o) (numbers_told a o)
  by_outcome a p (Err r) q = inl (r, refl, refl)
  by_outcome a p (Ok v) q = inr (a, v, p, q, refl, refl)

  told_both : (e f : Exported) (x : Admission) → FileTold (λ r. refused r report) (report_written report) l e x
      → FileTold (λ r. refused r buffer) (numbers_written buffer) l f x → SameAnswer l report buffer e f
  told_both e f (Err r) p q = inl (r, p, q)
  told_both e f (Ok u) (a, p, d) (b, q, g) =
      let one : b ≡ a = permitted_unique l.table l.budget b a q p in
      let h = subst (λ (c : Answer). f ≡ numbers_told c c.outcome) one g in
      rw (d, h) (by_outcome a p a.outcome refl)

pub same_answer : (file report buffer : List ℕ) (e f : Exported) → report_bytes ≤ length report → answer_bytes ≤ length buffer
    → Checked file report e → Answered file buffer f → SameAnswer (file_read file) report buffer e f
same_answer file report buffer e f room space checked answered =
    told_both (file_read file) report buffer e f (file_read file).admission
    (rw (le-ltb (length report) report_bytes room) at checked)
    (rw (le-ltb (length buffer) answer_bytes space) at answered)

-- ---- Numbers or a refusal

-- What is returned and left is that of the numbers of the permitted answer.
abbrev pub Numbered : Contents → List ℕ → Exported → Type 0
Numbered l buffer e =
    (a : Answer) × (v : Verdict) × Permitted l.table l.budget a × (a.outcome ≡ Ok v)
    × (e ≡ numbers_written buffer l.table.count (quick_pass l.table) a v)

module _ (buffer : List ℕ) (l : Contents) where
  numbers_by_lem : Answer → Outcome → Exported
  numbers_by_lem = outcome_told (λ r. refused r buffer) (numbers_written buffer) l.table.count (quick_pass l.table)

  outcome_apart : (a : Answer) → Permitted l.table l.budget a → (o : Outcome) → a.outcome ≡ o
      → Fitting l.table.count (quick_pass l.table) a o → Apart (Numbered l buffer) buffer (numbers_by_lem a o)
  unfolding numbers_by_lem
  outcome_apart a p (Err r) q h = inr (r, refl, h)
  outcome_apart a p (Ok v) q h = inl (a, v, p, q, refl)

  told_apart : (e : Exported) (x : Admission) → AdmissionTellable x → FileTold (λ r. refused r buffer) (numbers_written buffer) l e x
      → Apart (Numbered l buffer) buffer e
  unfolding numbers_by_lem
  told_apart e (Err r) h q = inr (r, q, h)
  told_apart e (Ok u) h (a, p, q) =
      rw q (outcome_apart a p a.outcome refl (permitted_fits l.table l.budget (quick_pass l.table) a p))

  told_numbered : (m : Measure) → judged l.table ≡ Ok m → (e : Exported) (x : Admission) → x ≡ Ok tt
      → FileTold (λ r. refused r buffer) (numbers_written buffer) l e x → Numbered l buffer e
  unfolding numbers_by_lem
  told_numbered m well e (Err r) q h = let z : ◌≡◌ {A = ℕ} 0 1 = cc in absurd (omega arith)
  told_numbered m well e (Ok u) q (a, p, h) =
      let o = tested buffer l m well a p in (a, verdict l.table l.budget, p, o, h ∙ ap (numbers_by_lem a) o)

pub numbered_or_refused : (file buffer : List ℕ) (e : Exported) → Answered file buffer e → Apart (Numbered (file_read file) buffer) buffer e
numbered_or_refused file buffer e =
    told_apart buffer (file_read file) e (taken answer_bytes file buffer) (taken_tellable answer_bytes file buffer (omega arith))

-- Of a file that is read and has no button it is the numbers'.
pub numbered : (file buffer : List ℕ) (e : Exported) → ltb (length buffer) answer_bytes ≡ false
    → (periodic_from file).admission ≡ Ok tt → Answered file buffer e → Numbered (file_read file) buffer e
numbered file buffer e long good =
    let (read, same, (m, well)) = periodic_read file good in
    told_numbered buffer (file_read file) m well e (taken answer_bytes file buffer) (rw long read)

-- ---- The numbers fit

as_number : (quick : Bool) → cond quick 1 0 < word_limit
as_number true = omega arith
as_number false = omega arith

module _ (n : ℕ) (quick : Bool) (a : Answer) where
  fit_by : (v : Verdict) → Printable n a v → (verdict idle from to demand : ℕ) (worst : List ℕ) → verdict < word_limit
      → Wide idle → Wide from → Wide to → Wide demand → length worst ≡ task_limit
      → ((i : ℕ) → i < task_limit → get_or worst i 0 < word_limit) → NumbersFit (numbers_by n quick a verdict idle from to demand worst)
  fit_by v p verdict idle from to demand worst code i f t d size each = record {
    round = omega (arith, p.round);
    load = omega (arith, p.load);
    horizon = omega (arith, p.horizon);
    settled = omega (arith, p.settled);
    idle = omega arith;
    from = omega arith;
    to = omega arith;
    demand = omega arith;
    tasks = omega (arith, p.tasks);
    quick = as_number quick;
    verdict = code;
    worsts = size;
    worst = each;
  }

  none : (i : ℕ) → i < task_limit → get_or (replicate task_limit 0) i 0 < word_limit
  none i l = rw (get_or-replicate {A = ℕ} task_limit i 0 0 l) (omega arith)

  brief_fit : (v : Verdict) → Printable n a v → (verdict from to demand : ℕ) → verdict < word_limit → Wide from → Wide to → Wide demand
      → NumbersFit (numbers_by n quick a verdict 0 from to demand (replicate task_limit 0))
  brief_fit v p verdict from to demand code f t d =
      fit_by v p verdict 0 from to demand (replicate task_limit 0) code (omega arith) f t d (length-replicate {A = ℕ} task_limit 0) none

pub numbers_fit : (t : Table) (budget : ℕ) (quick : Bool) (a : Answer) (v : Verdict) → a.outcome ≡ Ok v
    → Permitted t budget a → NumbersFit (numbers_of t.count quick a v)
numbers_fit t budget quick a v o p = go v o (permitted_printable t budget a v o p)
  where
    go : (v : Verdict) → a.outcome ≡ Ok v → Printable t.count a v → NumbersFit (numbers_of t.count quick a v)
    go Verdict.Overload o h = brief_fit t.count quick a Verdict.Overload h 1 0 0 0 (omega arith) (omega arith) (omega arith) (omega arith)
    go Verdict.Undecided o h = brief_fit t.count quick a Verdict.Undecided h 2 0 0 0 (omega arith) (omega arith) (omega arith) (omega arith)
    go (Verdict.Late from to asked) o h =
        let (f, k, d) = h.verdict in brief_fit t.count quick a (Verdict.Late from to asked) h 3 from to asked (omega arith) f k d
    go Verdict.Passes o h =
        let (_, worst, _) = passing t budget a o p in
        fit_by t.count quick a Verdict.Passes h 4 a.idle 0 0 0 a.worst (omega arith) h.idle (omega arith) (omega arith) (omega arith)
        worst.size (λ i l. elim (dec_lt i t.count) [
          | yes k ↦ omega (arith, h.worst i k)
          | no k ↦ omega (arith, worst.past i (omega arith))
        ])

-- What a host decodes from the buffer are the numbers of the answer.
pub numbers_read : (t : Table) (budget : ℕ) (quick : Bool) (a : Answer) (v : Verdict) → a.outcome ≡ Ok v
    → Permitted t budget a → (buffer : List ℕ) (f : Exported) → f ≡ numbers_written buffer t.count quick a v
    → numbers_in f.buffer ≡ numbers_of t.count quick a v
numbers_read t budget quick a v o p buffer f h =
    ap (λ (e : Exported). numbers_in e.buffer) h
    ∙ numbers_back (numbers_of t.count quick a v) (drop answer_bytes buffer) (numbers_fit t budget quick a v o p)

-- The verdict is 4 exactly if it is that the table passes.
pub four_exactly : (n : ℕ) (quick : Bool) (a : Answer) (v : Verdict) → ((numbers_of n quick a v).verdict ≡ 4) ↔ (v ≡ Verdict.Passes)
four_exactly n quick a Verdict.Passes = (λ e. refl, λ e. refl)
four_exactly n quick a Verdict.Overload = (λ e. absurd (omega arith), λ e. let z : ◌≡◌ {A = ℕ} 0 1 = cc in absurd (omega arith))
four_exactly n quick a (Verdict.Late from to asked) = (λ e. absurd (omega arith), λ e. let z : ◌≡◌ {A = ℕ} 0 1 = cc in absurd (omega arith))
four_exactly n quick a Verdict.Undecided = (λ e. absurd (omega arith), λ e. let z : ◌≡◌ {A = ℕ} 0 1 = cc in absurd (omega arith))
