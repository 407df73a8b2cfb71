-- A CHECK REPORTS OR REFUSES (`reported_or_refused`):
-- what the exported check returns and leaves is that of the report on the permitted answer,
-- or of a refusal that changes no byte; and of a file that is read and has no button it is the report's (`reported`).
use Rattle.std.specs.Prelude.{◌≡◌, refl, List, Bool, true, false, cond, ℕ, ◌≤◌, ltb, length, Ok, Err}
use Rattle.std.proofs.Common.{ap, subst, ◌∙◌, inl, inr, arith, ltb-true}
use Rattle.values.specs.declared.Measure.{Measure}
use Rattle.values.specs.declared.Verdict.{Verdict}
use Rattle.values.specs.declared.Answer.{Answer}
use Rattle.values.specs.declared.Contents.{Contents}
use Rattle.model.specs.Limits.{report_bytes}
use Rattle.model.specs.Values.{refusal, Outcome, Admission}
use Rattle.model.specs.Tasks.{judged}
use Rattle.model.specs.Verdict.{verdict, Permitted}
use Rattle.model.specs.Patterns.{quick_pass}
use Rattle.model.specs.TableFile.{file_read, periodic_from}
use Rattle.model.specs.Report.{report_of, Exported, refused, written, outcome_told, FileTold, report_written, Checked}
use Rattle.backlog.specs.AnswersSay.{answers_say}
use Rattle.tablefile.specs.Periodic.{periodic_read}
use Rattle.tablefile.specs.Refused.{AdmissionTellable, read_tellable}
use Rattle.report.specs.Permitted.{Fitting}
use Rattle.report.proofs.Permitted.{permitted_fits}
use Rattle.statebuffer.specs.Told.{Apart}

-- Whether a buffer that must have this many bytes and a file are taken: the buffer is looked at first.
abbrev pub taken : ℕ → List ℕ → List ℕ → Admission
taken bytes file buffer =
    cond (ltb (length buffer) bytes) (Err (refusal 30 (length buffer))) (file_read file).admission

-- The report on an answer to a file's table.
abbrev pub report_on : Contents → Answer → Verdict → List ℕ
report_on l a v = report_of l.table.count (quick_pass l.table) a v

-- What is returned and left is that of the report on the permitted answer.
abbrev pub Reported : Contents → List ℕ → Exported → Type 0
Reported l buffer e =
    (a : Answer) × (v : Verdict) × Permitted l.table l.budget a × (a.outcome ≡ Ok v)
    × (e ≡ written (report_on l a v) buffer) × (length (report_on l a v) ≤ report_bytes)

module _ (buffer : List ℕ) (l : Contents) where
  -- What an outcome is told as.
  abbrev told : Answer → Outcome → Exported
  told = outcome_told (λ r. refused r buffer) (report_written buffer) l.table.count (quick_pass l.table)

  abbrev Fits : Answer → Outcome → Type 0
  Fits = Fitting l.table.count (quick_pass l.table)

  fits : (a : Answer) → Permitted l.table l.budget a → Fits a a.outcome
  fits = permitted_fits l.table l.budget (quick_pass l.table)

  outcome_apart : (a : Answer) → Permitted l.table l.budget a → (o : Outcome) → a.outcome ≡ o → Fits a o
      → Apart (Reported l buffer) buffer (told a o)
  outcome_apart a p (Err r) q h = inr (r, refl, h)
  outcome_apart a p (Ok v) q h = inl (a, v, p, q, refl, h)

  told_apart : (e : Exported) (a : Admission) → AdmissionTellable a
      → FileTold (λ r. refused r buffer) (report_written buffer) l e a → Apart (Reported l buffer) buffer e
  told_apart e (Err r) h q = inr (r, q, h)
  told_apart e (Ok u) h (a, p, q) = rw q (outcome_apart a p a.outcome refl (fits a p))

  -- The answer to a well-formed table is a tested one, and so a report is told.
  pub tested : (m : Measure) → judged l.table ≡ Ok m → (a : Answer)
      → Permitted l.table l.budget a
      → a.outcome ≡ Ok (verdict l.table l.budget)
  unfolding Permitted
  tested m well a p = (answers_say l.table l.budget m a (verdict l.table l.budget) (rw well at p)).0

  told_reported : (m : Measure)
      → judged l.table ≡ Ok m → (e : Exported) (a : Admission) → a ≡ Ok tt
      → FileTold (λ r. refused r buffer) (report_written buffer) l e a → Reported l buffer e
  told_reported m well e (Err r) q h = let z : ◌≡◌ {A = ℕ} 0 1 = cc in absurd (omega arith)
  told_reported m well e (Ok u) q (a, p, h) =
      let o = tested m well a p in
      (a, verdict l.table l.budget, p, o, h ∙ ap (told a) o, subst (Fits a) o (fits a p))

pub taken_tellable : (bytes : ℕ) (file buffer : List ℕ) → bytes ≤ 65536 → AdmissionTellable (taken bytes file buffer)
taken_tellable bytes file buffer small = go (ltb (length buffer) bytes) refl
  where
    go : (short : Bool) → ltb (length buffer) bytes ≡ short
        → AdmissionTellable (cond short (Err (refusal 30 (length buffer))) (file_read file).admission)
    go true q = (omega arith, omega (arith, ltb-true (length buffer) bytes q))
    go false q = read_tellable file

pub reported_or_refused : (file buffer : List ℕ) (e : Exported)
    → Checked file buffer e → Apart (Reported (file_read file) buffer) buffer e
reported_or_refused file buffer e = told_apart buffer (file_read file) e (taken report_bytes file buffer)
    (taken_tellable report_bytes file buffer (omega arith))

pub reported : (file buffer : List ℕ) (e : Exported) → ltb (length buffer) report_bytes ≡ false
    → (periodic_from file).admission ≡ Ok tt → Checked file buffer e → Reported (file_read file) buffer e
reported file buffer e long good =
    let (read, same, (m, well)) = periodic_read file good in
    told_reported buffer (file_read file) m well e (taken report_bytes file buffer) (rw long read)
