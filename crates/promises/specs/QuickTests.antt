-- THE QUICK TEST (section 3.7 of the specification): pass is said only of tables that the exact test passes.
use Rattle.values.specs.declared.Quick.{Quick}
use Rattle.std.specs.Prelude.{◌≡◌, refl, ◌⊎◌, ◌↔◌, List, [], ◌∷◌, cond, ℕ, ◌≤◌, ◌<◌, T, Ok, Err}
use Rattle.std.proofs.Common.{sym, ◌∙◌, inl, inr, arith}
use Rattle.values.specs.declared.Table.{Table}
use Rattle.values.specs.declared.Refusal.{Refusal}
use Rattle.values.specs.declared.Measure.{Measure}
use Rattle.values.specs.declared.Verdict.{Verdict}
use Rattle.model.specs.Limits.{slot_limit}
use Rattle.model.specs.Values.{refusal_said, quick_said}
use Rattle.model.specs.Tasks.{round, load, horizon, judged}
use Rattle.model.specs.Schedule.{Schedule, Good}
use Rattle.model.specs.Verdict.{verdict}
use Rattle.model.specs.TableFile.{file_read, periodic_from}
use Rattle.model.specs.Patterns.{starting_at, simultaneous, quick_pass, quick_answer}
use Rattle.model.specs.Report.{refusal_number, quick_number, quick_exported}
use Rattle.counting.specs.Count.{is_true, is_false}
use Rattle.wellformed.specs.WellFormed.{well_formed}
use Rattle.patterns.specs.Starting.{starting_ranged}
use Rattle.patterns.specs.Quick.{quick_case, quick_light, quick_passes, quick_same, quick_iff}
use Rattle.tablefile.specs.Periodic.{periodic_read}
use Rattle.telling.specs.Quick.{quick_refuses, quick_either, quick_words, quick_low, quick_one}
use Rattle.promises.specs.FileNumbers.{Apart, read_file, refused_periodic, periodic_apart}

-- A refused table is refused by its number and place; of any other 0 is said, with 1 for pass and with 0 for no answer.
pub refused_quick : (t : Table) (r : Refusal) → judged t ≡ Err r
    → quick_said (quick_answer t) ≡ refusal_said r
unfolding quick_answer
refused_quick t r e = rw e refl

pub quick_said_lem : (t : Table) (m : Measure) → judged t ≡ Ok m
    → quick_said (quick_answer t) ≡ cond (quick_pass t) (0 ∷ 1 ∷ []) (0 ∷ 0 ∷ [])
quick_said_lem = quick_words

-- Quick pass means that the exact test passes the table, with every budget that reaches the horizon.
pub quick_means_passes : (t : Table) → quick_answer t ≡ Ok Quick.Pass → (budget : ℕ) → horizon t ≤ budget
    → verdict t budget ≡ Verdict.Passes
unfolding quick_answer
quick_means_passes t e =
    let ((m, well), p) = quick_case t (judged t) e in quick_passes t (well_formed t m well).ranged p

-- So does `quick_pass`, by which the line of a report is told (`quick_word`).
pub quick_word_means : (t : Table) (m : Measure) → judged t ≡ Ok m
    → T (quick_pass t) → (budget : ℕ) → horizon t ≤ budget → verdict t budget ≡ Verdict.Passes
quick_word_means t m well = quick_passes t (well_formed t m well).ranged

-- Offsets do not matter to it: with any others, each in its range, the table passes too.
pub quick_any_offsets : (t : Table) → quick_answer t ≡ Ok Quick.Pass → (start : ℕ → ℕ)
    → ((i : ℕ) → i < t.count → start i ≤ slot_limit)
    → let s = starting_at t start in (budget : ℕ) → horizon s ≤ budget → verdict s budget ≡ Verdict.Passes
unfolding quick_answer
quick_any_offsets t e start low =
    let ((m, well), p) = quick_case t (judged t) e in
    let r = (well_formed t m well).ranged in
    quick_passes (starting_at t start) (starting_ranged t r start low) (rw (quick_same t r start) p)

-- On overload there is no answer.
pub quick_overload : (t : Table) (m : Measure)
    → judged t ≡ Ok m → round t < load t → quick_answer t ≡ Ok Quick.NoAnswer
unfolding quick_answer
quick_overload t m well h = rw (well, is_false (quick_pass t) (λ p. absurd (omega (arith, quick_light t p)))) refl

-- Exactly: it is said if the table with all offsets 0 has a good schedule, and then only.
-- Else there is no answer: late is never said.
pub quick_exactly : (t : Table) (m : Measure) → judged t ≡ Ok m
    → ((quick_answer t ≡ Ok Quick.Pass) ↔ ((σ : Schedule) × Good (simultaneous t) σ))
    × ((quick_answer t ≡ Ok Quick.Pass) ⊎ (quick_answer t ≡ Ok Quick.NoAnswer))
unfolding quick_answer
quick_exactly t m well =
    let exact = quick_iff t (well_formed t m well).ranged in (
      (λ e. exact.0 (quick_case t (judged t) e).1, λ h. rw (well, is_true (quick_pass t) (exact.1 h)) refl),
      quick_either t m well,
    )

-- A file that is refused, as it is by reading it or by 11 for a button, is refused so,
-- and any other gives its table's answer: 1 for pass, 0 for none.
pub refused_quick_file : (file : List ℕ) (r : Refusal)
    → (periodic_from file).admission ≡ Err r → quick_exported file ≡ refusal_number r
refused_quick_file file = refused_periodic file (λ t. quick_number (quick_answer t)) quick_refuses

pub read_quick_file : (file : List ℕ) → (file_read file).admission ≡ Ok tt
    → quick_exported file ≡ quick_number (quick_answer (file_read file).table)
read_quick_file file = read_file file (λ t. quick_number (quick_answer t))

-- So exactly the numbers from 65,536 on are refusals, and any other is 0 or 1.
pub quick_file_apart : (file : List ℕ) → Apart (periodic_from file).admission 1 (quick_exported file)
quick_file_apart file = periodic_apart file (λ t. quick_number (quick_answer t)) quick_refuses 1 quick_low

pub quick_file_means : (file : List ℕ) → quick_exported file ≡ 1 → (budget : ℕ) → horizon (file_read file).table ≤ budget
    → verdict (file_read file).table budget ≡ Verdict.Passes
quick_file_means file e = elim (quick_file_apart file) [
  | inr (r, h, q, (a, b)) ↦ absurd (omega arith)
  | inl (h, l) ↦
      let (read, same, (m, well)) = periodic_read file h in
      quick_means_passes (file_read file).table
      (quick_one (file_read file).table m well (sym (read_quick_file file read) ∙ e))
]
