-- A file where only periodic tasks are allowed: it is refused as it is at all, or its table is, by 11, or it is read as it is at all.
use Rattle.model.specs.Values.{Judgement, Admission}
use Rattle.std.specs.Prelude.{◌≡◌, refl, ◌⊎◌, List, ℕ, ◌≤◌, Ok, Err}
use Rattle.std.proofs.Common.{sym, ap, ◌∙◌, inl, inr}
use Rattle.values.specs.declared.Refusal.{Refusal}
use Rattle.values.specs.declared.Measure.{Measure}
use Rattle.values.specs.declared.Contents.{Contents}
use Rattle.model.specs.Limits.{task_limit}
use Rattle.model.specs.Tasks.{judged_mixed, judged}
use Rattle.model.specs.TableFile.{judged_form, form_of, file_read, periodic_from}
use Rattle.wellformed.specs.WellFormed.{periodic_iff, refused_both}
use Rattle.wellformed.specs.Refused.{judged_tellable}
use Rattle.tablefile.specs.Admitted.{few_tasks, periodic_admitted, periodic_for}
use Rattle.tablefile.specs.Refused.{AdmissionTellable, form_tellable}

-- A file of good form and a well-formed table is read as its form has it.
read_formed : (file : List ℕ) (m : Measure) → (form_of file).admission ≡ Ok tt → judged_mixed (form_of file).table ≡ Ok m
    → file_read file ≡ form_of file
unfolding file_read
read_formed file m good well = rw (good, well)

pub periodic_read : (file : List ℕ) → (periodic_from file).admission ≡ Ok tt
    → ((file_read file).admission ≡ Ok tt) × (periodic_from file ≡ file_read file)
    × ((m : Measure) × (judged (file_read file).table ≡ Ok m))
periodic_read file h =
    let (same, (m, well)) = periodic_admitted file h in
    let good : (form_of file).admission ≡ (Ok tt) = ap (λ (l : Contents). l.admission) (sym same) ∙ h in
    let read = read_formed file m good ((periodic_iff (form_of file).table m).0 well).0 in
    (ap (λ (l : Contents). l.admission) read ∙ good, same ∙ sym read, (m, rw read well))

pub well_periodic : (file : List ℕ) → (periodic_from file).admission ≡ Ok tt → (m : Measure)
    × (judged (periodic_from file).table ≡ Ok m)
well_periodic file h = let (same, well) = periodic_admitted file h in rw same well

pub periodic_refused : (file : List ℕ) (r : Refusal) → (periodic_from file).admission ≡ Err r
    → ((file_read file).admission ≡ Err r)
    ⊎ (((file_read file).admission ≡ Ok tt) × (judged (file_read file).table ≡ Err r))
unfolding file_read
periodic_refused file r h =
    elim (periodic_for file r h) [
      | inl f ↦ inl (ap (λ (a : Admission). (judged_form judged_mixed (form_of file) a).admission) f ∙ f)
      | inr (f, j) ↦ table (judged_mixed (form_of file).table) refl f j
    ]
  where
    table : (k : Judgement) → judged_mixed (form_of file).table ≡ k → (form_of file).admission ≡ Ok tt
        → judged (form_of file).table ≡ Err r
        → ((file_read file).admission ≡ Err r)
        ⊎ (((file_read file).admission ≡ Ok tt) × (judged (file_read file).table ≡ Err r))
    table (Err w) e good j =
        let both = sym (refused_both (form_of file).table w e) ∙ j in
        let same : w ≡ r = cc in
        inl (rw (good, e, same))
    table (Ok m) e good j = inr (rw (good, e) (refl, j))

pub few_periodic : (file : List ℕ) {l : Contents} → l ≡ periodic_from file → l.admission ≡ Ok tt → l.table.count ≤ task_limit
few_periodic file same h = let (read, e, well) = periodic_read file (rw (← same) h) in rw (same, e) (few_tasks file {l = file_read file} refl read)

-- Its refusal has a number above 0 and a place below 65,536 too.
pub periodic_tellable : (file : List ℕ) → AdmissionTellable (periodic_from file).admission
periodic_tellable file = go (periodic_from file).admission refl
  where
    go : (a : Admission) → (periodic_from file).admission ≡ a → AdmissionTellable a
    go (Ok u) e = tt
    go (Err r) e =
        elim (periodic_for file r e) [ inl f ↦ rw f at (form_tellable file) | inr (f, j) ↦ rw j at (judged_tellable (form_of file).table) ]
