-- What a read file tells of its form and its table: an admitted one is as its form has it, with a well-formed table of at most `task_limit`
-- tasks; a refused one is refused for its form or, if that is good, for its table. So too where only periodic tasks are allowed.
use Rattle.model.specs.Values.{Judgement, Admission}
use Rattle.std.specs.Prelude.{◌≡◌, refl, ◌⊎◌, List, ℕ, ◌≤◌, Ok, Err}
use Rattle.std.proofs.Common.{ap, ◌∙◌, inl, inr, arith}
use Rattle.values.specs.declared.Table.{Table}
use Rattle.values.specs.declared.Refusal.{Refusal}
use Rattle.values.specs.declared.Measure.{Measure}
use Rattle.values.specs.declared.Contents.{Contents}
use Rattle.model.specs.Limits.{task_limit}
use Rattle.model.specs.Tasks.{judged_mixed, judged}
use Rattle.model.specs.TableFile.{judged_table, judged_form, form_of, file_read, periodic_from}
use Rattle.wellformed.specs.WellFormed.{well_mixed}

module _ (judge : Table → Judgement) where
  admitted_table : (l : Contents) (j : Judgement) → judge l.table ≡ j → (judged_table l j).admission ≡ Ok tt → (judged_table l j ≡ l)
      × ((m : Measure) × (judge l.table ≡ Ok m))
  admitted_table l (Err r) e h = let z : ◌≡◌ {A = ℕ} 0 1 = cc in absurd (omega arith)
  admitted_table l (Ok m) e h = (refl, (m, e))

  admitted_form : (l : Contents) (a : Admission) → l.admission ≡ a → (judged_form judge l a).admission ≡ Ok tt
      → (judged_form judge l a ≡ l) × ((m : Measure) × (judge l.table ≡ Ok m))
  admitted_form l (Err r) e h = let z : ◌≡◌ {A = ℕ} 0 1 = cc in absurd (omega arith)
  admitted_form l (Ok u) e h = admitted_table l (judge l.table) refl h

  refused_table : (l : Contents) (r : Refusal) (j : Judgement) → judge l.table ≡ j → l.admission ≡ Ok tt
      → (judged_table l j).admission ≡ Err r → judge l.table ≡ Err r
  refused_table l r (Err w) e f h = let s : w ≡ r = cc in e ∙ ap Err s
  refused_table l r (Ok m) e f h = let z : ◌≡◌ {A = ℕ} 0 1 = cc in absurd (omega arith)

  refused_form : (l : Contents) (r : Refusal) (a : Admission) → l.admission ≡ a → (judged_form judge l a).admission ≡ Err r
      → (l.admission ≡ Err r) ⊎ ((l.admission ≡ Ok tt) × (judge l.table ≡ Err r))
  refused_form l r (Err w) e h = inl h
  refused_form l r (Ok u) e h = inr (e, refused_table l r (judge l.table) refl e h)

pub admitted : (file : List ℕ) → (file_read file).admission ≡ Ok tt → (file_read file ≡ form_of file)
    × ((m : Measure) × (judged_mixed (form_of file).table ≡ Ok m))
unfolding file_read
admitted file = admitted_form judged_mixed (form_of file) (form_of file).admission refl

pub well_table : (file : List ℕ) {l : Contents} → l ≡ file_read file → l.admission ≡ Ok tt → (m : Measure)
    × (judged_mixed l.table ≡ Ok m)
well_table file same h = let (e, well) = admitted file (rw (← same) h) in rw (same, e) well

pub few_tasks : (file : List ℕ) {l : Contents} → l ≡ file_read file → l.admission ≡ Ok tt → l.table.count ≤ task_limit
few_tasks file same h = let (m, well) = well_table file same h in (well_mixed _ m well).ranged.few

pub refused_for : (file : List ℕ) (r : Refusal) → (file_read file).admission ≡ Err r → ((form_of file).admission ≡ Err r)
    ⊎ (((form_of file).admission ≡ Ok tt) × (judged_mixed (form_of file).table ≡ Err r))
unfolding file_read
refused_for file r = refused_form judged_mixed (form_of file) r (form_of file).admission refl

-- Where only periodic tasks are allowed.
pub periodic_admitted : (file : List ℕ) → (periodic_from file).admission ≡ Ok tt → (periodic_from file ≡ form_of file)
    × ((m : Measure) × (judged (form_of file).table ≡ Ok m))
unfolding periodic_from
periodic_admitted file = admitted_form judged (form_of file) (form_of file).admission refl

pub periodic_for : (file : List ℕ) (r : Refusal) → (periodic_from file).admission ≡ Err r → ((form_of file).admission ≡ Err r)
    ⊎ (((form_of file).admission ≡ Ok tt) × (judged (form_of file).table ≡ Err r))
unfolding periodic_from
periodic_for file r = refused_form judged (form_of file) r (form_of file).admission refl
