-- What may be told of a file, by its form and the judgement of its table alone.
use Rattle.model.specs.Values.{Judgement, Admission}
use Rattle.std.specs.Prelude.{◌≡◌, Bool, List, ℕ, Ok, Err}
use Rattle.std.proofs.Math.Path.{refl, sym, ap, subst}
use Rattle.std.proofs.Common.{◌∙◌}
use Rattle.values.specs.declared.Table.{Table}
use Rattle.values.specs.declared.Refusal.{Refusal}
use Rattle.values.specs.declared.Verdict.{Verdict}
use Rattle.values.specs.declared.Answer.{Answer}
use Rattle.model.specs.Tasks.{judged_mixed, judged}
use Rattle.model.specs.Patterns.{quick_pass}
use Rattle.model.specs.Verdict.{brief, Permitted}
use Rattle.model.specs.TableFile.{judged_table, judged_form, form_of, file_read}
use Rattle.model.specs.Report.{outcome_told, FileTold}
use Rattle.wellformed.specs.WellFormed.{refused_both}

-- A table's refusal, or the outcome of the permitted answer.
abbrev pub TableTold : {A : Type 0} → (Refusal → A) → (ℕ → Bool → Answer → Verdict → A) → Table → ℕ → A → Judgement → Type 0
TableTold refuse tell t budget x (Err r) = x ≡ refuse r
TableTold refuse tell t budget x (Ok m) =
    (a : Answer) × Permitted t budget a × (x ≡ outcome_told refuse tell t.count (quick_pass t) a a.outcome)

module _ {A : Type 0} (refuse : Refusal → A) (tell : ℕ → Bool → Answer → Verdict → A) (file : List ℕ) where
  abbrev t : Table
  t = (form_of file).table

  read_is : (form_of file).admission ≡ Ok tt → file_read file ≡ judged_table (form_of file) (judged_mixed t)
  unfolding file_read
  read_is e = ap (λ (a : Admission). judged_form judged_mixed (form_of file) a) e

  pub form_refused : (r : Refusal) → (form_of file).admission ≡ Err r → FileTold refuse tell (file_read file) (refuse r)
      (file_read file).admission
  unfolding file_read
  form_refused r e = rw e refl

  pub table_told : (x : A) → (form_of file).admission ≡ Ok tt → TableTold refuse tell (form_of file).table (form_of file).budget x
      (judged (form_of file).table)
      → FileTold refuse tell (file_read file) x (file_read file).admission
  unfolding Permitted
  table_told x e h = rw (read_is e) (go (judged_mixed t) refl (judged t) refl h)
    where
      go : (j : Judgement) → judged_mixed t ≡ j → (k : Judgement) → judged t ≡ k → TableTold refuse tell t (form_of file).budget x k
          → FileTold refuse tell (judged_table (form_of file) j) x (judged_table (form_of file) j).admission
      go (Err r) w k v told = let same : k ≡ Err r = sym v ∙ refused_both t r w in rw same at told
      go (Ok m) w (Err r) v told =
          let answer : Answer = brief (Err r) (record { round = 0; load = 0; horizon = 0 }) 0 in
          subst (FileTold refuse tell (form_of file) x) (sym e) (answer, rw v refl, told)
      go (Ok m) w (Ok k) v told = subst (FileTold refuse tell (form_of file) x) (sym e) told
