-- What a check finds of a file, and that whatever is told of this is told of the file.
use Rattle.model.specs.Values.{Judgement, Outcome, Admission}
use Rattle.std.specs.Prelude.{◌≡◌, Bool, List, ℕ, Ok, Err}
use Rattle.std.proofs.Math.Path.{refl, sym, ap}
use Rattle.std.proofs.Common.{◌∙◌}
use Rattle.values.specs.declared.Answer.{Answer}
use Rattle.values.specs.declared.Contents.{Contents}
use Rattle.values.specs.declared.Refusal.{Refusal}
use Rattle.values.specs.declared.Table.{Table}
use Rattle.values.specs.declared.Verdict.{Verdict}
use Rattle.model.specs.TableFile.{file_read}
use Rattle.model.specs.Report.{outcome_told, FileTold}
use Rattle.tablefile.specs.Told.{TableTold}
use Rattle.checkcalls.specs.declared.FileAnswer.{FileAnswer}

-- What is found is told as it is.
pub data Found : Type 0 where
  refused_by : Refusal → Found
  answered : ℕ → Bool → Answer → Verdict → Found

abbrev pub told_of : {A : Type 0} → (Refusal → A) → (ℕ → Bool → Answer → Verdict → A) → FileAnswer → A
told_of refuse tell x = outcome_told refuse tell x.tasks x.quick x.answer x.answer.outcome

abbrev pub FileFound : Contents → FileAnswer → Admission → Type 0
FileFound l x = FileTold refused_by answered l (told_of refused_by answered x)

abbrev pub TableFound : Table → ℕ → FileAnswer → Judgement → Type 0
TableFound t budget x = TableTold refused_by answered t budget (told_of refused_by answered x)

module _ {A : Type 0} (refuse : Refusal → A) (tell : ℕ → Bool → Answer → Verdict → A) where
  found_told : Found → A
  found_told (refused_by r) = refuse r
  found_told (answered n quick a v) = tell n quick a v

  by_outcome : (n : ℕ) (quick : Bool) (a : Answer) (o : Outcome)
      → found_told (outcome_told refused_by answered n quick a o) ≡ outcome_told refuse tell n quick a o
  unfolding found_told
  by_outcome n quick a (Err r) = refl
  by_outcome n quick a (Ok v) = refl

  told_by : (l : Contents) (x : FileAnswer) (a : Admission) → FileFound l x a → FileTold refuse tell l (told_of refuse tell x) a
  unfolding found_told
  told_by l x (Err r) e = sym (by_outcome _ _ x.answer x.answer.outcome) ∙ ap found_told e
  told_by l x (Ok u) (a, p, e) =
      (a, p, sym (by_outcome _ _ x.answer x.answer.outcome) ∙ ap found_told e ∙ by_outcome _ _ a a.outcome)

  pub told_of_lem : (file : List ℕ) (x : FileAnswer) → FileFound (file_read file) x (file_read file).admission
      → FileTold refuse tell (file_read file) (told_of refuse tell x) (file_read file).admission
  told_of_lem file x = told_by (file_read file) x (file_read file).admission

  pub by_outcome_of : (x : FileAnswer) {o : Outcome} {e : A} → x.answer.outcome ≡ o
      → e ≡ outcome_told refuse tell x.tasks x.quick x.answer o → e ≡ told_of refuse tell x
  by_outcome_of x same h = h ∙ ap (λ (o : Outcome). outcome_told refuse tell x.tasks x.quick x.answer o) (sym same)
