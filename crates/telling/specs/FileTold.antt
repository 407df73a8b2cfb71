-- WHAT IS TOLD OF A FILE (`told_once`): it is one thing only; there is always something to tell (`told_some`);
-- and of a refused file, or of one with a button, it is its refusal (`told_refused`, `button_refused`).
use Rattle.model.specs.Values.{Admission}
use Rattle.std.proofs.Math.Path.{◌≡◌}
use Rattle.std.specs.Prelude.{refl, Bool, ℕ, Ok, Err}
use Rattle.std.proofs.Common.{sym, ◌∙◌, arith}
use Rattle.values.specs.declared.Refusal.{Refusal}
use Rattle.values.specs.declared.Verdict.{Verdict}
use Rattle.values.specs.declared.Answer.{Answer}
use Rattle.values.specs.declared.Contents.{Contents}
use Rattle.model.specs.Tasks.{judged}
use Rattle.model.specs.Verdict.{Permitted}
use Rattle.model.specs.Patterns.{quick_pass}
use Rattle.model.specs.Report.{outcome_told, FileTold}
use Rattle.backlog.proofs.Unique.{permitted_unique}
use Rattle.backlog.proofs.Computed.{answer_of, computed}

module _ {A : Type 0} (refuse : Refusal → A) (tell : ℕ → Bool → Answer → Verdict → A) (l : Contents) where
  pub told_once : (x y : A) (a : Admission) → FileTold refuse tell l x a → FileTold refuse tell l y a → x ≡ y
  told_once x y (Err r) e f = e ∙ sym f
  told_once x y (Ok u) (a, p, e) (b, q, f) =
      let s : a ≡ b = permitted_unique l.table l.budget a b p q in e ∙ rw s (sym f)

  pub told_some : (a : Admission) → (x : A) × FileTold refuse tell l x a
  told_some (Err r) = (refuse r, refl)
  told_some (Ok u) =
      let a = answer_of l.table l.budget in (
        outcome_told refuse tell l.table.count (quick_pass l.table) a a.outcome,
        (a, computed l.table l.budget, refl),
      )

  pub told_refused : (x : A) (r : Refusal) (a : Admission)
      → a ≡ Err r → FileTold refuse tell l x a → x ≡ refuse r
  told_refused x r (Err w) q e = let s : w ≡ r = cc in e ∙ rw s
  told_refused x r (Ok u) q e = let z : ◌≡◌ {A = ℕ} 0 1 = cc in absurd (omega arith)

  pub button_refused : (x : A) (r : Refusal) (a : Admission)
      → a ≡ Ok tt → judged l.table ≡ Err r
      → FileTold refuse tell l x a → x ≡ refuse r
  unfolding Permitted
  button_refused x r (Err w) q j e = let z : ◌≡◌ {A = ℕ} 0 1 = cc in absurd (omega arith)
  button_refused x r (Ok u) q j (a, p, e) = let b = rw j at p in e ∙ rw b
