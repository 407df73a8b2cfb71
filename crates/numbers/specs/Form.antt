-- A file's form for a buffer of one length, and what a call on any file and any buffer is told by it (`on_form`).
use Rattle.std.proofs.Math.Path.{◌≡◌, refl, ap}
use Rattle.std.proofs.Common.{sym, ◌∙◌, arith, eqb-true}
use Rattle.std.specs.Prelude.{Bool, cond, List, eqb, length, Result, Ok, Err}
use Rattle.std.proofs.Math.Bool.{true, false}
use Prim.Native.Nat.{ℕ, min}
use Rattle.values.specs.declared.Contents.{Contents}
use Rattle.values.specs.declared.Table.{Table}
use Rattle.model.specs.TableFile.{refuse_file, form_of}
use Rattle.values.specs.declared.Refusal.{Refusal}
use Rattle.model.specs.Report.{Exported, refused, refusal_number}
use Rattle.model.specs.StateBuffer.{on_file}

-- What a call returns: its answer, or its refusal as a number.
abbrev pub told_number : Result ℕ Refusal → ℕ
told_number (Ok n) = n
told_number (Err r) = refusal_number r

abbrev pub form_for : ℕ → List ℕ → ℕ → Contents
form_for wanted file bytes = cond (eqb bytes wanted) (form_of file) (refuse_file 50 (min bytes 65535))

module _ (wanted : ℕ) (file buffer : List ℕ) {l : Contents} (e : l ≡ form_for wanted file (length buffer)) where
  told : (Table → Exported) → Contents → Exported
  told go x = elim x.admission [ Err r ↦ refused r buffer | Ok _ ↦ go x.table ]

  pub on_form : (go : Table → Exported) → ◌≡◌ {A = Exported} (on_file wanted file buffer go)
      (elim l.admission [ Err r ↦ refused r buffer | Ok _ ↦ go l.table ])
  unfolding told
  on_form go = by (eqb (length buffer) wanted) ∙ ap (told go) (sym e)
    where
      by : (fits : Bool) → ◌≡◌ {A = Exported} (elim (cond fits (form_of file).admission (Err (record {
        number = 50;
        place = min (length buffer) 65535;
      }))) [ Err r ↦ refused r buffer | Ok _ ↦ go (form_of file).table ]) (told go
          (cond fits (form_of file) (refuse_file 50 (min (length buffer) 65535))))
      by true = refl
      by false = refl

  -- A buffer that is admitted has the length.
  pub right_length : l.admission ≡ Ok tt → length buffer ≡ wanted
  right_length a = by (eqb (length buffer) wanted) refl (ap (λ (x : Contents). x.admission) (sym e) ∙ a)
    where
      by : (fits : Bool) → eqb (length buffer) wanted ≡ fits → (cond fits (form_of file)
          (refuse_file 50 (min (length buffer) 65535))).admission ≡ Ok tt → length buffer ≡ wanted
      by true f h = eqb-true (length buffer) wanted f
      by false f h = let z : ◌≡◌ {A = ℕ} 0 1 = cc in absurd (omega arith)
