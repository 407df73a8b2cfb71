-- THE FIRST RECORD (`step_first`): what reading at 0 leads to.
use Rattle.std.specs.Prelude.{◌≡◌, Bool, List, [], ltb, leb, eqb, get_or, drop}
use Rattle.std.proofs.Math.Path.{refl}
use Rattle.std.proofs.Common.{sym, ap, ◌∙◌, arith}
use Rattle.std.proofs.Math.Bool.{true, false}
use Prim.Native.Nat.{ℕ}
use borrow.Author.Tests.{eq-eqb, ne_eqb, lt-ltb, le-ltb, ltb-true, ltb-false, leb-true, leb-false}
use Rattle.std.proofs.Math.ListN.{length, length-drop}
use Rattle.model.specs.Limits.{task_limit, budget_bytes}
use Rattle.model.specs.TableFile.{eight, refuse_file, form_of}
use Rattle.tablefile.specs.Reading.{budget_body, reading_at, either}
use Rattle.tablefile.specs.Part.{eight_part}
use Rattle.tablefile.proofs.Reached.{later, Follows}

pub step_first : (s : List ℕ) → Follows s 0 [] 0 (reading_at s 0 0)
unfolding reading_at form_of
step_first s =
    either (Follows s 0 [] 0) (leb (length s) 0) _ _ (λ z. rw (eq-eqb (length s) 0 (omega (arith, leb-true (length s) 0 z))))
    (λ z. let e0 : eqb (length s) 0 ≡ false = ne_eqb (length s) 0 (λ q. omega (arith, leb-false (length s) 0 z)) in either (Follows s 0 [] 0)
    (eqb (get_or s 0 0) 1) _ _
    (λ e1. either (Follows s 0 [] 0) (ltb (length (drop 1 s)) budget_body) _ _
    (λ e. rw (e0, e1, lt-ltb (length s) budget_bytes (omega (arith, ltb-true, length-drop 1 s))))
    (λ e. let e2 : ltb (length s) budget_bytes ≡ false = le-ltb (length s) budget_bytes (omega (arith, ltb-false, length-drop 1 s)) in
    either (Follows s 0 [] 0) (eqb (eight (drop 1 s) 0) 0) _ _
    (λ e3. rw (e0, e1, e2, sym (ap (λ (b : ℕ). eqb b 0) (eight_part s 1)) ∙ e3))
    (λ e3. later task_limit refl (omega arith) (omega arith) (omega (arith, ltb-false, length-drop 1 s))
    (rw (e0, e1, e2, sym (ap (λ (b : ℕ). eqb b 0) (eight_part s 1)) ∙ e3, eight_part)))))
    (λ e1. either (Follows s 0 [] 0) (eqb (get_or s 0 0) 2) _ _ (λ e2. rw (e0, e1, e2))
    (λ e2. either (Follows s 0 [] 0) (eqb (get_or s 0 0) 4) _ _ (λ e4. other e0 e1 e2 e4 (eqb (get_or s 0 0) 3) refl)
    (λ e4. either (Follows s 0 [] 0) (eqb (get_or s 0 0) 3) _ _ (λ e3. rw (e0, e1, e2, e3)) (λ e3. rw (e0, e1, e2, e3, e4))))))
  where
    -- a button first, whether or not its kind is the end's
    other : eqb (length s) 0 ≡ false → eqb (get_or s 0 0) 1 ≡ false → eqb (get_or s 0 0) 2 ≡ false → eqb (get_or s 0 0) 4 ≡ true → (b : Bool)
        → eqb (get_or s 0 0) 3 ≡ b → refuse_file 22 0 ≡ form_of s
    other e0 e1 e2 e4 true e3 = rw (e0, e1, e2, e3)
    other e0 e1 e2 e4 false e3 = rw (e0, e1, e2, e3, e4)
