-- An array that a function of the index makes: its entries, and as a list that is filled.
use Rattle.std.specs.Prelude.{◌≡◌, refl, List, ℕ, zero, suc, ◌+◌, ◌≤◌, ◌<◌, get_or, replicate}
use Rattle.std.proofs.Common.{sym, ◌∙◌, arith, subst}
use Rattle.std.proofs.lemmas.List.{length-replicate, ext_get_or}
use Rattle.std.specs.Fn.{Mut, Called}
use Rattle.std.specs.Array.{IsFromFnResultFrom, IsFromFnResult}
use Rattle.std.proofs.Math.Decide.{ℕ_discrete}
use Rattle.model.specs.Notation.{fill}
use Rattle.counting.specs.Fill.{fill_length, fill_passed}

module _ {F B : Type 0} (g : Mut F (ℕ × Unit {0}) B) (f : F) (t : ℕ → B)
    (same : (x : ℕ) (y : B) (q : F) → Called g f (x, tt) y q → (q ≡ f) × (y ≡ t x)) where
  from_fn_each : (n i : ℕ) (p : F) (l : List B) → p ≡ f → IsFromFnResultFrom g p l i n → (k : ℕ) (d : B) → i ≤ k → k < i + n → get_or l k d ≡ t k
  from_fn_each zero i p l e made k d a b = absurd (omega arith)
  from_fn_each (suc n) i p l e (q, y, here, call, later) k d a b =
      let here_same = same i y q (subst (λ (x : F). Called g x (i, tt) y q) e call) in
      elim (ℕ_discrete k i) [
        | yes h ↦ rw h (here.1 d ∙ here_same.1)
        | no h ↦ from_fn_each n (i + 1) q l here_same.0 later k d (omega arith) (omega arith)
      ]

  -- Each entry is that of its index.
  pub from_fn_at : {n : ℕ} {l : List B} → IsFromFnResult g f l n → (k : ℕ) (d : B) → k < n → get_or l k d ≡ t k
  from_fn_at {n} {l} made k d h = from_fn_each n 0 f l refl made.each k d (omega arith) (omega arith)

  pub from_fn_fill : {n : ℕ} {l : List B} (d : B) → IsFromFnResult g f l n → l ≡ fill n t (replicate n d)
  from_fn_fill {n} {l} d made =
      let whole = length-replicate n d in
      ext_get_or d l (fill n t (replicate n d)) (omega (arith, made.long, fill_length n t (replicate n d)))
      (λ k h. from_fn_at made k d (omega (arith, made.long)) ∙ sym (fill_passed n t (replicate n d) k d (omega (arith, made.long)) (omega (arith, made.long))))
