-- How many bytes stand before the first that passes a test.
use Rattle.std.specs.Prelude.{◌≡◌, Bool, get_or, drop}
use Rattle.std.proofs.Math.Path.{refl}
use Rattle.std.proofs.Math.Bool.{true, false, cond}
use mathlib.Core.List.{List, [], ◌∷◌}
use Prim.Native.Nat.{ℕ, suc, ◌+◌, ◌≤◌, ◌<◌}
use native.Mathlib.Omega.{arith}
use Rattle.std.proofs.Math.ListN.{length}
use Rattle.std.proofs.Math.Seq.{drop-cons}
use Rattle.std.specs.List.{position_or_len}
use Rattle.std.proofs.lemmas.List.Recursion.{is_position_or_len}

-- What computes this test answers as it does.
abbrev pub Computes : (ℕ → Bool → Type 0) → (ℕ → Bool) → Type 0
Computes answers test = (x : ℕ) (answer : Bool) → answers x answer → answer ≡ test x

-- The bytes before the first that passes, or all of them.
unfoldable pub length_to : (ℕ → Bool) → List ℕ → ℕ
length_to p [] = 0
length_to p (x ∷ s) = cond (p x) 0 (suc (length_to p s))

module _ (p : ℕ → Bool) where
  -- It is std's word for the place of the first that passes.
  pub length_to_is : (s : List ℕ) → length_to p s ≡ position_or_len p s
  unfolding length_to
  length_to_is s = is_position_or_len (length_to p) p refl (λ x t. let next : 1 + length_to p t ≡ suc (length_to p t) = omega arith in rw next) s

  pub length_to_le : (s : List ℕ) → length_to p s ≤ length s
  unfolding length_to
  length_to_le [] = omega arith
  length_to_le (x ∷ s) = go (p x) (length_to_le s)
    where
      go : (b : Bool) → length_to p s ≤ length s → cond b 0 (suc (length_to p s)) ≤ length (x ∷ s)
      go true h = omega arith
      go false h = omega arith

  -- A byte that passes, and one that does not, where the search has come to.
  pub here : (s : List ℕ) (i : ℕ) → i < length s → p (get_or s i 0) ≡ true → length_to p (drop i s) ≡ 0
  unfolding length_to
  here s i h e = rw (drop-cons s i 0 h, e)

  pub not_here : (s : List ℕ) (i : ℕ) → i < length s → p (get_or s i 0) ≡ false → length_to p (drop i s) ≡ suc (length_to p (drop (i + 1) s))
  unfolding length_to
  not_here s i h e = let n : i + 1 ≡ suc i = omega arith in rw (n, drop-cons s i 0 h, e)

  -- The byte that was found passes.
  pub found : (s : List ℕ) → length_to p s < length s → p (get_or s (length_to p s) 0) ≡ true
  unfolding length_to
  found [] h = absurd (omega arith)
  found (x ∷ s) h = go (p x) refl (found s) h
    where
      go : (b : Bool) → p x ≡ b → (length_to p s < length s → p (get_or s (length_to p s) 0) ≡ true)
          → let n = cond b 0 (suc (length_to p s)) in n < length (x ∷ s) → p (get_or (x ∷ s) n 0) ≡ true
      go true e later l = e
      go false e later l = later (omega arith)
