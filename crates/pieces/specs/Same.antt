-- Two words compared byte by byte.
use Rattle.std.specs.Prelude.{◌≡◌, refl, ◌≢◌, eqb, true, false, List, [], ◌∷◌, length, get_or, drop}
use Prim.Native.Nat.{ℕ, suc, ◌+◌, ◌<◌}
use Rattle.std.proofs.Math.Decide.{ℕ_discrete}
use native.Mathlib.Omega.{arith}
use borrow.Author.Tests.{eq-eqb, ne_eqb}
use Rattle.std.proofs.Math.ListN.{drop_of_length-le}
use Rattle.std.proofs.Math.Seq.{drop-cons}
use lib.Pointwise.{pointwise}
use Rattle.model.specs.PlainText.{same}

-- It is std's word for the equality of two lists.
pub same_is : (w v : List ℕ) → same w v ≡ pointwise eqb w v
unfolding same
same_is [] [] = refl
same_is [] (y ∷ v) = refl
same_is (x ∷ w) [] = refl
same_is (x ∷ w) (y ∷ v) = rw (same_is w v)

-- Words of different lengths.
pub other_length : (w v : List ℕ) → length w ≢ length v → same w v ≡ false
unfolding same
other_length [] [] h = absurd (h refl)
other_length [] (y ∷ v) h = refl
other_length (x ∷ w) [] h = refl
other_length (x ∷ w) (y ∷ v) h = elim (ℕ_discrete x y) [
  | yes e ↦ rw (eq-eqb x y e, other_length w v (λ q. h (omega arith)))
  | no e ↦ rw (ne_eqb x y e)
]

module _ (w v : List ℕ) (i : ℕ) where
  -- A byte that differs.
  pub other_byte : i < length w → i < length v → get_or w i 0 ≢ get_or v i 0 → same (drop i w) (drop i v) ≡ false
  unfolding same
  other_byte l m e = rw (drop-cons w i 0 l, drop-cons v i 0 m, ne_eqb (get_or w i 0) (get_or v i 0) e)

  -- A byte that is the same.
  pub same_byte : i < length w → i < length v → get_or w i 0 ≡ get_or v i 0 → same (drop i w) (drop i v) ≡ same (drop (i + 1) w) (drop (i + 1) v)
  unfolding same
  same_byte l m e = let n : i + 1 ≡ suc i = omega arith in rw (n, drop-cons w i 0 l, drop-cons v i 0 m, eq-eqb (get_or w i 0) (get_or v i 0) e)

  -- Nothing is left of either.
  pub same_end : length w ≡ i → length v ≡ i → same (drop i w) (drop i v) ≡ true
  unfolding same
  same_end l m = rw (drop_of_length-le w {i = i} (omega arith), drop_of_length-le v {i = i} (omega arith))
