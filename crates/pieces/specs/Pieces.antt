-- The first piece of a list that is split, and what is split behind it.
use Rattle.std.specs.Prelude.{◌≡◌, Bool, ℕ, suc, ◌-◌, ◌<◌, get_or, drop}
use Rattle.std.proofs.Math.Path.{refl}
use Rattle.std.proofs.Math.Bool.{true, false, cond}
use mathlib.Core.List.{List, [], ◌∷◌}
use Rattle.std.proofs.Math.Decide.{dec_lt}
use Rattle.std.proofs.Common.{arith, take_all}
use Rattle.std.proofs.Math.ListN.{length, take}
use Rattle.model.specs.PlainText.{before, split}
use Rattle.pieces.specs.Marks.{length_to, length_to_le}

module _ (p : ℕ → Bool) where
  -- A list in which no byte passes is one piece.
  pub split_last : (s : List ℕ) → length_to p s ≡ length s → split p s ≡ s ∷ []
  unfolding split length_to
  split_last [] e = refl
  split_last (x ∷ s) e = go (p x) (split_last s) e
    where
      go : (b : Bool) → (length_to p s ≡ length s → split p s ≡ s ∷ []) → cond b 0 (suc (length_to p s)) ≡ length (x ∷ s) → before b x (split p s) ≡
          (x ∷ s) ∷ []
      go true later h = absurd (omega arith)
      go false later h = rw (later (omega arith))

  -- Else its first piece ends before the first that passes, and the others are those of what follows it.
  pub split_more : (s : List ℕ) → length_to p s < length s → split p s ≡ take (length_to p s) s ∷ split p (drop (suc (length_to p s)) s)
  unfolding split length_to
  split_more [] h = absurd (omega arith)
  split_more (x ∷ s) h = go (p x) (split_more s) h
    where
      go : (b : Bool) → (length_to p s < length s → split p s ≡ take (length_to p s) s ∷ split p (drop (suc (length_to p s)) s))
          → let n = cond b 0 (suc (length_to p s)) in
          n < length (x ∷ s) → before b x (split p s) ≡ take n (x ∷ s) ∷ split p (drop (suc n) (x ∷ s))
      go true later l = refl
      go false later l = rw (later (omega arith))

  -- The first piece.
  pub first_piece : (s : List ℕ) → get_or (split p s) 0 [] ≡ take (length_to p s) s
  first_piece s = elim (dec_lt (length_to p s) (length s)) [
    | yes h ↦ rw (split_more s h)
    | no h ↦ let all : length_to p s ≡ length s = omega (arith, length_to_le p s) in rw (split_last s all, take_all (length_to p s) s (omega arith))
  ]

-- The part of a list up to a place.
pub from_front : (l : List ℕ) (n : ℕ) → take (n - 0) (drop 0 l) ≡ take n l
from_front l n = let all : n - 0 ≡ n = omega arith in rw all
