-- LINES APART (`line_number`): a line of a report determines the numbers in it, and what follows it.
use Rattle.std.specs.Prelude.{◌≡◌, refl, Bool, true, false, ◌&&◌, ℕ}
use Rattle.std.proofs.Common.{sym, ap, ◌∙◌, arith}
use mathlib.Core.List.{List, [], ◌∷◌, ◌++◌, append_assoc, append_cancel_left, head-eq_of_cons-eq, tail-eq_of_cons-eq}
use Rattle.model.specs.Notation.{text, decimal}
use Rattle.model.specs.PlainText.{is_digit, all_digits, value}
use Rattle.model.specs.Report.{line}
use Rattle.plaintext.specs.Canonical.{means}

-- Two tests that both hold.
pub both : (a b : Bool) → a && b ≡ true → (a ≡ true) × (b ≡ true)
both true b e = (refl, e)
both false b e = let z : ◌≡◌ {A = ℕ} 0 1 = cc in absurd (omega arith)

-- What begins with a digit begins with no other byte.
no_digit : {A : Type 0} (c y : ℕ) (r s v : List ℕ) → is_digit c ≡ false → all_digits (y ∷ v) ≡ true → c ∷ r ≡ y ∷ s → A
unfolding all_digits
no_digit c y r s v p a e =
    let same : is_digit c ≡ is_digit y = ap is_digit (head-eq_of_cons-eq e) in
    let z : ◌≡◌ {A = Bool} false true = sym p ∙ same ∙ (both (is_digit y) (all_digits v) a).0 in
    let z : ◌≡◌ {A = ℕ} 0 1 = cc in absurd (omega arith)

-- Digits end at the first byte that is none.
digits_apart : (c : ℕ) (w v r s : List ℕ) → is_digit c ≡ false → all_digits w ≡ true → all_digits v ≡ true
    → w ++ c ∷ r ≡ v ++ c ∷ s → (w ≡ v) × (r ≡ s)
unfolding all_digits
digits_apart c [] [] r s p a b e = (refl, tail-eq_of_cons-eq e)
digits_apart c [] (y ∷ v) r s p a b e = no_digit c y r (v ++ c ∷ s) v p b e
digits_apart c (x ∷ w) [] r s p a b e = no_digit c x s (w ++ c ∷ r) w p a (sym e)
digits_apart c (x ∷ w) (y ∷ v) r s p a b e =
    let later = (both (is_digit x) (all_digits w) a).1 in
    let later' = (both (is_digit y) (all_digits v) b).1 in
    let (words, rest) = digits_apart c w v r s p later later' (tail-eq_of_cons-eq e) in
    (λ i. head-eq_of_cons-eq e i ∷ words i, rest)

-- So does a number behind the same words, and its digits give it back.
pub number_apart : (p : List ℕ) (c x y : ℕ) (r s : List ℕ) → is_digit c ≡ false
    → p ++ (decimal x ++ c ∷ r) ≡ p ++ (decimal y ++ c ∷ s) → (x ≡ y) × (r ≡ s)
number_apart p c x y r s h e =
    let numbers = append_cancel_left p _ _ e in
    let (words, rest) = digits_apart c (decimal x) (decimal y) r s h (means x).digits (means y).digits numbers in
    (sym (means x).back ∙ ap value words ∙ (means y).back, rest)

-- A line that ends in a number.
pub line_number : (p : List ℕ) (x y : ℕ) (r s : List ℕ) → line (p ++ decimal x) ++ r ≡ line (p ++ decimal y) ++ s
    → (x ≡ y) × (r ≡ s)
unfolding text
line_number p x y r s e = number_apart p 10 x y r s refl (simp append_assoc at e)

-- A line of two numbers: between them stand words that begin with no digit.
pub line_numbers : (p : List ℕ) (c : ℕ) (q : List ℕ) (x x' y y' : ℕ) (r s : List ℕ) → is_digit c ≡ false
    → line (p ++ decimal x ++ (c ∷ q) ++ decimal y) ++ r ≡ line (p ++ decimal x' ++ (c ∷ q) ++ decimal y') ++ s
    → (x ≡ x') × (y ≡ y') × (r ≡ s)
unfolding text
line_numbers p c q x x' y y' r s h e =
    let (first, more) = number_apart p c x x' _ _ h (simp append_assoc at e) in
    let (second, rest) = number_apart q 10 y y' r s refl more in
    (first, second, rest)
