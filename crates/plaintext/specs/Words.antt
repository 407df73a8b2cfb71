-- The words of a line one after another.
use Rattle.std.specs.Prelude.{◌≡◌, Bool, cond, not, ℕ, suc, ◌+◌, ◌-◌, ◌≤◌, ◌<◌, length, get_or, take}
use Rattle.std.proofs.Math.Path.{refl}
use Rattle.std.proofs.Common.{sym, ap, ◌∙◌, arith, length-drop, take_all, drop-cons, drop-drop, length-take-le}
use Rattle.std.proofs.Math.Bool.{true, false}
use mathlib.Core.List.{List, [], ◌∷◌}
use Rattle.std.proofs.Math.Decide.{dec_lt}
use borrow.Author.Tests.{not-true}
use Rattle.std.proofs.Math.ListN.{drop, drop_of_length-le}
use Rattle.model.specs.PlainText.{is_gap, split, filled, words_of}
use Rattle.pieces.specs.Marks.{length_to, length_to_le, found}
use Rattle.pieces.specs.Pieces.{split_last, split_more}

-- What was found of the first word: that there is none, or where it begins and ends and which words follow it.
pub record NextWord (s : List ℕ) (from to : ℕ) : Type 0 where
  pub order : from ≤ to
  pub inside : to ≤ length s
  pub none : from ≡ to → words_of s ≡ []
  pub some : from < to → words_of s ≡ take (to - from) (drop from s) ∷ words_of (drop to s)

-- A piece that is not empty is kept.
pub kept : (w : List ℕ) (ws : List (List ℕ)) → 0 < length w → filled (w ∷ ws) ≡ w ∷ filled ws
unfolding filled
kept [] ws h = absurd (omega arith)
kept (x ∷ w) ws h = refl

-- Words between the bytes that pass the test p.
module _ (p : ℕ → Bool) where
  abbrev words : List ℕ → List (List ℕ)
  words s = filled (split p s)

  abbrev in_word : ℕ → Bool
  in_word x = not (p x)

  nothing : words [] ≡ filled []
  unfolding split filled
  nothing = refl

  -- A gap begins no word.
  gap_first : (x : ℕ) (s : List ℕ) → p x ≡ true → words (x ∷ s) ≡ words s
  unfolding split filled
  gap_first x s e = rw e

  -- Gaps in front of the words say nothing.
  gaps : (s : List ℕ) → words s ≡ words (drop (length_to in_word s) s)
  unfolding length_to
  gaps [] = refl
  gaps (x ∷ s) = go (p x) refl (gaps s)
    where
      go : (b : Bool) → p x ≡ b → words s ≡ words (drop (length_to in_word s) s) → words (x ∷ s) ≡ words
          (drop (cond (not b) 0 (suc (length_to in_word s))) (x ∷ s))
      go true e later = gap_first x s e ∙ later
      go false e later = refl

  -- Where nothing but gaps is left, no word is.
  no_word : (s : List ℕ) → length_to in_word s ≡ length s → words s ≡ []
  unfolding split filled
  no_word s e =
      let none : drop (length_to in_word s) s ≡ [] = drop_of_length-le s {i = length_to in_word s} (omega arith) in
      gaps s ∙ rw none

  -- A word that begins a list ends before the first gap.
  one_word : (s : List ℕ) → 0 < length_to p s → words s ≡ take (length_to p s) s ∷ words (drop (length_to p s) s)
  one_word s h = elim (dec_lt (length_to p s) (length s)) [
    | yes l ↦
        let n = length_to p s in
        let size : length (take n s) ≡ n = length-take-le n s (omega arith) in
        let next : drop n s ≡ get_or s n 0 ∷ drop (suc n) s = drop-cons s n 0 l in
        rw (split_more p s l, kept (take n s) (split p (drop (suc n) s)) (omega arith), next)
        (ap (λ (ws : List (List ℕ)). take n s ∷ ws) (sym (gap_first (get_or s n 0) (drop (suc n) s) (found p s l))))
    | no l ↦
        let n = length_to p s in
        let all : n ≡ length s = omega (arith, length_to_le p s) in
        rw (split_last p s all, kept s [] (omega arith), take_all n s (omega arith), drop_of_length-le s {i = n} (omega arith))
        (ap (λ (ws : List (List ℕ)). s ∷ ws) (sym nothing))
  ]

  -- Where a word begins, there is no gap.
  word_begins : (s : List ℕ) → length_to in_word s < length s → 0 < length_to p (drop (length_to in_word s) s)
  unfolding length_to
  word_begins s h =
      let n = length_to in_word s in
      let here : p (get_or s n 0) ≡ false = not-true (p (get_or s n 0)) (found in_word s h) in
      rw (drop-cons s n 0 h, here) (omega arith)

-- The first word is found by two searches.
next_word : (s : List ℕ) → let from = length_to (λ x. not (is_gap x)) s in NextWord s from (from + length_to is_gap (drop from s))
next_word s =
    let from = length_to (λ x. not (is_gap x)) s in
    let word = length_to is_gap (drop from s) in
    let begins : from < length s → 0 < word = word_begins is_gap s in
    let within : word ≤ length (drop from s) = length_to_le is_gap (drop from s) in
    record {
      order = omega arith;
      inside = omega (arith, length-drop from s, length_to_le (λ x. not (is_gap x)) s);
      none =
          λ e. no_word is_gap s (elim (dec_lt from (length s)) [
            | yes l ↦ absurd (omega (arith, begins l))
            | no l ↦ omega (arith, length_to_le (λ x. not (is_gap x)) s)
          ]);
      some =
          λ l. let size : from + word - from ≡ word = omega arith in gaps is_gap s ∙ one_word is_gap (drop from s) (omega arith)
          ∙ rw (size, drop-drop word from s);
    }

pub found_word : (s : List ℕ) {from word : ℕ} → from ≡ length_to (λ x. not (is_gap x)) s → word ≡ length_to is_gap (drop from s) → NextWord s from (from + word)
found_word s e q = rw (q, e) (next_word s)

-- The first word, and what stands behind it.
pub word_and_rest : (s : List ℕ) {from word : ℕ} → from ≡ length_to (λ x. not (is_gap x)) s → from < length s → word ≡ length_to is_gap (drop from s)
    → words_of s ≡ take word (drop from s) ∷ words_of (drop word (drop from s))
word_and_rest s e h q =
    let from = length_to (λ x. not (is_gap x)) s in
    rw (q, e) (gaps is_gap s ∙ one_word is_gap (drop from s) (word_begins is_gap s (omega (arith, e))))

-- Some word is left where a byte of one is found, and none where none is.
pub some_word : (s : List ℕ) → length_to (λ x. not (is_gap x)) s < length s → (w : List ℕ) × ((ws : List (List ℕ)) × (words_of s ≡ w ∷ ws))
some_word s h = (_, (_, (next_word s).some (omega (arith, word_begins is_gap s h))))

pub no_words : (s : List ℕ) → length s ≤ length_to (λ x. not (is_gap x)) s → words_of s ≡ []
no_words s h = no_word is_gap s (omega (arith, length_to_le (λ x. not (is_gap x)) s))
