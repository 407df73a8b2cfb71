-- A word and its four bytes, the lowest first: each gives the other back.
use Rattle.std.specs.Prelude.{◌≡◌, refl, List, ◌∷◌, ◌++◌, ℕ, suc, ◌+◌, ◌*◌, ◌/◌, ◌%◌, ◌≤◌, ◌<◌, length, get_or, drop}
use Rattle.std.proofs.Common.{sym, ◌∙◌, arith, drop-cons}
use Rattle.model.specs.Limits.{word_limit}
use Rattle.model.specs.TableFile.{four, word_bytes}

pub word_back : (x : ℕ) → x < word_limit → x % 256 + 256 * (x / 256 % 256) + 65536 * (x / 65536 % 256) + 16777216 * (x / 16777216 % 256) ≡ x
word_back x h =
    let second : x / 65536 ≡ x / 256 / 256 = omega arith in
    let third : x / 16777216 ≡ x / 65536 / 256 = omega arith in
    let fourth : x / 16777216 / 256 ≡ 0 = omega arith in
    omega arith

-- A number below 256 before a multiple of 256.
lowest : (x a rest : ℕ) → x ≡ a + 256 * rest → a < 256 → x % 256 ≡ a
lowest x a rest e h = omega arith

bytes_back : (x a b c d : ℕ) (s : List ℕ) → x ≡ a + 256 * b + 65536 * c + 16777216 * d → a < 256 → b < 256 → c < 256 → d < 256
    → word_bytes x ++ s ≡ a ∷ b ∷ c ∷ d ∷ s
bytes_back x a b c d s e ha hb hc hd =
    let first : x % 256 ≡ a = lowest x a (b + 256 * c + 65536 * d) (omega arith) ha in
    let second : x / 256 % 256 ≡ b = lowest (x / 256) b (c + 256 * d) (omega arith) hb in
    let third : x / 65536 % 256 ≡ c = lowest (x / 65536) c d (omega arith) hc in
    let fourth : x / 16777216 % 256 ≡ d = lowest (x / 16777216) d 0 (omega arith) hd in
    rw (first, second, third, fourth)

-- Words in a list of bytes.
module _ (s : List ℕ) (bytes : (i : ℕ) → get_or s i 0 < 256) where
  pub word_fits : (at : ℕ) → four s at < word_limit
  word_fits at = omega (arith, bytes at, bytes (at + 1), bytes (at + 2), bytes (at + 3))

  four_bytes : (at : ℕ) → at + 4 ≤ length s → drop at s ≡ get_or s at 0 ∷ get_or s (at + 1) 0 ∷ get_or s (at + 2) 0 ∷ get_or s (at + 3) 0 ∷ drop (at + 4) s
  four_bytes at h =
      let one : at + 1 ≡ suc at = omega arith in
      let two : at + 2 ≡ suc (suc at) = omega arith in
      let three : at + 3 ≡ suc (suc (suc at)) = omega arith in
      let next : at + 4 ≡ suc (suc (suc (suc at))) = omega arith in
      let from : (i : ℕ) → i < length s → drop i s ≡ get_or s i 0 ∷ drop (suc i) s = λ i l. drop-cons s i 0 l in
      rw (one, two, three, next, from at (omega arith), from (suc at) (omega arith), from (suc (suc at)) (omega arith), from (suc (suc (suc at))) (omega arith))

  -- From a place on the list is the bytes of the word there, and then what stands behind it.
  pub word_here : (at next : ℕ) → at + 4 ≡ next → next ≤ length s → drop at s ≡ word_bytes (four s at) ++ drop next s
  word_here at next e h =
      rw (← e) (four_bytes at (omega arith) ∙ sym
      (bytes_back (four s at) _ _ _ _ (drop (at + 4) s) refl (bytes at) (bytes (at + 1)) (bytes (at + 2)) (bytes (at + 3))))
