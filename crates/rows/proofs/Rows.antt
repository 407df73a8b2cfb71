-- The rows of a list of words, each a list of its own: what stands in row i is what the words have from 5 * i on.
use Rattle.std.specs.Prelude.{◌≡◌, refl, Bool, false, not, List, [], ℕ, zero, suc, ◌+◌, ◌*◌, ◌≤◌, ◌<◌, length, get_or, drop}
use Rattle.std.proofs.Common.{sym, ◌∙◌, ap, arith}
use Rattle.std.proofs.lemmas.List.{get_or-take, get_or-drop}
use Rattle.std.specs.Simd.{first_chunks}
use Rattle.model.specs.Writer.{rows, row_words, row_task, is_task, first_stranger}
use Rattle.std.specs.List.{position_or_len}
use Rattle.std.proofs.lemmas.List.Sums.{fails_before_first, passes_at_first, prefix_len-le-length}
use Rattle.counting.specs.Search.{first_unique}

pub length_chunks : (n k : ℕ) (w : List ℕ) → length (first_chunks n k w) ≡ k
length_chunks n zero w = refl
length_chunks n (suc k) w = ap suc (length_chunks n k (drop n w))

in_row : (n k i j : ℕ) (w : List ℕ) → i < k → j < n → get_or (get_or (first_chunks n k w) i []) j 0 ≡ get_or w (n * i + j) 0
in_row n zero i j w a b = absurd (omega arith)
in_row n (suc k) zero j w a b = let e : n * 0 + j ≡ j = omega arith in rw e (get_or-take n w j 0 b)
in_row n (suc k) (suc i) j w a b =
    let e : n + (n * i + j) ≡ n * suc i + j = omega arith in
    in_row n k i j (drop n w) (omega arith) b ∙ get_or-drop n w (n * i + j) 0 ∙ rw e refl

abbrev pub is_stranger : List ℕ → Bool
is_stranger r = not (is_task r 0)

module _ (w : List ℕ) where
  abbrev pub chunks : List (List ℕ)
  chunks = first_chunks row_words (rows w) w

  long : length chunks ≡ rows w
  long = length_chunks row_words (rows w) w

  -- A row read by itself.
  word_of : (i j : ℕ) {at : ℕ} → i < rows w → j < 5 → row_words * i + j ≡ at → get_or (get_or chunks i []) j 0 ≡ get_or w at 0
  word_of i j a b e = in_row row_words (rows w) i j w a b ∙ rw e

  pub row_task_is : (i : ℕ) → i < rows w → row_task (get_or chunks i []) 0 ≡ row_task w i
  row_task_is i h =
      let kind = word_of i 0 {at = row_words * i} h (omega arith) (omega arith) in
      let at = λ (j : ℕ) (l : j < 5). word_of i j h l refl in
      rw (kind, at 1 (omega arith), at 2 (omega arith), at 3 (omega arith), at 4 (omega arith))

  is_task_is : (i : ℕ) → i < rows w → is_task (get_or chunks i []) 0 ≡ is_task w i
  is_task_is i h =
      let kind = word_of i 0 {at = row_words * i} h (omega arith) (omega arith) in
      rw (kind, word_of i 1 h (omega arith) refl)

  pub stranger_is : position_or_len is_stranger chunks ≡ first_stranger w
  unfolding first_stranger
  stranger_is =
      let at = position_or_len is_stranger chunks in
      let within : at ≤ length chunks = prefix_len-le-length (λ r. not (is_stranger r)) chunks in
      let same = long in
      let before : (k : ℕ) → k < at → not (is_task w k) ≡ false =
      λ k b. rw (← is_task_is k (omega arith)) (fails_before_first is_stranger chunks k [] b) in
      sym (first_unique (λ i. not (is_task w i)) 0 (rows w) at (omega arith) (omega arith) (λ k a b p. rw (before k b) at p)
      (λ l. rw (← is_task_is at (omega arith), passes_at_first is_stranger chunks [] (omega arith)) tt))
