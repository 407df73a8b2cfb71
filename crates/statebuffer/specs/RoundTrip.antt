-- What was written into a state buffer is what is read from it.
use Rattle.std.specs.Prelude.{◌≡◌, refl, List, [], ◌∷◌, ◌++◌, ℕ, zero, suc, ◌+◌, ◌*◌, ◌/◌, ◌%◌, ◌≤◌, ◌<◌, length, replicate}
use Rattle.std.proofs.Common.{sym, ◌∙◌, length-append, ext_get_or, get_or-append-add}
use native.Mathlib.Omega.{arith}
use Rattle.std.proofs.Math.ListN.{get_or, get_or-append}
use Rattle.std.proofs.lemmas.List.{length-replicate}
use Rattle.values.specs.declared.Turn.{Turn}
use Rattle.model.specs.Limits.{task_limit, word_limit, budget_limit}
use Rattle.model.specs.Notation.{fill}
use Rattle.model.specs.TableFile.{four, eight, word_bytes, two_words, bytes_of}
use Rattle.model.specs.Dispatcher.{State}
use Rattle.model.specs.StateBuffer.{counts_at, state_bytes, halves, buffer_of, words_in, counts_in, state_in}
use Rattle.counting.specs.Fill.{fill_eq, fill_length, fill_passed}
use Rattle.words.specs.Word.{word_back}
use Rattle.words.specs.Bytes.{bytes_append}
use Rattle.statebuffer.specs.Words.{halves_length, buffer_length}

-- Behind a word the next one is read four bytes further on.
pub behind : (a b c d : ℕ) (s : List ℕ) (at : ℕ) → get_or (a ∷ b ∷ c ∷ d ∷ s) (4 + at) 0 ≡ get_or s at 0
behind a b c d s at = let e : 4 + at ≡ suc (suc (suc (suc at))) = omega arith in rw e

four_behind : (x : ℕ) (s : List ℕ) (at : ℕ) → four (word_bytes x ++ s) (4 + at) ≡ four s at
four_behind x s at =
    let one : 4 + at + 1 ≡ 4 + (at + 1) = omega arith in
    let two : 4 + at + 2 ≡ 4 + (at + 2) = omega arith in
    let three : 4 + at + 3 ≡ 4 + (at + 3) = omega arith in
    rw (one, two, three, behind _ _ _ _ s at, behind _ _ _ _ s (at + 1), behind _ _ _ _ s (at + 2), behind _ _ _ _ s (at + 3))

-- Each word of a list is read where it was written.
pub word_at : (w : List ℕ) (i : ℕ) → i < length w → get_or w i 0 < word_limit → four (bytes_of w) (4 * i) ≡ get_or w i 0
unfolding bytes_of
word_at [] i l h = absurd (omega arith)
word_at (x ∷ w) zero l h = word_back x h
word_at (x ∷ w) (suc i) l h =
    let e : 4 * suc i ≡ 4 + 4 * i = omega arith in
    rw e (four_behind x (bytes_of w) (4 * i) ∙ word_at w i (omega arith) h)

-- Each half of a count stands at its place among the words.
pub half_at : (w : List ℕ) (i : ℕ) → i < length w
    → (get_or (halves w) (2 * i) 0 ≡ get_or w i 0 % word_limit) × (get_or (halves w) (2 * i + 1) 0 ≡ get_or w i 0 / word_limit)
unfolding halves
half_at [] i l = absurd (omega arith)
half_at (x ∷ w) zero l = (refl, refl)
half_at (x ∷ w) (suc i) l =
    let e : 2 * suc i ≡ suc (suc (2 * i)) = omega arith in
    let f : 2 * suc i + 1 ≡ suc (suc (2 * i + 1)) = omega arith in
    let h = half_at w i (omega arith) in
    (rw e h.0, rw f h.1)

-- A list of all words of a buffer.
abbrev words : State → Turn → List ℕ
words d u = d.wait ++ d.left ++ (d.last ∷ u.late ∷ u.closed ∷ u.lowest ∷ []) ++ halves d.given ++ two_words d.empty

as_words : (d : State) (u : Turn) → buffer_of d u ≡ bytes_of (words d u)
unfolding buffer_of
as_words d u =
    let told = d.last ∷ u.late ∷ u.closed ∷ u.lowest ∷ [] in
    rw (
      bytes_append (d.wait ++ d.left ++ told ++ halves d.given) (two_words d.empty),
      bytes_append (d.wait ++ d.left ++ told) (halves d.given),
      bytes_append (d.wait ++ d.left) told,
      bytes_append d.wait d.left,
    )

-- A state whose lists have their length and whose numbers fit a word.
pub record Fits (d : State) : Type 0 where
  pub waits : length d.wait ≡ task_limit
  pub lefts : length d.left ≡ task_limit
  pub gives : length d.given ≡ task_limit
  pub wait_fits : (i : ℕ) → i < task_limit → get_or d.wait i 0 < word_limit
  pub left_fits : (i : ℕ) → i < task_limit → get_or d.left i 0 < word_limit
  pub last_fits : d.last < word_limit
  pub given_fits : (i : ℕ) → i < task_limit → get_or d.given i 0 < budget_limit
  pub empty_fits : d.empty < budget_limit

-- Numbers that are read where those of a list stand are that list.
pub list_back : (f : ℕ → ℕ) (w : List ℕ) → length w ≡ task_limit → ((i : ℕ) → i < task_limit → f i ≡ get_or w i 0) → fill task_limit f
    (replicate task_limit 0) ≡ w
list_back f w size same =
    ext_get_or 0 (fill task_limit f (replicate task_limit 0)) w (filled ∙ sym size)
    (λ i l. fill_passed task_limit f (replicate task_limit 0) i 0 (omega (arith, filled)) (omega (arith, filled, length-replicate {A = ℕ} task_limit 0))
    ∙ same i (omega (arith, filled)))
  where
    filled : length (fill task_limit f (replicate task_limit 0)) ≡ task_limit
    filled = fill_length task_limit f (replicate task_limit 0) ∙ length-replicate {A = ℕ} task_limit 0

module _ (d : State) (u : Turn) (fits : Fits d) where
  abbrev told : List ℕ
  told = d.last ∷ u.late ∷ u.closed ∷ u.lowest ∷ []

  abbrev front : List ℕ
  front = d.wait ++ d.left ++ told

  front_size : length front ≡ task_limit + task_limit + 4
  front_size = simp length-append (omega (arith, fits.waits, fits.lefts))

  gives_size : length (front ++ halves d.given) ≡ 4 * task_limit + 4
  gives_size = length-append front (halves d.given) ∙ omega (arith, front_size, halves_length d.given, fits.gives)

  size : length (words d u) ≡ 4 * task_limit + 6
  size = length-append (front ++ halves d.given) (two_words d.empty) ∙ omega (arith, gives_size)

  -- Where each stands among the words.
  front_word : (i : ℕ) → i < task_limit + task_limit + 4 → get_or (words d u) i 0 ≡ get_or front i 0
  front_word i l =
      get_or-append (front ++ halves d.given) (two_words d.empty) 0 i (omega (arith, gives_size))
      ∙ get_or-append front (halves d.given) 0 i (omega (arith, front_size))

  wait_word : (i : ℕ) → i < task_limit → get_or (words d u) i 0 ≡ get_or d.wait i 0
  wait_word i l =
      front_word i (omega arith)
      ∙ get_or-append (d.wait ++ d.left) told 0 i (simp length-append (omega (arith, fits.waits)))
      ∙ get_or-append d.wait d.left 0 i (omega (arith, fits.waits))

  left_word : (i : ℕ) → i < task_limit → get_or (words d u) (task_limit + i) 0 ≡ get_or d.left i 0
  left_word i l =
      front_word (task_limit + i) (omega arith)
      ∙ get_or-append (d.wait ++ d.left) told 0 (task_limit + i) (simp length-append (omega (arith, fits.waits, fits.lefts)))
      ∙ rw (← fits.waits) (get_or-append-add d.wait d.left i 0)

  told_word : (i : ℕ) → i < 4 → get_or (words d u) (task_limit + task_limit + i) 0 ≡ get_or told i 0
  told_word i l =
      let both : task_limit + task_limit ≡ length (d.wait ++ d.left) = simp length-append (omega (arith, fits.waits, fits.lefts)) in
      front_word (task_limit + task_limit + i) (omega arith) ∙ rw both (get_or-append-add (d.wait ++ d.left) told i 0)

  last_word : get_or (words d u) (task_limit + task_limit) 0 ≡ d.last
  last_word = told_word 0 (omega arith)

  given_word : (i : ℕ) → i < 2 * task_limit → get_or (words d u) (task_limit + task_limit + 4 + i) 0 ≡ get_or (halves d.given) i 0
  given_word i l =
      get_or-append (front ++ halves d.given) (two_words d.empty) 0 (task_limit + task_limit + 4 + i) (omega (arith, gives_size))
      ∙ rw (← front_size) (get_or-append-add front (halves d.given) i 0)

  empty_word : (i : ℕ) → get_or (words d u) (4 * task_limit + 4 + i) 0 ≡ get_or (two_words d.empty) i 0
  empty_word i = rw (← gives_size) (get_or-append-add (front ++ halves d.given) (two_words d.empty) i 0)

  read : (i at : ℕ) → i < 4 * task_limit + 6 → at ≡ 4 * i → get_or (words d u) i 0 < word_limit → four (buffer_of d u) at ≡ get_or (words d u) i 0
  read i at l e h = rw (as_words d u, e) (word_at (words d u) i (omega (arith, size)) h)

  -- A count is read from its two halves.
  read_count : (x i at : ℕ) → i + 1 < 4 * task_limit + 6 → at ≡ 4 * i → x < budget_limit → get_or (words d u) i 0 ≡ x % word_limit
      → get_or (words d u) (i + 1) 0 ≡ x / word_limit → eight (buffer_of d u) at ≡ x
  read_count x i at l e h low high =
      let first = read i at (omega arith) e (omega arith) in
      let second = read (i + 1) (at + 4) l (omega arith) (omega arith) in
      omega arith

  -- What a step said: the late set, its count and its lowest task.
  pub turn_back : u.late < word_limit → u.closed < word_limit → u.lowest < word_limit
      → (four (buffer_of d u) (8 * task_limit + 4) ≡ u.late) × (four (buffer_of d u) (8 * task_limit + 8) ≡ u.closed)
      × (four (buffer_of d u) (8 * task_limit + 12) ≡ u.lowest)
  turn_back late closed lowest = (
    word 1 (omega arith) (omega (arith, told_word 1 (omega arith))),
    word 2 (omega arith) (omega (arith, told_word 2 (omega arith))),
    word 3 (omega arith) (omega (arith, told_word 3 (omega arith))),
  )
    where
      word : (i : ℕ) → i < 4 → get_or (words d u) (task_limit + task_limit + i) 0 < word_limit → four (buffer_of d u) (8 * task_limit + 4 * i) ≡ get_or told i 0
      word i l h = read (task_limit + task_limit + i) (8 * task_limit + 4 * i) (omega arith) (omega arith) h ∙ told_word i l

  pub state_back : state_in (buffer_of d u) ≡ d
  unfolding state_in
  state_back =
      let wait : words_in (buffer_of d u) 0 ≡ d.wait = list_back _ d.wait fits.waits
      (λ i l. read i (0 + 4 * i) (omega arith) (omega arith) (omega (arith, wait_word i l, fits.wait_fits i l)) ∙ wait_word i l) in
      let left : words_in (buffer_of d u) (4 * task_limit) ≡ d.left = list_back _ d.left fits.lefts
      (λ i l. read (task_limit + i) (4 * task_limit + 4 * i) (omega arith) (omega arith) (omega (arith, left_word i l, fits.left_fits i l))
      ∙ left_word i l) in
      let last : four (buffer_of d u) (8 * task_limit) ≡ d.last = read (task_limit + task_limit) (8 * task_limit) (omega arith) (omega arith)
      (omega (arith, last_word, fits.last_fits)) ∙ last_word in
      let given : counts_in (buffer_of d u) counts_at ≡ d.given = list_back _ d.given fits.gives given_back in
      let empty : eight (buffer_of d u) (counts_at + 8 * task_limit) ≡ d.empty = read_count d.empty (4 * task_limit + 4 + 0)
      (counts_at + 8 * task_limit) (omega arith) (omega arith) fits.empty_fits (empty_word 0) (empty_word 1) in
      rw (wait, left, last, given, empty)
    where
      given_back : (i : ℕ) → i < task_limit → eight (buffer_of d u) (counts_at + 8 * i) ≡ get_or d.given i 0
      given_back i l =
          let h = half_at d.given i (omega (arith, fits.gives)) in
          let next : task_limit + task_limit + 4 + 2 * i + 1 ≡ task_limit + task_limit + 4 + (2 * i + 1) = omega arith in
          read_count (get_or d.given i 0) (task_limit + task_limit + 4 + 2 * i) (counts_at + 8 * i) (omega arith) (omega arith) (fits.given_fits i l)
          (given_word (2 * i) (omega arith) ∙ h.0) (rw next (given_word (2 * i + 1) (omega arith) ∙ h.1))

  pub buffer_size : length (buffer_of d u) ≡ state_bytes
  buffer_size = buffer_length d u fits.waits fits.lefts fits.gives

-- A state at the front of a buffer is read from there alone.
pub four_front : (a b : List ℕ) (at : ℕ) → at + 4 ≤ length a → four (a ++ b) at ≡ four a at
four_front a b at h =
    rw (
      get_or-append a b 0 at (omega arith),
      get_or-append a b 0 (at + 1) (omega arith),
      get_or-append a b 0 (at + 2) (omega arith),
      get_or-append a b 0 (at + 3) (omega arith),
    )

pub eight_front : (a b : List ℕ) (at : ℕ) → at + 8 ≤ length a → eight (a ++ b) at ≡ eight a at
eight_front a b at h = let low = four_front a b at (omega arith) in let high = four_front a b (at + 4) (omega arith) in omega arith

pub state_front : (a b : List ℕ) → length a ≡ state_bytes → state_in (a ++ b) ≡ state_in a
unfolding state_in
state_front a b size =
    let wait : words_in (a ++ b) 0 ≡ words_in a 0 = fill_eq task_limit _ _ (replicate task_limit 0) (λ i l. four_front a b (0 + 4 * i) (omega arith)) in
    let left : words_in (a ++ b) (4 * task_limit) ≡ words_in a (4 * task_limit) = fill_eq task_limit _ _ (replicate task_limit 0)
    (λ i l. four_front a b (4 * task_limit + 4 * i) (omega arith)) in
    let last : four (a ++ b) (8 * task_limit) ≡ four a (8 * task_limit) = four_front a b (8 * task_limit) (omega arith) in
    let given : counts_in (a ++ b) counts_at ≡ counts_in a counts_at = fill_eq task_limit _ _ (replicate task_limit 0)
    (λ i l. eight_front a b (counts_at + 8 * i) (omega arith)) in
    let empty : eight (a ++ b) (counts_at + 8 * task_limit) ≡ eight a (counts_at + 8 * task_limit) = eight_front a b (counts_at + 8 * task_limit)
    (omega arith) in
    rw (wait, left, last, given, empty)
