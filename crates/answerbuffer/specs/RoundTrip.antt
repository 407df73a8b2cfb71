-- The numbers that were written into an answer's buffer are those that are read from it.
use Rattle.std.specs.Prelude.{◌≡◌, List, ◌++◌, ℕ, ◌+◌, ◌*◌, ◌%◌, ◌/◌, ◌<◌, get_or}
use Rattle.std.proofs.Common.{◌∙◌, arith, get_or-append-add}
use Rattle.std.proofs.Math.ListN.{length}
use Rattle.values.specs.declared.AnswerNumbers.{AnswerNumbers}
use Rattle.model.specs.Limits.{task_limit, word_limit, budget_limit}
use Rattle.model.specs.TableFile.{four, eight, bytes_of}
use Rattle.model.specs.StateBuffer.{halves, words_in}
use Rattle.model.specs.AnswerBuffer.{answer_buffer, numbers_in}
use Rattle.words.specs.Bytes.{bytes_length}
use Rattle.statebuffer.specs.Words.{halves_length}
use Rattle.statebuffer.specs.RoundTrip.{behind, word_at, half_at, list_back, four_front, eight_front}
use Rattle.answerbuffer.specs.Written.{longs_of, words_of, answer_length}

-- Each number of eight bytes is read where it was written.
long_at : (w : List ℕ) (i : ℕ) → i < length w → get_or w i 0 < budget_limit → eight (bytes_of (halves w)) (8 * i) ≡ get_or w i 0
long_at w i l h =
    let (low, high) = half_at w i l in
    let first : 8 * i ≡ 4 * (2 * i) = omega arith in
    let second : 8 * i + 4 ≡ 4 * (2 * i + 1) = omega arith in
    let lower : four (bytes_of (halves w)) (8 * i) ≡ get_or w i 0 % word_limit =
    rw first (word_at (halves w) (2 * i) (omega (arith, halves_length w)) (omega (arith, low)) ∙ low) in
    let upper : four (bytes_of (halves w)) (8 * i + 4) ≡ get_or w i 0 / word_limit =
    rw second (word_at (halves w) (2 * i + 1) (omega (arith, halves_length w)) (omega (arith, high)) ∙ high) in
    omega arith

-- Behind a front the bytes are read as they stand.
four_past : (a b : List ℕ) (at : ℕ) → four (a ++ b) (length a + at) ≡ four b at
four_past a b at =
    let one : length a + at + 1 ≡ length a + (at + 1) = omega arith in
    let two : length a + at + 2 ≡ length a + (at + 2) = omega arith in
    let three : length a + at + 3 ≡ length a + (at + 3) = omega arith in
    rw (
      one,
      two,
      three,
      get_or-append-add a b at 0,
      get_or-append-add a b (at + 1) 0,
      get_or-append-add a b (at + 2) 0,
      get_or-append-add a b (at + 3) 0,
    )

-- Numbers that fit their bytes.
pub record NumbersFit (x : AnswerNumbers) : Type 0 where
  pub round : x.round < budget_limit
  pub load : x.load < budget_limit
  pub horizon : x.horizon < budget_limit
  pub settled : x.settled < budget_limit
  pub idle : x.idle < budget_limit
  pub from : x.from < budget_limit
  pub to : x.to < budget_limit
  pub demand : x.demand < budget_limit
  pub tasks : x.tasks < word_limit
  pub quick : x.quick < word_limit
  pub verdict : x.verdict < word_limit
  pub worsts : length x.worst ≡ task_limit
  pub worst : (i : ℕ) → i < task_limit → get_or x.worst i 0 < word_limit

module _ (x : AnswerNumbers) (rest : List ℕ) (fits : NumbersFit x) where
  abbrev longs : List ℕ
  longs = bytes_of (halves (longs_of x))

  abbrev buffer : List ℕ
  buffer = answer_buffer x ++ rest

  longs_length : length longs ≡ 64
  longs_length = omega (arith, bytes_length (halves (longs_of x)), halves_length (longs_of x))

  long : (i at : ℕ) → i < 8 → at ≡ 8 * i → get_or (longs_of x) i 0 < budget_limit → eight buffer at ≡ get_or (longs_of x) i 0
  unfolding answer_buffer
  long i at l e h =
      rw e
      (eight_front (answer_buffer x) rest (8 * i) (omega (arith, answer_length x fits.worsts))
      ∙ eight_front longs (bytes_of (words_of x)) (8 * i) (omega (arith, longs_length))
      ∙ long_at (longs_of x) i (omega arith) h)

  word : (i at : ℕ) → i < 4 + task_limit → at ≡ 64 + 4 * i → get_or (words_of x) i 0 < word_limit → four buffer at ≡ get_or (words_of x) i 0
  unfolding answer_buffer
  word i at l e h =
      let place : at ≡ length longs + 4 * i = omega (arith, longs_length) in
      rw place
      (four_front (answer_buffer x) rest (length longs + 4 * i) (omega (arith, longs_length, answer_length x fits.worsts))
      ∙ four_past longs (bytes_of (words_of x)) (4 * i)
      ∙ word_at (words_of x) i (omega (arith, fits.worsts)) h)

  worsts : words_in buffer 80 ≡ x.worst
  worsts = list_back _ x.worst fits.worsts one
    where
      one : (i : ℕ) → i < task_limit → four buffer (80 + 4 * i) ≡ get_or x.worst i 0
      one i l =
          let same = behind x.tasks x.quick x.verdict 0 x.worst i in
          word (4 + i) (80 + 4 * i) (omega arith) (omega arith) (omega (arith, same, fits.worst i l)) ∙ same

  pub numbers_back : numbers_in (answer_buffer x ++ rest) ≡ x
  unfolding numbers_in
  numbers_back =
      rw (
        long 0 0 (omega arith) (omega arith) fits.round,
        long 1 8 (omega arith) (omega arith) fits.load,
        long 2 16 (omega arith) (omega arith) fits.horizon,
        long 3 24 (omega arith) (omega arith) fits.settled,
        long 4 32 (omega arith) (omega arith) fits.idle,
        long 5 40 (omega arith) (omega arith) fits.from,
        long 6 48 (omega arith) (omega arith) fits.to,
        long 7 56 (omega arith) (omega arith) fits.demand,
        word 0 64 (omega arith) (omega arith) fits.tasks,
        word 1 68 (omega arith) (omega arith) fits.quick,
        word 2 72 (omega arith) (omega arith) fits.verdict,
        worsts,
      )
