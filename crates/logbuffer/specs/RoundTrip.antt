-- What was written into a log's buffer is what is read from it.
use Rattle.std.specs.Prelude.{◌≡◌, Bool, true, false, not, ℕ, ◌+◌, ◌*◌, ◌/◌, ◌%◌, ◌≤◌, ◌<◌, eqb, length, get_or}
use Rattle.std.proofs.Math.Path.{refl, ap}
use Rattle.std.proofs.Common.{◌∙◌, arith, ne_eqb, get_or-append-add}
use mathlib.Core.List.{List, [], ◌∷◌, ◌++◌, append_assoc}
use Rattle.values.specs.declared.Finding.{Finding}
use Rattle.model.specs.Limits.{word_limit, log_limit}
use Rattle.model.specs.Notation.{bit}
use Rattle.model.specs.TableFile.{four, eight, two_words, bytes_of}
use Rattle.model.specs.StateBuffer.{state_bytes, buffer_of, state_in, quiet}
use Rattle.model.specs.Log.{Log}
use Rattle.model.specs.LogBuffer.{number_of, place_of, finding_of, log_buffer_of, log_in}
use Rattle.words.specs.Bytes.{bytes_append}
use Rattle.slotlog.specs.Kept.{Told}
use Rattle.statebuffer.specs.RoundTrip.{Fits, word_at, state_back, state_front, buffer_size}

-- A word is read behind what stands before it.
four_behind : (a b : List ℕ) (at : ℕ) → four (a ++ b) (length a + at) ≡ four b at
four_behind a b at =
    let one : length a + at + 1 ≡ length a + (at + 1) = omega arith in
    let two : length a + at + 2 ≡ length a + (at + 2) = omega arith in
    let three : length a + at + 3 ≡ length a + (at + 3) = omega arith in
    rw (one, two, three, get_or-append-add a b at 0, get_or-append-add a b (at + 1) 0, get_or-append-add a b (at + 2) 0, get_or-append-add a b (at + 3) 0)

bit_back : (b : Bool) → not (eqb (bit b) 0) ≡ b
bit_back true = refl
bit_back false = refl

finding_back : (f : Finding) → Told f → finding_of (number_of f) (place_of f) ≡ f
finding_back Finding.Nothing h = refl
finding_back Finding.Good h = refl
finding_back (Finding.Differs slot) h = refl
finding_back (Finding.Fault n p) (low, high, most) =
    rw (ne_eqb n 0 (λ e. absurd (omega arith)), ne_eqb n 1 (λ e. absurd (omega arith)), ne_eqb n 2 (λ e. absurd (omega arith)))

-- Both words of what is found fit.
finding_fits : (f : Finding) → Told f → (number_of f < word_limit) × (place_of f < word_limit)
finding_fits Finding.Nothing h = (omega arith, omega arith)
finding_fits Finding.Good h = (omega arith, omega arith)
finding_fits (Finding.Differs slot) h = (omega arith, omega arith)
finding_fits (Finding.Fault n p) (low, high, most) = (omega arith, omega arith)

bit_fits : (b : Bool) → bit b < word_limit
bit_fits true = omega arith
bit_fits false = omega arith

module _ (l : Log) (fits : Fits l.state) (told : Told l.found) (slots_le : l.slots ≤ log_limit) (bytes_le : l.bytes ≤ log_limit) where
  abbrev front : List ℕ
  front = buffer_of l.state quiet

  abbrev rest : List ℕ
  rest = (bit l.opened ∷ bit l.done ∷ number_of l.found ∷ place_of l.found ∷ []) ++ two_words l.slots ++ two_words l.bytes

  as_words : log_buffer_of l ≡ front ++ bytes_of rest
  unfolding log_buffer_of
  as_words =
      let said = bit l.opened ∷ bit l.done ∷ number_of l.found ∷ place_of l.found ∷ [] in
      rw (
        bytes_append (said ++ two_words l.slots) (two_words l.bytes),
        bytes_append said (two_words l.slots),
        ← append_assoc front (bytes_of said ++ bytes_of (two_words l.slots)) (bytes_of (two_words l.bytes)),
        ← append_assoc front (bytes_of said) (bytes_of (two_words l.slots)),
      )

  word : (i at : ℕ) → i < 8 → at ≡ state_bytes + 4 * i → get_or rest i 0 < word_limit → four (log_buffer_of l) at ≡ get_or rest i 0
  word i at h e small =
      let size : length front ≡ state_bytes = buffer_size l.state quiet fits in
      let place : at ≡ length front + 4 * i = omega arith in
      rw (as_words, place) (four_behind front (bytes_of rest) (4 * i) ∙ word_at rest i (omega arith) small)

  count : (x i at : ℕ) → i + 1 < 8 → at ≡ state_bytes + 4 * i → x ≤ log_limit → get_or rest i 0 ≡ x % word_limit → get_or rest (i + 1) 0 ≡ x / word_limit
      → eight (log_buffer_of l) at ≡ x
  count x i at h e most low high =
      let first = word i at (omega arith) e (omega arith) in
      let second = word (i + 1) (at + 4) h (omega arith) (omega arith) in
      omega arith

  pub log_back : log_in (log_buffer_of l) ≡ l
  unfolding log_in
  log_back =
      let (number_fits, place-fits) = finding_fits l.found told in
      let state : state_in (log_buffer_of l) ≡ l.state = ap state_in as_words ∙ state_front front (bytes_of rest) (buffer_size l.state quiet fits)
      ∙ state_back l.state quiet fits in
      let opened : four (log_buffer_of l) state_bytes ≡ bit l.opened = word 0 state_bytes (omega arith) (omega arith) (bit_fits l.opened) in
      let done : four (log_buffer_of l) (state_bytes + 4) ≡ bit l.done = word 1 (state_bytes + 4) (omega arith) (omega arith) (bit_fits l.done) in
      let number : four (log_buffer_of l) (state_bytes + 8) ≡ number_of l.found = word 2 (state_bytes + 8) (omega arith) (omega arith) number_fits in
      let place : four (log_buffer_of l) (state_bytes + 12) ≡ place_of l.found = word 3 (state_bytes + 12) (omega arith) (omega arith) place-fits in
      let slots : eight (log_buffer_of l) (state_bytes + 16) ≡ l.slots = count l.slots 4 (state_bytes + 16) (omega arith) (omega arith) slots_le refl refl in
      let bytes : eight (log_buffer_of l) (state_bytes + 24) ≡ l.bytes = count l.bytes 6 (state_bytes + 24) (omega arith) (omega arith) bytes_le refl refl in
      rw (state, opened, done, number, place, slots, bytes, bit_back l.opened, bit_back l.done, finding_back l.found told)
