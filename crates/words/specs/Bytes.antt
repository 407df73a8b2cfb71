-- Words put into a buffer one after another.
use Rattle.std.specs.Prelude.{◌≡◌, refl, List, [], ◌∷◌, ◌++◌, ℕ, suc, ◌+◌, ◌*◌, ◌<◌, length, get_or, set, take}
use Rattle.std.proofs.Common.{add-one, arith, take-suc, length-append, length-take-le}
use Rattle.model.specs.TableFile.{word_bytes, bytes_of}
use Rattle.counting.specs.Put.{Put, join}
use Rattle.words.specs.declared.Out.{Out}
use Rattle.words.specs.Out.{Fits, Puts, both, second}

-- Four bytes put one by one.
pub four_put : {l : List ℕ} {at a b c d p q r s : ℕ} → p ≡ a → q ≡ b → r ≡ c → s ≡ d
    → Put (a ∷ b ∷ c ∷ d ∷ []) at l (set (set (set (set l at p) (at + 1) q) (at + 2) r) (at + 3) s) (at + 4)
four_put {at = at} first second third fourth =
    let one : at + 1 ≡ suc at = omega arith in
    let two : at + 2 ≡ suc (suc at) = omega arith in
    let three : at + 3 ≡ suc (suc (suc at)) = omega arith in
    record { bytes = rw (one, two, three, first, second, third, fourth); place = omega arith }

pub bytes_append : (a b : List ℕ) → bytes_of (a ++ b) ≡ bytes_of a ++ bytes_of b
unfolding bytes_of
bytes_append [] b = refl
bytes_append (x ∷ a) b = rw (bytes_append a b)

pub bytes_length : (w : List ℕ) → length (bytes_of w) ≡ 4 * length w
unfolding bytes_of
bytes_length [] = refl
bytes_length (x ∷ w) = omega (arith, bytes_length w)

one_word : (x : ℕ) → bytes_of (x ∷ []) ≡ word_bytes x
unfolding bytes_of
one_word x = refl

-- A turn of the loop that puts words.
pub one_more : (w : List ℕ) (i : ℕ) {before between after : List ℕ} {at middle next : ℕ} → i < length w
    → Put (bytes_of (take i w)) at before between middle → Put (word_bytes (get_or w i 0)) middle between after next
    → Put (bytes_of (take (i + 1) w)) at before after next
one_more w i h p q =
    rw (add-one i, take-suc w i 0, bytes_append (take i w) (get_or w i 0 ∷ []), one_word) (join p q)

-- Where the bytes of all words fit, those of the next one do; and they stand behind those before them.
pub next_fits : (w : List ℕ) (i : ℕ) {old between : Out} → i < length w → Puts (bytes_of (take i w)) old between → Fits (bytes_of w) old
    → Fits (word_bytes (get_or w i 0)) between
next_fits w i {old} h p f =
    let these : Fits (bytes_of (take i w) ++ word_bytes (get_or w i 0)) old =
    record {
      room = omega (
        arith,
        f.room,
        bytes_length w,
        bytes_length (take i w),
        length-take-le i w (omega arith),
        length-append (bytes_of (take i w)) (word_bytes (get_or w i 0)),
      );
    } in
    second p these

pub next_word : (w : List ℕ) (i : ℕ) {old between new : Out} → i < length w → Puts (bytes_of (take i w)) old between
    → Puts (word_bytes (get_or w i 0)) between new → Puts (bytes_of (take (i + 1) w)) old new
next_word w i h p q = rw (add-one i, take-suc w i 0, bytes_append (take i w) (get_or w i 0 ∷ []), one_word) (both p q)
