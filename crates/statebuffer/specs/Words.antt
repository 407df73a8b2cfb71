-- The parts of a state put one after another.
use Rattle.std.specs.Prelude.{◌≡◌, refl, List, [], ◌∷◌, ◌++◌, ℕ, ◌+◌, ◌*◌, ◌<◌, length, get_or, take}
use Rattle.std.proofs.Common.{◌∙◌, append-nil, add-one, arith, length-append, length-take-le, take-suc}
use Rattle.std.proofs.lemmas.List.Edits.{sets-eq}
use Rattle.std.proofs.Math.Seq.{drop-length}
use Rattle.values.specs.declared.Turn.{Turn}
use Rattle.model.specs.Limits.{task_limit}
use Rattle.model.specs.Dispatcher.{State}
use Rattle.model.specs.TableFile.{word_bytes, two_words, bytes_of}
use Rattle.model.specs.StateBuffer.{state_bytes, halves, buffer_of}
use Rattle.counting.specs.Put.{Put, join}
use Rattle.words.specs.declared.Out.{Out}
use Rattle.words.specs.Out.{Fits, Puts, both, second}
use Rattle.words.specs.Bytes.{bytes_append, bytes_length}

-- A piece as long as the buffer is all that the buffer then holds.
pub whole : {piece before after : List ℕ} {next : ℕ} → Put piece 0 before after next → length before ≡ length piece → after ≡ piece
whole {piece} {before} p h =
    let all : 0 + length piece ≡ length before = omega arith in
    p.bytes ∙ sets-eq piece before 0 (omega arith) ∙ rw (all, drop-length before, append-nil piece)

halves_append : (a b : List ℕ) → halves (a ++ b) ≡ halves a ++ halves b
unfolding halves
halves_append [] b = refl
halves_append (x ∷ a) b = rw (halves_append a b)

pub halves_length : (w : List ℕ) → length (halves w) ≡ 2 * length w
unfolding halves
halves_length [] = refl
halves_length (x ∷ w) = omega (arith, halves_length w)

one_half : (x : ℕ) → halves (x ∷ []) ≡ two_words x
unfolding halves
one_half x = refl

-- A turn of the loop that puts counts.
pub one_count : (w : List ℕ) (i : ℕ) {before between after : List ℕ} {at middle next : ℕ} → i < length w
    → Put (bytes_of (halves (take i w))) at before between middle → Put (bytes_of (two_words (get_or w i 0))) middle between after next
    → Put (bytes_of (halves (take (i + 1) w))) at before after next
one_count w i h p q =
    rw (
      add-one i,
      take-suc w i 0,
      halves_append (take i w) (get_or w i 0 ∷ []),
      one_half (get_or w i 0),
      bytes_append (halves (take i w)) (two_words (get_or w i 0)),
    ) (join p q)

-- Where the bytes of all counts fit, those of the next one do; and they stand behind those before them.
pub next_fits : (w : List ℕ) (i : ℕ) {old between : Out} → i < length w → Puts (bytes_of (halves (take i w))) old between → Fits (bytes_of (halves w)) old
    → Fits (bytes_of (two_words (get_or w i 0))) between
next_fits w i {old} h p f =
    let these : Fits (bytes_of (halves (take i w)) ++ bytes_of (two_words (get_or w i 0))) old =
    record {
      room = omega (
        arith,
        f.room,
        bytes_length (halves w),
        halves_length w,
        bytes_length (halves (take i w)),
        halves_length (take i w),
        length-take-le i w (omega arith),
        bytes_length (two_words (get_or w i 0)),
        length-append (bytes_of (halves (take i w))) (bytes_of (two_words (get_or w i 0))),
      );
    } in
    second p these

pub next_count : (w : List ℕ) (i : ℕ) {old between new : Out} → i < length w → Puts (bytes_of (halves (take i w))) old between
    → Puts (bytes_of (two_words (get_or w i 0))) between new → Puts (bytes_of (halves (take (i + 1) w))) old new
next_count w i h p q =
    rw (
      add-one i,
      take-suc w i 0,
      halves_append (take i w) (get_or w i 0 ∷ []),
      one_half (get_or w i 0),
      bytes_append (halves (take i w)) (two_words (get_or w i 0)),
    ) (both p q)

-- A state whose lists have their length, in bytes.
pub buffer_length : (d : State) (u : Turn) → length d.wait ≡ task_limit → length d.left ≡ task_limit → length d.given ≡ task_limit
    → length (buffer_of d u) ≡ state_bytes
unfolding buffer_of bytes_of
buffer_length d u waits lefts gives =
    simp length-append (omega (arith, bytes_length d.wait, bytes_length d.left, bytes_length (halves d.given), halves_length d.given))

-- The parts of a state, put one after another.
pub state_put : (d : State) (u : Turn) {b₀ b₁ b₂ b₃ b₄ b₅ b₆ b₇ b₈ : List ℕ} {a₁ a₂ a₃ a₄ a₅ a₆ a₇ a₈ : ℕ} → Put (bytes_of d.wait) 0 b₀ b₁ a₁
    → Put (bytes_of d.left) a₁ b₁ b₂ a₂
    → Put (word_bytes d.last) a₂ b₂ b₃ a₃ → Put (word_bytes u.late) a₃ b₃ b₄ a₄ → Put (word_bytes u.closed) a₄ b₄ b₅ a₅
    → Put (word_bytes u.lowest) a₅ b₅ b₆ a₆
    → Put (bytes_of (halves d.given)) a₆ b₆ b₇ a₇ → Put (bytes_of (two_words d.empty)) a₇ b₇ b₈ a₈ → Put (buffer_of d u) 0 b₀ b₈ a₈
unfolding buffer_of bytes_of
state_put d u wait left last late closed lowest given empty = join (join (join (join wait left) (join last (join late (join closed lowest)))) given) empty
