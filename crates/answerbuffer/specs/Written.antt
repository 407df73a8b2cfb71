-- An answer at the front of a buffer.
use Rattle.std.specs.Prelude.{◌≡◌, List, [], ◌∷◌, ◌++◌, ℕ, ◌+◌, ◌≤◌, length, drop}
use Rattle.std.proofs.Common.{◌∙◌, arith, length-append}
use Rattle.std.proofs.lemmas.List.Edits.{sets-eq}
use Rattle.values.specs.declared.AnswerNumbers.{AnswerNumbers}
use Rattle.model.specs.Limits.{task_limit}
use Rattle.model.specs.TableFile.{bytes_of}
use Rattle.model.specs.StateBuffer.{halves}
use Rattle.model.specs.AnswerBuffer.{answer_bytes, answer_buffer}
use Rattle.counting.specs.Put.{Put}
use Rattle.words.specs.Bytes.{bytes_length}
use Rattle.statebuffer.specs.Words.{halves_length}

-- The numbers of eight bytes, and those of four.
abbrev pub longs_of : AnswerNumbers → List ℕ
longs_of x = x.round ∷ x.load ∷ x.horizon ∷ x.settled ∷ x.idle ∷ x.from ∷ x.to ∷ x.demand ∷ []

abbrev pub words_of : AnswerNumbers → List ℕ
words_of x = x.tasks ∷ x.quick ∷ x.verdict ∷ 0 ∷ x.worst

pub answer_length : (x : AnswerNumbers) → length x.worst ≡ task_limit → length (answer_buffer x) ≡ answer_bytes
unfolding answer_buffer
answer_length x size =
    length-append (bytes_of (halves (longs_of x))) (bytes_of (words_of x))
    ∙ omega (arith, bytes_length (halves (longs_of x)), halves_length (longs_of x), bytes_length (words_of x), size)

pub at_front : {piece before after : List ℕ} {next : ℕ} (n : ℕ) → Put piece 0 before after next → length piece ≡ n → n ≤ length before
    → after ≡ piece ++ drop n before
at_front {piece} {before} n p size room =
    let all : 0 + length piece ≡ n = omega arith in
    p.bytes ∙ sets-eq piece before 0 (omega arith) ∙ rw all
