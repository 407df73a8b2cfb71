-- The parts of a log's buffer, put one after another.
use Rattle.std.specs.Prelude.{◌≡◌, not, List, [], ◌∷◌, ℕ, ◌+◌, eqb, length}
use Rattle.std.proofs.Common.{sym, ◌∙◌, arith, length-append}
use Rattle.model.specs.Notation.{bit}
use Rattle.model.specs.TableFile.{four, eight, word_bytes, two_words, bytes_of}
use Rattle.model.specs.StateBuffer.{state_bytes, buffer_of, quiet}
use Rattle.model.specs.Log.{Log}
use Rattle.model.specs.LogBuffer.{log_bytes, number_of, place_of, finding_of, log_buffer_of}
use Rattle.counting.specs.Put.{Put, join}
use Rattle.slotlog.specs.declared.Reading.{Reading}
use Rattle.slotlog.specs.Fits.{Sized}
use Rattle.statebuffer.specs.Words.{whole, buffer_length}

-- What is kept beside the dispatcher, in a buffer.
abbrev pub reading_in : List ℕ → Reading
reading_in buffer =
    record {
      opened = not (eqb (four buffer state_bytes) 0);
      done = not (eqb (four buffer (state_bytes + 4)) 0);
      slots = eight buffer (state_bytes + 16);
      bytes = eight buffer (state_bytes + 24);
      found = finding_of (four buffer (state_bytes + 8)) (four buffer (state_bytes + 12));
    }

-- Its words.
abbrev pub words_of : Reading → List ℕ
words_of r = bit r.opened ∷ bit r.done ∷ number_of r.found ∷ place_of r.found ∷ []

pub words_put : (r : Reading) (a b c d : ℕ) {b₀ b₁ b₂ b₃ b₄ : List ℕ} {at a₁ a₂ a₃ a₄ : ℕ} → a ≡ bit r.opened → b ≡ bit r.done
    → c ≡ number_of r.found → d ≡ place_of r.found
    → Put (word_bytes a) at b₀ b₁ a₁ → Put (word_bytes b) a₁ b₁ b₂ a₂ → Put (word_bytes c) a₂ b₂ b₃ a₃ → Put (word_bytes d) a₃ b₃ b₄ a₄
    → Put (bytes_of (words_of r)) at b₀ b₄ a₄
unfolding bytes_of
words_put r a b c d opened done number place p q s u = rw (← opened, ← done, ← number, ← place) (join p (join q (join s u)))

-- A log is as long as its buffer.
pub log_length : (l : Log) → Sized l.state → length (log_buffer_of l) ≡ log_bytes
unfolding log_buffer_of bytes_of
log_length l size = simp length-append (omega (arith, buffer_length l.state quiet size.waits size.lefts size.gives))

-- The parts, one after another, fill it.
pub log_whole : (l : Log) {b₀ b₁ b₂ b₃ b₄ : List ℕ} {a₁ a₂ a₃ a₄ : ℕ} → length b₀ ≡ log_bytes → Sized l.state
    → Put (buffer_of l.state quiet) 0 b₀ b₁ a₁ → Put (bytes_of (bit l.opened ∷ bit l.done ∷ number_of l.found ∷ place_of l.found ∷ [])) a₁ b₁ b₂ a₂
    → Put (bytes_of (two_words l.slots)) a₂ b₂ b₃ a₃ → Put (bytes_of (two_words l.bytes)) a₃ b₃ b₄ a₄ → b₄ ≡ log_buffer_of l
unfolding log_buffer_of
log_whole l full size state words slots bytes = whole (join (join (join state words) slots) bytes) (full ∙ sym (log_length l size))
