-- A log's judge in a lent buffer, and the exported start, piece and finish.
use Rattle.std.specs.Prelude.{List, [], ◌∷◌, ◌++◌, cond, not, ℕ, ◌+◌, ◌*◌, eqb, get_or, Ok, Err}
use Rattle.model.specs.Notation.{bit}
use Rattle.model.specs.Values.{Admission, Finding, finding_said}
use Rattle.model.specs.Limits.{word_limit}
use Rattle.model.specs.TableFile.{four, eight, two_words, bytes_of}
use Rattle.model.specs.Report.{Exported, refused}
use Rattle.model.specs.StateBuffer.{state_bytes, buffer_of, state_in, quiet, on_file}
use Rattle.model.specs.Log.{Log, log_started, fed, log_finished}

-- The bytes of a log's buffer: those of a state buffer, four words, and two counts.
abbrev pub log_bytes : ℕ
log_bytes = state_bytes + 4 * 4 + 8 * 2

-- What is found as two words: its number, and its place, or 0 where it has none; and back.
abbrev pub number_of : Finding → ℕ
number_of f = get_or (finding_said f) 0 0

abbrev pub place_of : Finding → ℕ
place_of f = get_or (finding_said f) 1 0

abbrev pub finding_of : ℕ → ℕ → Finding
finding_of n p =
    cond (eqb n 0) Finding.Nothing
    (cond (eqb n 1) Finding.Good
    (cond (eqb n 2) (Finding.Differs p)
    (Finding.Fault n p)))

-- The dispatcher's state as in a state buffer; whether a record is open, and whether a done report waits;
-- what was found; the slots and the bytes.
unfoldable pub log_buffer_of : Log → List ℕ
log_buffer_of l =
    buffer_of l.state quiet
    ++ bytes_of (bit l.opened ∷ bit l.done ∷ number_of l.found ∷ place_of l.found ∷ [])
    ++ bytes_of (two_words l.slots) ++ bytes_of (two_words l.bytes)

-- The log in a buffer: a record is open, and a report waits, for any word but 0.
unfoldable pub log_in : List ℕ → Log
log_in buffer =
    record {
      state = state_in buffer;
      opened = not (eqb (four buffer state_bytes) 0);
      done = not (eqb (four buffer (state_bytes + 4)) 0);
      slots = eight buffer (state_bytes + 16);
      bytes = eight buffer (state_bytes + 24);
      found = finding_of (four buffer (state_bytes + 8)) (four buffer (state_bytes + 12));
    }

-- What a call returns that is not refused: 2^32 times the number of what is found so far, and its place.
-- The whole buffer is written. A refusal, which writes nowhere, is below 2^32.
abbrev pub answer_number : Finding → ℕ
answer_number f = word_limit * number_of f + place_of f

abbrev pub log_written : List ℕ → Log → Admission → Exported
log_written buffer l (Err r) = refused r buffer
log_written buffer l (Ok u) = record { number = answer_number l.found; buffer = log_buffer_of l }

-- The one permitted result of each on any file and any buffer: 50, the file's form, the table,
-- the state with its places of 8 up to the last.
abbrev pub log_start_exported : List ℕ → List ℕ → Exported
log_start_exported file buffer =
    on_file log_bytes file buffer (λ t. let f = log_started t (log_in buffer) in log_written buffer f.log f.admission)

abbrev pub log_feed_exported : List ℕ → List ℕ → List ℕ → Exported
log_feed_exported file buffer piece =
    on_file log_bytes file buffer (λ t. let f = fed t (log_in buffer) piece in log_written buffer f.log f.admission)

abbrev pub log_finish_exported : List ℕ → List ℕ → Exported
log_finish_exported file buffer =
    on_file log_bytes file buffer (λ t. let f = log_finished t (log_in buffer) in log_written buffer f.log f.admission)

-- Pieces one after another in one buffer, and the whole judge: a start in a lent buffer, the pieces, and the finish.
unfoldable pub feeds_in : List ℕ → List ℕ → List (List ℕ) → List ℕ
feeds_in file buffer [] = buffer
feeds_in file buffer (piece ∷ more) = feeds_in file (log_feed_exported file buffer piece).buffer more

abbrev pub judged_in : List ℕ → List ℕ → List (List ℕ) → Exported
judged_in file lent pieces = log_finish_exported file (feeds_in file (log_start_exported file lent).buffer pieces)
