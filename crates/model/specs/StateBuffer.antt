-- The dispatcher's state in a lent buffer, and the exported start and step of a camera's own loop.
use Rattle.std.specs.Prelude.{List, [], ◌∷◌, ◌++◌, cond, not, ℕ, zero, suc, ◌+◌, ◌*◌, min, eqb, length, replicate, Ok, Err}
use Rattle.model.specs.Notation.{fill}
use Rattle.model.specs.Values.{Table, Admission, Turn, SlotAnswer, refusal}
use Rattle.model.specs.Limits.{task_limit}
use Rattle.model.specs.TableFile.{four, eight, two_words, bytes_of, form_of}
use Rattle.model.specs.Dispatcher.{State, started, stepped}
use Rattle.model.specs.Report.{Exported, refused}

-- The bytes of a state buffer: four for each wait, for each number of slots left, and for the four words after them;
-- then eight for each count of slots.
abbrev pub counts_at : ℕ
counts_at = 4 * (task_limit + task_limit + 4)

abbrev pub state_bytes : ℕ
state_bytes = counts_at + 8 * (task_limit + 1)

-- Numbers of eight bytes, as two words each.
unfoldable pub halves : List ℕ → List ℕ
halves [] = []
halves (x ∷ w) = two_words x ++ halves w

-- The waits, the slots left, which task ran last; what the step said: the late set, its count and its lowest task;
-- the slots given to each task, and the empty ones.
unfoldable pub buffer_of : State → Turn → List ℕ
buffer_of d u =
    bytes_of d.wait ++ bytes_of d.left ++ bytes_of (d.last ∷ u.late ∷ u.closed ∷ u.lowest ∷ [])
    ++ bytes_of (halves d.given) ++ bytes_of (two_words d.empty)

-- The state in a buffer. What the last step said is not read.
abbrev pub words_in : List ℕ → ℕ → List ℕ
words_in buffer at = fill task_limit (λ i. four buffer (at + 4 * i)) (replicate task_limit 0)

abbrev pub counts_in : List ℕ → ℕ → List ℕ
counts_in buffer at = fill task_limit (λ i. eight buffer (at + 8 * i)) (replicate task_limit 0)

unfoldable pub state_in : List ℕ → State
state_in buffer =
    record {
      wait = words_in buffer 0;
      left = words_in buffer (4 * task_limit);
      last = four buffer (8 * task_limit);
      given = counts_in buffer counts_at;
      empty = eight buffer (counts_at + 8 * task_limit);
    }

-- What a start says: no task had a slot, and none was closed.
abbrev pub quiet : Turn
quiet = record { owner = task_limit; late = 0; closed = 0; lowest = task_limit }

-- A start returns 0, a step the owner of the slot; each writes the whole buffer. A refusal writes nowhere.
abbrev pub start_written : List ℕ → State → Admission → Exported
start_written buffer d (Err r) = refused r buffer
start_written buffer d (Ok u) = record { number = 0; buffer = buffer_of d quiet }

abbrev pub step_written : List ℕ → State → SlotAnswer → Exported
step_written buffer d (Err r) = refused r buffer
step_written buffer d (Ok u) = record { number = u.owner; buffer = buffer_of d u }

-- The order of the refusals: 50 for a buffer that is not this long, at its length or the largest place;
-- the file's form; the table; the state.
abbrev pub on_file : ℕ → List ℕ → List ℕ → (Table → Exported) → Exported
on_file bytes file buffer go =
    let unfit = Err (refusal 50 (min (length buffer) 65535)) in
    let admission = cond (eqb (length buffer) bytes) (form_of file).admission unfit in
    elim admission [ Err r ↦ refused r buffer | Ok _ ↦ go (form_of file).table ]

-- The one permitted result of each on any file and any buffer; a done report is any number but 0.
abbrev pub start_exported : List ℕ → List ℕ → Exported
start_exported file buffer =
    on_file state_bytes file buffer (λ t. let s = started t (state_in buffer) in start_written buffer s.state s.admission)

abbrev pub step_exported : List ℕ → List ℕ → ℕ → Exported
step_exported file buffer done =
    on_file state_bytes file buffer
    (λ t. let s = stepped t (state_in buffer) (not (eqb done 0)) in step_written buffer s.state s.answer)

-- A camera's loop: a start in a lent buffer, and then steps in it. The buffer that step n is handed;
-- `done n` is what it is told.
unfoldable pub handed : List ℕ → List ℕ → (ℕ → ℕ) → ℕ → List ℕ
handed file lent done zero = (start_exported file lent).buffer
handed file lent done (suc n) = (step_exported file (handed file lent done n) (done n)).buffer
