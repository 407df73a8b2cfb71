-- The dispatcher of tables with buttons in a lent buffer: the exported start and step that take presses. The buffer is that
-- of a camera's own loop.
use Rattle.std.specs.Prelude.{List, not, ℕ, zero, suc, ◌+◌, ◌*◌, eqb, Ok, Err}
use Rattle.model.specs.Values.{SlotAnswer}
use Rattle.model.specs.Limits.{word_limit}
use Rattle.model.specs.Dispatcher.{State}
use Rattle.model.specs.Presses.{started_mixed, stepped_pressed}
use Rattle.model.specs.Report.{Exported, refused}
use Rattle.model.specs.StateBuffer.{state_bytes, buffer_of, state_in, start_written, on_file}

-- A step returns the presses that it did not take and, below them, the owner of the slot, and writes the whole buffer.
-- A refusal takes no press and writes nowhere.
abbrev pub press_written : List ℕ → State → ℕ → SlotAnswer → Exported
press_written buffer d untaken (Err r) = refused r buffer
press_written buffer d untaken (Ok u) =
    record { number = word_limit * untaken + u.owner; buffer = buffer_of d u }

-- The one permitted result of each on any file and any buffer; a done report is any number but 0.
abbrev pub press_start_exported : List ℕ → List ℕ → Exported
press_start_exported file buffer =
    on_file state_bytes file buffer
    (λ t. let s = started_mixed t (state_in buffer) in start_written buffer s.state s.admission)

abbrev pub press_step_exported : List ℕ → List ℕ → ℕ → ℕ → Exported
press_step_exported file buffer done pressed =
    on_file state_bytes file buffer
    (λ t. let s = stepped_pressed t (state_in buffer) (not (eqb done 0)) pressed in
    press_written buffer s.state s.untaken s.answer)

-- The loop: a start in a lent buffer, and then steps in it. The buffer that step n is handed;
-- `done n` and `pressed n` are what it is told.
unfoldable pub handed_pressed : List ℕ → List ℕ → (ℕ → ℕ) → (ℕ → ℕ) → ℕ → List ℕ
handed_pressed file lent done pressed zero = (press_start_exported file lent).buffer
handed_pressed file lent done pressed (suc n) =
    (press_step_exported file (handed_pressed file lent done pressed n) (done n) (pressed n)).buffer
