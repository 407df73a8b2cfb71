-- DEMAND 1, call by call: every public call whose contract says that its result is a word of the model's has one permitted
-- result for every input. The table of docs/PROMISES.md names these calls and words in the same order.
use Rattle.std.specs.Prelude.{◌≡◌, List, ℕ}
use Rattle.std.proofs.Common.{sym, ◌∙◌}
use Rattle.values.specs.declared.Table.{Table}
use Rattle.model.specs.Tasks.{judged, judged_mixed}
use Rattle.model.specs.TableFile.{form_of, file_read, periodic_from}
use Rattle.model.specs.Writer.{file_written, write_exported}
use Rattle.model.specs.PlainText.{text_form, text_written, from_text, to_text, from_text_exported, to_text_exported}
use Rattle.model.specs.Patterns.{quick_answer, distance_answer}
use Rattle.model.specs.Largest.{cost_answer, largest_exported}
use Rattle.model.specs.Room.{room_answer, room_exported}
use Rattle.model.specs.ReportRead.{passes_exported}
use Rattle.model.specs.Report.{quick_exported, distance_exported}
use Rattle.model.specs.Easing.{eased_exported}
use Rattle.model.specs.StateBuffer.{start_exported, step_exported}
use Rattle.model.specs.PressBuffer.{press_start_exported, press_step_exported}
use Rattle.model.specs.LogBuffer.{log_start_exported, log_feed_exported, log_finish_exported}

-- Two results that are both this word are equal.
abbrev pub One : {A : Type 0} → A → Type 0
One {A} said = (a b : A) → a ≡ said → b ≡ said → a ≡ b

pub one_result : {A : Type 0} (said : A) → One said
one_result said a b e f = e ∙ sym f

pub each_one_result :
    ((t : Table) → One (judged_mixed t) × One (judged t))
    × ((file : List ℕ) → One (file_read file) × One (periodic_from file) × One (form_of file))
    × ((t : Table) (budget : ℕ) (buffer : List ℕ) → One (file_written t budget buffer))
    × ((text : List ℕ) → One (text_form text))
    × ((t : Table) (budget : ℕ) (buffer : List ℕ) → One (text_written t budget buffer))
    × ((bytes buffer : List ℕ) → One (from_text bytes buffer) × One (to_text bytes buffer))
    × ((t : Table) → One (quick_answer t) × One (distance_answer t))
    × ((t : Table) (i budget : ℕ) → One (cost_answer t i budget) × One (room_answer t i))
    × ((report : List ℕ) → One (passes_exported report))
    × ((file : List ℕ) → One (quick_exported file) × One (distance_exported file))
    × ((old new : List ℕ) → One (eased_exported old new))
    × ((file : List ℕ) (i : ℕ) → One (largest_exported file i) × One (room_exported file i))
    × ((file buffer : List ℕ) → One (start_exported file buffer))
    × ((file buffer : List ℕ) (done : ℕ) → One (step_exported file buffer done))
    × ((file buffer : List ℕ) → One (press_start_exported file buffer))
    × ((file buffer : List ℕ) (done pressed : ℕ) → One (press_step_exported file buffer done pressed))
    × ((file buffer piece : List ℕ)
    → One (log_start_exported file buffer) × One (log_feed_exported file buffer piece) × One (log_finish_exported file buffer))
    × ((words : List ℕ) (budget : ℕ) (buffer : List ℕ) → One (write_exported words budget buffer))
    × ((bytes buffer : List ℕ) → One (from_text_exported bytes buffer) × One (to_text_exported bytes buffer))
each_one_result = (
  λ t. (one_result _, one_result _),
  λ file. (one_result _, one_result _, one_result _),
  λ t budget buffer. one_result _,
  λ text. one_result _,
  λ t budget buffer. one_result _,
  λ bytes buffer. (one_result _, one_result _),
  λ t. (one_result _, one_result _),
  λ t i budget. (one_result _, one_result _),
  λ report. one_result _,
  λ file. (one_result _, one_result _),
  λ old new. one_result _,
  λ file i. (one_result _, one_result _),
  λ file buffer. one_result _,
  λ file buffer done. one_result _,
  λ file buffer. one_result _,
  λ file buffer done pressed. one_result _,
  λ file buffer piece. (one_result _, one_result _, one_result _),
  λ words budget buffer. one_result _,
  λ bytes buffer. (one_result _, one_result _),
)
