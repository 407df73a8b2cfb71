-- The report on an answer, byte for byte; the exported calls on a file; the program's output.
use Rattle.values.specs.declared.ByDistance.{ByDistance}
use Rattle.values.specs.declared.Quick.{Quick}
use Rattle.std.specs.Prelude.{List, [], ◌++◌, Bool, true, false, cond, ◌≡◌, ℕ, zero, suc, ◌+◌, ◌*◌, ltb, get_or, length, drop, Ok, Err}
use Rattle.model.specs.Notation.{text, decimal}
use Rattle.model.specs.Values.{Table, Refusal, Verdict, Outcome, Answer, QuickAnswer, DistanceAnswer, Admission}
use Rattle.model.specs.Values.{Contents, refusal}
use Rattle.model.specs.Limits.{report_bytes}
use Rattle.model.specs.TableFile.{form_of, file_read}
use Rattle.model.specs.Verdict.{Permitted}
use Rattle.model.specs.Patterns.{quick_pass, quick_answer, distance_answer}

-- A line of the report.
abbrev pub line : List ℕ → List ℕ
line words = words ++ text "\n"

-- The word of the verdict.
abbrev pub verdict_word : Verdict → List ℕ
verdict_word Verdict.Passes = text "passes"
verdict_word Verdict.Overload = text "overload"
verdict_word (Verdict.Late from to asked) = text "late"
verdict_word Verdict.Undecided = text "undecided"

-- The word of the quick test: whether it passes.
abbrev pub quick_word : Bool → List ℕ
quick_word true = text "pass"
quick_word false = text "none"

-- The worst response of each of the first n tasks.
unfoldable pub worst_lines : List ℕ → ℕ → List ℕ
worst_lines worst zero = []
worst_lines worst (suc n) =
    worst_lines worst n ++ line (text "worst " ++ decimal n ++ text " " ++ decimal (get_or worst n 0))

-- What follows the settled count: the worst responses and the first idle instant after 0,
-- or the interval of a late deadline.
abbrev pub details : ℕ → Answer → Verdict → List ℕ
details n a Verdict.Passes = worst_lines a.worst n ++ line (text "idle " ++ decimal a.idle)
details n a Verdict.Overload = []
details n a (Verdict.Late from to asked) =
    line (text "interval " ++ decimal from ++ text " " ++ decimal to ++ text " demand " ++ decimal asked)
details n a Verdict.Undecided = []

-- The report of a verdict on a table of n tasks, which the quick test passes or not.
unfoldable pub report_of : ℕ → Bool → Answer → Verdict → List ℕ
report_of n quick a v =
    line (text "tasks " ++ decimal n)
    ++ line (text "load " ++ decimal a.measure.load ++ text "/" ++ decimal a.measure.round)
    ++ line (text "quick " ++ quick_word quick)
    ++ line (text "horizon " ++ decimal a.measure.horizon)
    ++ line (text "verdict " ++ verdict_word v)
    ++ line (text "settled " ++ decimal a.settled)
    ++ details n a v

-- What an exported call does: the number that it returns, and what the buffer then holds.
pub record Exported : Type 0 where
  pub number : ℕ
  pub buffer : List ℕ

-- A refusal is 65,536 · number + place, and writes nowhere.
abbrev pub refusal_number : Refusal → ℕ
refusal_number r = 65536 * r.number + r.place

abbrev pub refused : Refusal → List ℕ → Exported
refused r buffer = record { number = refusal_number r; buffer = buffer }

-- A report is written from the front of the buffer, and its length returned. Bytes behind it stay as found.
abbrev pub written : List ℕ → List ℕ → Exported
written report buffer = record { number = length report; buffer = report ++ drop (length report) buffer }

-- What an outcome is told as: `refuse` of its refusal, or `tell` of the verdict and of what comes with it.
abbrev pub outcome_told : {A : Type 0} → (Refusal → A) → (ℕ → Bool → Answer → Verdict → A) → ℕ → Bool → Answer → Outcome → A
outcome_told refuse tell n quick a (Err r) = refuse r
outcome_told refuse tell n quick a (Ok v) = tell n quick a v

-- What a file may be told as: the refusal of its form or table, or of a short buffer,
-- or the outcome of the permitted answer.
abbrev pub FileTold : {A : Type 0} → (Refusal → A) → (ℕ → Bool → Answer → Verdict → A) → Contents → A → Admission → Type 0
FileTold refuse tell l x (Err r) = x ≡ refuse r
FileTold refuse tell l x (Ok u) =
    (a : Answer) × Permitted l.table l.budget a
    × (x ≡ outcome_told refuse tell l.table.count (quick_pass l.table) a a.outcome)

-- The one permitted result of a check on any file and any buffer, which tells an answer in this many bytes at most.
-- A shorter buffer is refused by 30 before all else.
abbrev pub CheckedBy : ℕ → (ℕ → Bool → Answer → Verdict → Exported) → List ℕ → List ℕ → Exported → Type 0
CheckedBy bytes tell file buffer e =
    let admission =
    cond (ltb (length buffer) bytes) (Err (refusal 30 (length buffer)))
    (file_read file).admission in
    FileTold (λ r. refused r buffer) tell (file_read file) e admission

-- Of the check that writes a report.
abbrev pub report_written : List ℕ → ℕ → Bool → Answer → Verdict → Exported
report_written buffer n quick a v = written (report_of n quick a v) buffer

abbrev pub Checked : List ℕ → List ℕ → Exported → Type 0
Checked file buffer = CheckedBy report_bytes (report_written buffer) file buffer

-- The number that an exported call on any file alone returns: the refusal of its form, or what it says of its table.
abbrev pub file_number : List ℕ → (Table → ℕ) → ℕ
file_number file tell = elim (form_of file).admission [
  | Err r ↦ refusal_number r
  | Ok _ ↦ tell (form_of file).table
]

-- Of the quick test: 1 for pass, 0 for no answer, or the refusal of the table.
abbrev pub quick_number : QuickAnswer → ℕ
quick_number (Err r) = refusal_number r
quick_number (Ok Quick.Pass) = 1
quick_number (Ok Quick.NoAnswer) = 0

abbrev pub quick_exported : List ℕ → ℕ
quick_exported file = file_number file (λ t. quick_number (quick_answer t))

-- Of the distance test: 2 for overload, 1 for pass, 0 for no answer, or the refusal of the table.
abbrev pub distance_number : DistanceAnswer → ℕ
distance_number (Err r) = refusal_number r
distance_number (Ok ByDistance.Overload) = 2
distance_number (Ok ByDistance.Pass) = 1
distance_number (Ok ByDistance.NoAnswer) = 0

abbrev pub distance_exported : List ℕ → ℕ
distance_exported file = file_number file (λ t. distance_number (distance_answer t))

-- The line that names a refusal.
abbrev pub refusal_line : Refusal → List ℕ
refusal_line r = line (text "refused " ++ decimal r.number ++ text " at " ++ decimal r.place)

-- The one permitted output of the program on any input: the report, or the line of the refusal.
abbrev pub Printed : List ℕ → List ℕ → Type 0
Printed input out = FileTold refusal_line report_of (file_read input) out (file_read input).admission
