-- The values of crate `values` by their names, and each case of an answer as a list:
-- the specification's number first (0 where nothing is refused), then its values.
use Rattle.std.specs.Prelude.{List, [], ◌∷◌, ℕ, Result, Ok, Err, ⊤}
pub use Rattle.values.specs.declared.Sort.{Sort}
pub use Rattle.values.specs.declared.Task.{Task}
pub use Rattle.values.specs.declared.Table.{Table}
pub use Rattle.values.specs.declared.Refusal.{Refusal}
pub use Rattle.values.specs.declared.Measure.{Measure}
pub use Rattle.values.specs.declared.Verdict.{Verdict}
pub use Rattle.values.specs.declared.Limit.{Limit}
pub use Rattle.values.specs.declared.Change.{Change}
pub use Rattle.values.specs.declared.Answer.{Answer}
pub use Rattle.values.specs.declared.AnswerNumbers.{AnswerNumbers}
pub use Rattle.values.specs.declared.Quick.{Quick}
pub use Rattle.values.specs.declared.ByDistance.{ByDistance}
pub use Rattle.values.specs.declared.Easing.{Easing}
pub use Rattle.values.specs.declared.Contents.{Contents}
pub use Rattle.values.specs.declared.Entry.{Entry}
pub use Rattle.values.specs.declared.State.{State}
pub use Rattle.values.specs.declared.Turn.{Turn}
pub use Rattle.values.specs.declared.Finding.{Finding}

-- The answers that may be a refusal: of a table's judge, of the exact test, of a file or a start, of a writer, of a step, of the
-- quick test, of the distance test, of the largest cost, of what would fit.
abbrev pub Judgement : Type 0
Judgement = Result Measure Refusal

abbrev pub Outcome : Type 0
Outcome = Result Verdict Refusal

abbrev pub Admission : Type 0
Admission = Result ⊤ Refusal

abbrev pub Writing : Type 0
Writing = Result ℕ Refusal

abbrev pub SlotAnswer : Type 0
SlotAnswer = Result Turn Refusal

abbrev pub QuickAnswer : Type 0
QuickAnswer = Result Quick Refusal

abbrev pub DistanceAnswer : Type 0
DistanceAnswer = Result ByDistance Refusal

abbrev pub LargestCost : Type 0
LargestCost = Result Limit Refusal

abbrev pub Fit : Type 0
Fit = Result Limit Refusal

-- What a line of a plain text says: an entry, or the number of its fault.
abbrev pub Line : Type 0
Line = Result Entry ℕ

-- A verdict: its number in the order in which they are said, and the slots that are settled; then the interval and demand
-- of a late one, or of one that passes the first idle instant and the worst responses.
abbrev pub verdict_said : Verdict → ℕ → ℕ → List ℕ → List ℕ
verdict_said Verdict.Overload settled idle worst = 1 ∷ settled ∷ []
verdict_said Verdict.Undecided settled idle worst = 2 ∷ settled ∷ []
verdict_said (Verdict.Late from to demand) settled idle worst = 3 ∷ settled ∷ from ∷ to ∷ demand ∷ []
verdict_said Verdict.Passes settled idle worst = 4 ∷ settled ∷ idle ∷ worst

-- A refusal: its number and its place.
abbrev pub refusal : ℕ → ℕ → Refusal
refusal n p = record { number = n; place = p }

abbrev pub refusal_said : Refusal → List ℕ
refusal_said r = r.number ∷ r.place ∷ []

-- The whole answer of the test: a refusal, or 0 and a verdict.
abbrev pub outcome_said : Outcome → ℕ → ℕ → List ℕ → List ℕ
outcome_said (Err r) settled idle worst = refusal_said r
outcome_said (Ok v) settled idle worst = 0 ∷ verdict_said v settled idle worst

abbrev pub answer_said : Answer → List ℕ
answer_said a = outcome_said a.outcome a.settled a.idle a.worst

-- Of a table's judge: a refusal, or 0 with H, load and horizon.
abbrev pub judgement_said : Judgement → List ℕ
judgement_said (Err r) = refusal_said r
judgement_said (Ok m) = 0 ∷ m.round ∷ m.load ∷ m.horizon ∷ []

-- Of a file or a start: a refusal, or 0. Of a writer: a refusal, or 0 with the bytes written.
-- Of a step: a refusal, or 0 with the owner, the late set, its count and its lowest task.
abbrev pub admission_said : Admission → List ℕ
admission_said (Err r) = refusal_said r
admission_said (Ok u) = 0 ∷ []

abbrev pub writing_said : Writing → List ℕ
writing_said (Err r) = refusal_said r
writing_said (Ok n) = 0 ∷ n ∷ []

-- Of the quick test: a refusal, or 0 with 1 for pass, 0 with 0 for no answer.
abbrev pub quick_said : QuickAnswer → List ℕ
quick_said (Err r) = refusal_said r
quick_said (Ok Quick.Pass) = 0 ∷ 1 ∷ []
quick_said (Ok Quick.NoAnswer) = 0 ∷ 0 ∷ []

-- Of the distance test: a refusal, or 0 with 2 for overload, 0 with 1 for pass, 0 with 0 for no answer.
abbrev pub distance_said : DistanceAnswer → List ℕ
distance_said (Err r) = refusal_said r
distance_said (Ok ByDistance.Overload) = 0 ∷ 2 ∷ []
distance_said (Ok ByDistance.Pass) = 0 ∷ 1 ∷ []
distance_said (Ok ByDistance.NoAnswer) = 0 ∷ 0 ∷ []

abbrev pub slot_said : SlotAnswer → List ℕ
slot_said (Err r) = refusal_said r
slot_said (Ok s) = 0 ∷ s.owner ∷ s.late ∷ s.closed ∷ s.lowest ∷ []

-- Of the largest cost: a refusal, of two entries; the verdict's number alone,
-- where the table does not pass; or 0 with that cost.
abbrev pub cost_said : LargestCost → List ℕ
cost_said (Err r) = refusal_said r
cost_said (Ok Limit.Overload) = 1 ∷ []
cost_said (Ok Limit.Undecided) = 2 ∷ []
cost_said (Ok Limit.Late) = 3 ∷ []
cost_said (Ok (Limit.At c)) = 0 ∷ c ∷ []

-- Of what would fit: a refusal, of two entries; the verdict's number alone, where there is no such number;
-- or 0 with the number.
abbrev pub fit_said : Fit → List ℕ
fit_said (Err r) = refusal_said r
fit_said (Ok Limit.Overload) = 1 ∷ []
fit_said (Ok Limit.Undecided) = 2 ∷ []
fit_said (Ok Limit.Late) = 3 ∷ []
fit_said (Ok (Limit.At n)) = 0 ∷ n ∷ []

-- Of a log: 0 for nothing found yet, 1 for good, 2 with the slot that differs, or a fault's number, from 40 on,
-- with the place of its byte.
abbrev pub finding_said : Finding → List ℕ
finding_said Finding.Nothing = 0 ∷ []
finding_said Finding.Good = 1 ∷ []
finding_said (Finding.Differs slot) = 2 ∷ slot ∷ []
finding_said (Finding.Fault n p) = n ∷ p ∷ []
