-- DEMAND 1: each bad input is refused by number and place and changes nothing, and every call has one permitted result.
-- That no call traps or runs on is what being proved means, and is not said again. Each contract is an equation with,
-- or a permission by, the model's own word, for every input; so the theorems here speak of these words (`one_start` and
-- `one_step` of dispatch's too, `record_read`, `written_is_read` and `read_was_written` of tablefile's).
use Rattle.std.specs.Prelude.{◌≡◌, ◌↔◌, ◌⊎◌, List, [], ◌∷◌, Bool, true, false, cond, ℕ, suc, ◌+◌, ◌/◌, ◌%◌, ◌≤◌, ◌<◌, ltb, length, get_or, take, Ok, Err}
use Rattle.std.proofs.Math.Path.{refl}
use Rattle.std.proofs.Common.{sym, ap, subst, ◌∙◌, inl, inr, arith}
use Rattle.std.specs.Int.{◌∣◌}
use borrow.Author.Tests.{lt-ltb, le-ltb, eq-eqb, ne_eqb}
use Rattle.values.specs.declared.Task.{Task}
use Rattle.values.specs.declared.Table.{Table}
use Rattle.values.specs.declared.Refusal.{Refusal}
use Rattle.values.specs.declared.Measure.{Measure}
use Rattle.values.specs.declared.Answer.{Answer}
use Rattle.values.specs.declared.Contents.{Contents}
use Rattle.model.specs.Limits.{task_limit, slot_count_limit, sum_place, round_limit, report_bytes, budget_limit, budget_bytes}
use Rattle.model.specs.Limits.{task_bytes, button_bytes, longest_file}
use Rattle.model.specs.Values.{refusal, refusal_said, judgement_said, admission_said, slot_said, answer_said}
use Rattle.model.specs.Tasks.{task, is_button, round, measure, judged_mixed, judged, load, horizon}
use Rattle.model.specs.Verdict.{brief, Permitted}
use Rattle.model.specs.TableFile.{budget_kind, eight, admit, task_record, task_records, file_of, form_of, file_read}
use Rattle.model.specs.TableFile.{periodic_from}
use Rattle.model.specs.Run.{tie_order}
use Rattle.model.specs.Dispatcher.{State, slot_count, first_strange, last_strange, admitted as stateAdmitted, turn, after}
use Rattle.model.specs.Dispatcher.{turn_by, started, stepped, stepped_by, is_late, owner_now}
use Rattle.dispatch.specs.declared.Dispatcher.{Dispatcher}
use Rattle.dispatch.specs.declared.Started.{Started}
use Rattle.dispatch.specs.declared.Stepped.{Stepped}
use Rattle.dispatch.specs.State.{started_of, stepped_of, one_started, one_stepped}
use Rattle.model.specs.Report.{Exported, report_of, refused, report_written, FileTold, Checked, refusal_line, Printed}
use Rattle.model.specs.Notation.{count, first, bits}
use Rattle.wellformed.specs.Round.{round_pos, period_divides, round_least}
use Rattle.wellformed.specs.WellFormed.{mixed_iff, judged_iff, periodic_iff, refused_both}
use Rattle.backlog.proofs.Unique.{permitted_unique}
use Rattle.backlog.proofs.Computed.{answer_of, computed}
use Rattle.backlog.specs.Taken.{Belongs, belongs_after, slots_after}
use Rattle.tablefile.specs.declared.Record.{Record}
use Rattle.tablefile.specs.Reading.{reading_at}
use Rattle.tablefile.specs.Said.{record_said, numbers_at, Has, record_said_lem}
use Rattle.tablefile.specs.Admitted.{admitted}
use Rattle.tablefile.specs.Periodic.{periodic_refused}
use Rattle.tablefile.specs.Longer.{first_form, first_bytes}
use Rattle.tablefile.specs.Written as tablefile
use Rattle.tablefile.specs.Written.{AllFit, form_length, records_le, written_read, read_written}
pub use Rattle.telling.specs.Ranges.{InRanges, KeepsRanges}
pub use Rattle.telling.specs.Reported.{report_on, Reported}
use Rattle.telling.specs.Ranges.{ranges_iff}
use Rattle.telling.specs.FileTold.{told_once, told_some, told_refused, button_refused}
use Rattle.telling.specs.Reported.{taken, reported_or_refused, reported}
use Rattle.telling.specs.Steps.{state_admitted, refused_stays}

-- Where a contract says that the result is a word of the model's, every input has one permitted result (OneResult.antt).
-- Starting and stepping hand back records of their own, and have one permitted result too.
pub one_start : (t : Table) (d : Dispatcher) (a b : Started)
    → started_of a ≡ started t d.state → started_of b ≡ started t d.state → a ≡ b
one_start t d a b e f = one_started a b (e ∙ sym f)

pub one_step : (t : Table) (d : Dispatcher) (done : Bool) (a b : Stepped)
    → stepped_of a ≡ stepped t d.state done → stepped_of b ≡ stepped t d.state done → a ≡ b
one_step t d done a b e f = one_stepped a b (e ∙ sym f)

-- A table is well-formed exactly if it keeps its ranges (it has 1 to `task_limit` tasks,
-- each `InRanges`), and H its limit.
pub well_formed_exactly : (t : Table) (m : Measure)
    → (judged_mixed t ≡ Ok m) ↔ (KeepsRanges t × (round t ≤ round_limit) × (m ≡ measure t))
well_formed_exactly t m = (
  λ e. let (r, h, same) = (mixed_iff t m).0 e in ((ranges_iff t).1 r, h, same),
  λ (keeps, h, same). (mixed_iff t m).1 ((ranges_iff t).0 keeps, h, same),
)

-- Where only periodic tasks are allowed, it must also have no button.
pub periodic_exactly : (t : Table) (m : Measure)
    → (judged t ≡ Ok m)
    ↔ ((judged_mixed t ≡ Ok m) × ((i : ℕ) → i < t.count → is_button (task t i) ≡ false))
periodic_exactly = periodic_iff

-- Either judge then says 0 with H, load and horizon.
pub well_formed_said : (t : Table) (m : Measure) → judged t ≡ Ok m
    → judgement_said (judged t) ≡ 0 ∷ round t ∷ load t ∷ horizon t ∷ []
well_formed_said t m e = let (r, h, same, none) = (judged_iff t m).0 e in rw (e, same) refl

pub well_mixed_said : (t : Table) (m : Measure) → judged_mixed t ≡ Ok m
    → judgement_said (judged_mixed t) ≡ 0 ∷ round t ∷ load t ∷ horizon t ∷ []
well_mixed_said t m e = let (r, h, same) = (mixed_iff t m).0 e in rw (e, same) refl

-- H of a table that keeps its ranges, refused by 7 or not, is the least number above 0 that each period divides.
pub round_is_least : (t : Table) → KeepsRanges t
    → (0 < round t) × ((i : ℕ) → i < t.count → (task t i).period ∣ round t)
    × ((x : ℕ) → 0 < x → ((i : ℕ) → i < t.count → (task t i).period ∣ x) → round t ≤ x)
round_is_least t keeps = let r = (ranges_iff t).0 keeps in (round_pos t r, period_divides t r, round_least t r)

-- The exact test has one permitted answer to every table and budget.
pub one_answer : (t : Table) (budget : ℕ) (a b : Answer) → Permitted t budget a → Permitted t budget b → a ≡ b
one_answer = permitted_unique

pub some_answer : (t : Table) (budget : ℕ) → (a : Answer) × Permitted t budget a
some_answer t budget = (answer_of t budget, computed t budget)

-- The exported call has one permitted result, number and buffer, for every file and buffer.
pub one_export : (file buffer : List ℕ) (e f : Exported) → Checked file buffer e → Checked file buffer f → e ≡ f
one_export file buffer e f =
    told_once (λ r. refused r buffer) (report_written buffer) (file_read file) e f (taken report_bytes file buffer)

pub some_export : (file buffer : List ℕ) → (e : Exported) × Checked file buffer e
some_export file buffer = told_some (λ r. refused r buffer) (report_written buffer) (file_read file) (taken report_bytes file buffer)

-- The exported call writes the report on the permitted answer (`Reported`), of at most `report_bytes`,
-- and returns its length, or it refuses by a number above 0 and a place below 65,536 and changes no byte.
pub report_or_refusal : (file buffer : List ℕ) (e : Exported) → Checked file buffer e
    → Reported (file_read file) buffer e
    ⊎ ((r : Refusal) × (e ≡ refused r buffer) × ((0 < r.number) × (r.place < 65536)))
report_or_refusal = reported_or_refused

-- It reports on every file that is read and has no button, if the buffer is not short.
pub reported_export : (file buffer : List ℕ) (e : Exported) → ltb (length buffer) report_bytes ≡ false
    → (periodic_from file).admission ≡ Ok tt → Checked file buffer e → Reported (file_read file) buffer e
reported_export = reported

-- What an exported call returns of such a refusal tells its number and its place.
pub told_from_number : (r : Refusal) (buffer : List ℕ) → r.place < 65536
    → ((refused r buffer).number / 65536 ≡ r.number) × ((refused r buffer).number % 65536 ≡ r.place)
told_from_number r buffer h = (omega arith, omega arith)

-- The program too has one permitted output for every input.
pub one_print : (input out out' : List ℕ) → Printed input out → Printed input out' → out ≡ out'
one_print input out out' = told_once refusal_line report_of (file_read input) out out' (file_read input).admission

pub some_print : (input : List ℕ) → (out : List ℕ) × Printed input out
some_print input = told_some refusal_line report_of (file_read input) (file_read input).admission

-- What it prints of one byte more than the longest legal file has is permitted of the whole input.
pub whole_input : (input out : List ℕ) → Printed (take (suc longest_file) input) out → Printed input out
whole_input input out = subst (λ (l : Contents). FileTold refusal_line report_of l out l.admission) (first_bytes input)

-- Nor does what the calls read of a file, its form and its table, depend on any byte behind these.
pub whole_file : (file : List ℕ)
    → (form_of (take (suc longest_file) file) ≡ form_of file) × (file_read (take (suc longest_file) file) ≡ file_read file)
whole_file file = (first_form file, first_bytes file)

-- A file is read exactly if its form is good and its table well-formed, and is then as its form has it.
pub read_exactly : (file : List ℕ)
    → ((file_read file).admission ≡ Ok tt)
    ↔ (((form_of file).admission ≡ Ok tt)
    × ((m : Measure) × (judged_mixed (form_of file).table ≡ Ok m)))
unfolding file_read
read_exactly file = (
  λ h. let (same, well) = admitted file h in (ap (λ (l : Contents). l.admission) (sym same) ∙ h, well),
  λ (good, (m, well)). rw (good, well) refl,
)

pub read_as_formed : (file : List ℕ) → (file_read file).admission ≡ Ok tt → file_read file ≡ form_of file
read_as_formed file h = (admitted file h).0

-- A file that is read, and a start on a well-formed table, say 0.
pub read_said : (file : List ℕ) (m : Measure) → (form_of file).admission ≡ Ok tt
    → judged_mixed (form_of file).table ≡ Ok m → admission_said (file_read file).admission ≡ 0 ∷ []
read_said file m good well = ap admission_said ((read_exactly file).1 (good, (m, well)))

pub started_said : (t : Table) (d : State) (m : Measure) → judged t ≡ Ok m
    → admission_said (started t d).admission ≡ 0 ∷ []
unfolding started
started_said t d m well = rw well refl

-- The file of any budget of eight bytes above 0 and of at most `task_limit` tasks, each number below 2^32,
-- has a good form and holds these.
pub written_is_read : (b : ℕ) (ks : List Task) → 0 < b → b < budget_limit → AllFit ks → length ks ≤ task_limit
    → form_of (file_of b ks) ≡ admit b ks
written_is_read = written_read

-- A list of bytes whose form is good is the file of its budget and of the tasks of its table:
-- there is no other good form.
pub read_was_written : (file : List ℕ) → ((i : ℕ) → get_or file i 0 < 256) → (form_of file).admission ≡ Ok tt
    → (0 < (form_of file).budget)
    × ((form_of file).budget < budget_limit)
    × ((ks : List Task) × (length ks ≤ task_limit) × AllFit ks
    × (file ≡ file_of (form_of file).budget ks) × (form_of file ≡ admit (form_of file).budget ks))
read_was_written = read_written

-- A file that begins with a whole budget of 0 is refused by 27 at 0, whatever follows.
pub nothing_read : (file : List ℕ) → get_or file 0 0 ≡ budget_kind → budget_bytes ≤ length file → eight file 1 ≡ 0
    → (admission_said (form_of file).admission ≡ 27 ∷ 0 ∷ []) × (admission_said (file_read file).admission ≡ 27 ∷ 0 ∷ [])
unfolding file_read
nothing_read file kind long none = rw (tablefile.nothing_read file kind long none) (refl, refl)

-- A file whose form is good has the bytes of a budget, of each task, by its sort, and of the end,
-- and so no more than the longest legal file.
pub legal_length : (file : List ℕ) → (form_of file).admission ≡ Ok tt
    → (ks : List Task) × (length ks ≤ task_limit) × (form_of file ≡ admit (form_of file).budget ks)
    × (length file ≡ budget_bytes + length (task_records ks) + 1) × (length file ≤ longest_file)
legal_length file h =
    let (ks, few, same, size) = form_length file h in
    let whole = tablefile.file_length (form_of file).budget ks in
    (ks, few, same, omega arith, omega (arith, records_le ks))

pub record_bytes_lem : (k : Task) → length (task_record k) ≡ cond (is_button k) button_bytes task_bytes
record_bytes_lem = tablefile.record_length

-- A refused file, or one with a button, leaves the report buffer as it was.
pub refused_export : (file buffer : List ℕ) (e : Exported) (r : Refusal) → ltb (length buffer) report_bytes ≡ false
    → (periodic_from file).admission ≡ Err r → Checked file buffer e → e ≡ refused r buffer
refused_export file buffer e r long q checked = elim (periodic_refused file r q) [
  | inl f ↦ told_refused (λ r. refused r buffer) (report_written buffer)
      (file_read file) e r (taken report_bytes file buffer) (rw long f) checked
  | inr (f, j) ↦ button_refused (λ r. refused r buffer) (report_written buffer)
      (file_read file) e r (taken report_bytes file buffer) (rw long f) j checked
]

-- A short buffer is refused by 30 at its length, before the file is looked at, and stays as it was.
pub short_buffer_lem : (file buffer : List ℕ) (e : Exported)
    → ltb (length buffer) report_bytes ≡ true → Checked file buffer e → e ≡ refused (refusal 30 (length buffer)) buffer
short_buffer_lem file buffer e short =
    told_refused (λ r. refused r buffer) (report_written buffer)
    (file_read file) e (refusal 30 (length buffer)) (taken report_bytes file buffer) (rw short)

-- The refusal of a table is handed on as it is: by its judge, of a file whose form is good, by a start and by a step.
pub refused_table : (t : Table) (r : Refusal) → judged t ≡ Err r
    → judgement_said (judged t) ≡ refusal_said r
refused_table t r e = rw e refl

pub refused_mixed_table : (t : Table) (r : Refusal) → judged_mixed t ≡ Err r
    → (judgement_said (judged_mixed t) ≡ refusal_said r) × (judgement_said (judged t) ≡ refusal_said r)
refused_mixed_table t r e = (rw e refl, rw (refused_both t r e) refl)

pub refused_read : (file : List ℕ) (r : Refusal) → (form_of file).admission ≡ Ok tt
    → judged_mixed (form_of file).table ≡ Err r → admission_said (file_read file).admission ≡ refusal_said r
unfolding file_read
refused_read file r good e = rw (good, e) refl

pub refused_start : (t : Table) (d : State) (r : Refusal) → judged t ≡ Err r
    → (admission_said (started t d).admission ≡ refusal_said r) × ((started t d).state ≡ d)
unfolding started
refused_start t d r e = rw e (refl, refl)

pub refused_table_step : (t : Table) (d : State) (done : Bool) (r : Refusal)
    → judged t ≡ Err r → slot_said (stepped t d done).answer ≡ refusal_said r
unfolding stepped_by stateAdmitted
refused_table_step t d done r e = rw e refl

-- A file whose form is bad is refused for it, whatever its table.
pub refused_form : (file : List ℕ) (r : Refusal) → (form_of file).admission ≡ Err r
    → admission_said (file_read file).admission ≡ refusal_said r
unfolding file_read
refused_form file r e = rw e refl

-- A record that is read has the numbers that stand in the file: its kind byte, and those of its body.
pub record_read : (s : List ℕ) (at n : ℕ) (k : Record)
    → reading_at s at n ≡ Ok k → record_said k ≡ numbers_at s at
record_read s at n k e = subst (Has (numbers_at s at)) e (record_said_lem s at n)

-- A table that is refused is refused by the test with the same number and place, and nothing else is told.
pub refused_answer : (t : Table) (budget : ℕ) (r : Refusal) (a : Answer) → judged t ≡ Err r
    → Permitted t budget a → a ≡ brief (Err r) (record { round = 0; load = 0; horizon = 0 }) 0
unfolding Permitted
refused_answer t budget r a e p = rw e at p

pub refused_answer_said : (t : Table) (budget : ℕ) (r : Refusal) (a : Answer)
    → judged t ≡ Err r → Permitted t budget a → answer_said a ≡ refusal_said r
refused_answer_said t budget r a e p = ap answer_said (refused_answer t budget r a e p)

-- A state that does not belong to a well-formed table is refused by 8 with the first such task,
-- with `task_limit` for the last-run number, or with `sum_place` for more slots than can be counted;
-- one that can count no slot more is refused by 9.
module _ (t : Table) (m : Measure) (d : State) (done : Bool) (well : judged t ≡ Ok m) where
  pub strange_state_lem : first_strange t d < t.count → slot_said (stepped t d done).answer ≡ 8 ∷ first_strange t d ∷ []
  unfolding stepped_by stateAdmitted
  strange_state_lem h = rw (well, lt-ltb (first_strange t d) t.count h) refl

  module _ (each : t.count ≤ first_strange t d) where
    pub strange_last : last_strange t d ≡ true → slot_said (stepped t d done).answer ≡ 8 ∷ task_limit ∷ []
    unfolding stepped_by stateAdmitted
    strange_last last = rw (well, le-ltb (first_strange t d) t.count each, last) refl

    pub strange_sum : last_strange t d ≡ false → slot_count_limit < slot_count t d
        → slot_said (stepped t d done).answer ≡ 8 ∷ sum_place ∷ []
    unfolding stepped_by stateAdmitted
    strange_sum last more =
        rw (well, le-ltb (first_strange t d) t.count each, last, lt-ltb slot_count_limit (slot_count t d) more) refl

    pub full_state_lem : last_strange t d ≡ false → slot_count t d ≡ slot_count_limit
        → slot_said (stepped t d done).answer ≡ 9 ∷ 0 ∷ []
    unfolding stepped_by
    full_state_lem last full =
        rw (state_admitted t m well d each last (omega arith), eq-eqb (slot_count t d) slot_count_limit full) refl

    -- Every other state is taken.
    pub taken_state : last_strange t d ≡ false → slot_count t d < slot_count_limit
        → stepped t d done ≡ record { answer = Ok (turn t d done); state = after t d done }
    unfolding stepped_by
    taken_state last room =
        let more = ne_eqb (slot_count t d) slot_count_limit (λ e. absurd (omega arith)) in
        rw (state_admitted t m well d each last (omega arith), more) refl

    -- The answer is then 0 with the owner, the tasks closed late as a set of bits, how many,
    -- and the lowest of them or none.
    pub taken_said : last_strange t d ≡ false → slot_count t d < slot_count_limit
        → slot_said (stepped t d done).answer ≡ 0 ∷ owner_now t d done ∷ bits (is_late t d done) task_limit
        ∷ count (is_late t d done) task_limit ∷ first (is_late t d done) 0 task_limit ∷ []
    unfolding turn_by
    taken_said last room = rw (taken_state last room) refl

-- A state that is taken leads to one that counts one slot more and that 8 does not refuse, whoever made it: once a step
-- is not refused, none after it is until no slot more can be counted. A state has `task_limit` entries in each list.
pub taken_next : (t : Table) (m : Measure) (d : State) (done : Bool) → judged t ≡ Ok m
    → length d.wait ≡ task_limit → length d.left ≡ task_limit
    → length d.given ≡ task_limit → t.count ≤ first_strange t d → last_strange t d ≡ false
    → let next = after t d done in
    (length next.wait ≡ task_limit) × (length next.left ≡ task_limit) × (length next.given ≡ task_limit)
    × (t.count ≤ first_strange t next) × (last_strange t next ≡ false) × (slot_count t next ≡ slot_count t d + 1)
taken_next t m d done well waits lefts gives each ran =
    let r = ((judged_iff t m).0 well).0 in
    let belongs : Belongs t d = record { waits = waits; lefts = lefts; gives = gives; each = each; ran = ran } in
    let b = belongs_after t r (tie_order t) d done belongs in
    (b.waits, b.lefts, b.gives, b.each, b.ran, slots_after t r (tie_order t) d done belongs)

-- A refused step hands the state back as it came.
pub refused_step : (t : Table) (d : State) (done : Bool) (r : Refusal)
    → (stepped t d done).answer ≡ Err r → (stepped t d done).state ≡ d
refused_step = refused_stays
