-- What is written is read, with the same budget and tasks; what was read is written, with the same bytes.
use Rattle.model.specs.Values.{Judgement}
use Rattle.std.specs.Prelude.{◌≡◌, refl, ◌≢◌, List, ◌++◌, Bool, true, false, cond, ℕ, ◌≤◌, ◌<◌, ltb, eqb, length, get_or, take, drop, Ok, Err}
use Rattle.std.proofs.Common.{sym, ap, ◌∙◌, arith, ne_eqb, length-take-le, take_at, get_or-take}
use Rattle.std.proofs.lemmas.Bool.{eqb-false}
use Rattle.std.proofs.Math.ListN.{get_or-append}
use Rattle.values.specs.declared.Task.{Task}
use Rattle.values.specs.declared.Table.{Table}
use Rattle.values.specs.declared.Measure.{Measure}
use Rattle.values.specs.declared.Contents.{Contents}
use Rattle.model.specs.Limits.{task_limit, budget_limit}
use Rattle.model.specs.Tasks.{no_task, task, measure, judged_mixed}
use Rattle.model.specs.TableFile.{table_of, admit, file_of, judged_form, form_of, file_read}
use Rattle.model.specs.Writer.{unwritten, fitted, budgeted, tasks_of, file_written, written_by}
use Rattle.wellformed.specs.Ranges.{Ranged, holds_all}
use Rattle.wellformed.specs.WellFormed.{well_mixed, same_well_formed}
use Rattle.tablefile.specs.Admitted.{admitted}
use Rattle.tablefile.specs.Written.{AllFit, written_read, read_written}

-- A table of tasks has these tasks.
pub tasks_back : (ks : List Task) → tasks_of (table_of ks) ≡ ks
tasks_back ks = take_at ks _ (length ks) refl

-- The tasks of a table that keeps its ranges fit their words.
ranged_fit : (t : Table) → Ranged t → AllFit (tasks_of t)
ranged_fit t r i l =
    let size : length (tasks_of t) ≡ t.count = length-take-le t.count t.tasks (holds_all t r) in
    let k = r.each i (omega arith) in
    rw (get_or-take t.count t.tasks i no_task (omega arith)) (
      omega (arith, k.offset_le),
      omega (arith, k.cost_le, k.deadline_le, k.period_le),
      omega (arith, k.deadline_le, k.period_le),
      omega (arith, k.period_le),
    )

module _ (t : Table) (m : Measure) (b : ℕ) (well : judged_mixed t ≡ Ok m) where
  ranged : Ranged t
  ranged = (well_mixed t m well).ranged

  size : length (tasks_of t) ≡ t.count
  size = length-take-le t.count t.tasks (holds_all t ranged)

  -- The tasks of a well-formed table are few and fit their words.
  pub few_and_fit : (length (tasks_of t) ≤ task_limit) × AllFit (tasks_of t)
  few_and_fit = (omega (arith, size, ranged.few), ranged_fit t ranged)

  -- A table of these tasks is well-formed too.
  pub tasks_well_formed : judged_mixed (table_of (tasks_of t)) ≡ Ok (measure (table_of (tasks_of t)))
  tasks_well_formed =
      let same : (i : ℕ) → i < t.count → task (table_of (tasks_of t)) i ≡ task t i = λ i l. get_or-append (tasks_of t) _ no_task i
      (omega (arith, size)) ∙ get_or-take t.count t.tasks i no_task l in
      same_well_formed t (table_of (tasks_of t)) m size same well

  -- What has a form that holds this budget and these tasks is read as such.
  pub formed_reads : {l : Contents} → l ≡ admit b (tasks_of t) → judged_form judged_mixed l l.admission ≡ admit b (tasks_of t)
  formed_reads e = rw (e, tasks_well_formed)

  -- The file of a well-formed table and a budget is read as this budget and these tasks.
  pub file_reads : 0 < b → b < budget_limit → file_read (file_of b (tasks_of t)) ≡ admit b (tasks_of t)
  unfolding file_read
  file_reads some limit = formed_reads (written_read b (tasks_of t) some limit few_and_fit.1 few_and_fit.0)

-- What a writer says it wrote stands at the front of the buffer.
pub fitted_front : (bytes buffer : List ℕ) (n : ℕ) → (fitted bytes buffer).said ≡ Ok n → take n (fitted bytes buffer).buffer ≡ bytes
fitted_front bytes buffer n = go (ltb (length buffer) (length bytes))
  where
    go : (short : Bool) → let f = cond short (unwritten 31 (length buffer) buffer)
        (record { said = Ok (length bytes); buffer = bytes ++ drop (length bytes) buffer }) in f.said ≡ Ok n → take n f.buffer ≡ bytes
    go true e = let z : ◌≡◌ {A = ℕ} 0 1 = cc in absurd (omega arith)
    go false e = let size : length bytes ≡ n = cc in take_at bytes _ n size

-- What a writer says it wrote holds a budget above 0, and is there.
pub budgeted_front : (b : ℕ) (bytes buffer : List ℕ) (n : ℕ) → let f = budgeted b bytes buffer in
    f.said ≡ Ok n → (0 < b) × (take n f.buffer ≡ bytes)
budgeted_front b bytes buffer n = go (eqb b 0) (eqb-false b 0)
  where
    go : (nothing : Bool) → (nothing ≡ false → b ≢ 0)
        → let f = cond nothing (unwritten 27 0 buffer) (fitted bytes buffer) in f.said ≡ Ok n → (0 < b) × (take n f.buffer ≡ bytes)
    go true some e = let z : ◌≡◌ {A = ℕ} 0 1 = cc in absurd (omega arith)
    go false some e = (omega (arith, some refl), fitted_front bytes buffer n e)

-- What was written is read: the same budget and the same tasks.
pub written_reads : (t : Table) (b : ℕ) (buffer : List ℕ) (n : ℕ) → b < budget_limit → (file_written t b buffer).said ≡ Ok n
    → file_read (take n (file_written t b buffer).buffer) ≡ admit b (tasks_of t)
unfolding file_written
written_reads t b buffer n limit = go (judged_mixed t) refl
  where
    go : (j : Judgement) → judged_mixed t ≡ j → (written_by b (file_of b (tasks_of t)) buffer j).said ≡ Ok n
        → file_read (take n (written_by b (file_of b (tasks_of t)) buffer j).buffer) ≡ admit b (tasks_of t)
    go (Err r) well e = let z : ◌≡◌ {A = ℕ} 0 1 = cc in absurd (omega arith)
    go (Ok m) well e =
        let (some, front) = budgeted_front b (file_of b (tasks_of t)) buffer n e in
        rw front (file_reads t m b well some limit)

-- A file that is read is the file of its budget and tasks, and its table is well-formed.
pub file_of_read : (file : List ℕ) → ((i : ℕ) → get_or file i 0 < 256) → (file_read file).admission ≡ Ok tt
    → let l = file_read file in
    (0 < l.budget) × (l.budget < budget_limit) × (file_of l.budget (tasks_of l.table) ≡ file)
    × ((m : Measure) × (judged_mixed l.table ≡ Ok m))
file_of_read file bytes h =
    let (same, well) = admitted file h in
    let (some, limit, (ks, few, fit, whole, held)) = read_written file bytes (ap (λ (l : Contents). l.admission) (sym same) ∙ h) in
    let tasks : tasks_of (form_of file).table ≡ ks = ap (λ (l : Contents). tasks_of l.table) held ∙ tasks_back ks in
    rw same (some, limit, ap (λ (l : List Task). file_of (form_of file).budget l) tasks ∙ sym whole, well)

-- What was read is written: the same bytes.
pub read_writes : (file buffer : List ℕ) → ((i : ℕ) → get_or file i 0 < 256) → (file_read file).admission ≡ Ok tt
    → file_written (file_read file).table (file_read file).budget buffer ≡ fitted file buffer
unfolding file_written
read_writes file buffer bytes h =
    let (some, limit, same, (m, well)) = file_of_read file bytes h in
    rw (well, ne_eqb (file_read file).budget 0 (omega arith)) (ap (λ (bytes : List ℕ). fitted bytes buffer) same)
