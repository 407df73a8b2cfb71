-- THE HEADLINES: the report of the exported check says `verdict passes` exactly if some schedule is good for all time;
-- where it says so, a camera's loop over the same file finishes every job within the worst response that the report
-- tells, whatever is reported done; and so did a camera whose log is found good.
use Rattle.std.specs.Prelude.{◌≡◌, refl, ◌↔◌, Bool, not, ℕ, suc, ◌+◌, ◌*◌, ◌≤◌, ◌<◌, eqb, length, get_or, take, Ok}
use Rattle.std.proofs.Common.{sym, ap, ◌∙◌, le-ltb}
use mathlib.Core.List.{List, [], ◌∷◌, flatten}
use Rattle.values.specs.declared.Table.{Table}
use Rattle.values.specs.declared.Measure.{Measure}
use Rattle.values.specs.declared.Verdict.{Verdict}
use Rattle.values.specs.declared.Answer.{Answer}
use Rattle.values.specs.declared.Contents.{Contents}
use Rattle.model.specs.Limits.{task_limit, word_limit, report_bytes, slot_count_limit}
use Rattle.model.specs.Tasks.{task, release, horizon, judged}
use Rattle.model.specs.Schedule.{Schedule, Good}
use Rattle.model.specs.Patterns.{quick_pass}
use Rattle.model.specs.Verdict.{verdict, Permitted}
use Rattle.model.specs.TableFile.{four, form_of, file_read, periodic_from}
use Rattle.model.specs.Dispatcher.{turn}
use Rattle.model.specs.History.{state_at, owner_at, had, Finished}
use Rattle.model.specs.Report.{Exported, report_of, Checked}
use Rattle.model.specs.ReportRead.{passes_exported}
use Rattle.model.specs.StateBuffer.{state_bytes, buffer_of, quiet, start_exported, step_exported, handed}
use Rattle.model.specs.LogMeaning.{Begins}
use Rattle.model.specs.LogBuffer.{log_bytes, log_in, judged_in}
use Rattle.tablefile.specs.Admitted.{admitted}
use Rattle.tablefile.specs.Periodic.{periodic_read}
use Rattle.telling.specs.ReadOff.{read_off}
use Rattle.telling.specs.GoodLogs.{good_told}
use Rattle.promises.specs.Demand1.{Reported, reported_export}
use Rattle.promises.specs.Demand2.{passes_exactly, answer_exactly}
use Rattle.promises.specs.Demand3.{none_too_much, all_in_time, none_cut_off, none_idle}
use Rattle.promises.specs.Camera.{camera_starts, camera_steps, camera_said}
use Rattle.promises.specs.Logs.{each_answer, good_in_time, log_judged_lem}
use Rattle.promises.specs.ReportTold.{passes_told}

-- What step n is told: any number but 0 is a done report.
abbrev pub heard : (ℕ → ℕ) → ℕ → Bool
heard done n = not (eqb (done n) 0)

-- A camera's loop over a file is the dispatcher's history under these done reports: the start returns 0, every step that
-- can be counted returns the owner of its slot, and each leaves the state and what it said in the buffer.
pub record Follows (t : Table) (file lent : List ℕ) (done : ℕ → ℕ) : Type 0 where
  pub started : start_exported file lent ≡ record { number = 0; buffer = buffer_of (state_at t (heard done) 0) quiet }
  pub stepped : (n : ℕ) → n < slot_count_limit
      → step_exported file (handed file lent done n) (done n) ≡ record {
        number = owner_at t (heard done) n;
        buffer = buffer_of (state_at t (heard done) (suc n)) (turn t (state_at t (heard done) n) (heard done n));
      }

-- What a host reads in a state buffer where no task was closed late: the late set, its count and its lowest task.
abbrev pub NoneLate : List ℕ → Type 0
NoneLate b =
    (four b (8 * task_limit + 4) ≡ 0) × (four b (8 * task_limit + 8) ≡ 0) × (four b (8 * task_limit + 12) ≡ task_limit)

-- A history keeps these worst responses, as demand 3 has it: every job is finished within that of its task, by its slots
-- or by a done report; none is cut off; none gets too much; no slot is empty while a job waits.
pub record InTime (t : Table) (worst : List ℕ) (done : ℕ → Bool) : Type 0 where
  pub finished : (i j : ℕ) → i < t.count → Finished t done i j (release (task t i) j + get_or worst i 0)
  pub none_cut_off : (n : ℕ) → (turn t (state_at t done n) (done n)).closed ≡ 0
  pub none_too_much : (i j n : ℕ) → i < t.count → n ≤ release (task t i) (suc j)
      → had t done i (release (task t i) j) n ≤ (task t i).cost
  pub none_idle : (n : ℕ) → owner_at t done n ≡ task_limit
      → (i j : ℕ) → i < t.count → release (task t i) j ≤ n → Finished t done i j n

-- A file that is read and has no button, a buffer that is long enough for a report,
-- and what the exported check makes of them.
module _ (file buffer : List ℕ) (e : Exported) (long : report_bytes ≤ length buffer)
    (good : (periodic_from file).admission ≡ Ok tt) (checked : Checked file buffer e) where
  abbrev table : Table
  table = (file_read file).table

  abbrev report : List ℕ
  report = take e.number e.buffer

  -- What is reported, and that the report's text is read off the buffer.
  abbrev reported : Reported (file_read file) buffer e
  reported = reported_export file buffer e (le-ltb (length buffer) report_bytes long) good checked

  -- With a budget that reaches the horizon the report says that the table passes exactly if some
  -- schedule is good for all time.
  pub check_passes_exactly : horizon table ≤ (file_read file).budget
      → (passes_exported report ≡ 1) ↔ ((σ : Schedule) × Good table σ)
  check_passes_exactly reach =
      let (a, v, p, o, w, fit) = reported in
      let (read, same, (m, well)) = periodic_read file good in
      let says = (answer_exactly table m well (file_read file).budget a p).outcome in
      let is : v ≡ verdict table (file_read file).budget = cc in
      let off = ap passes_exported (read_off (report_of table.count (quick_pass table) a v) buffer w) in
      let says_so = passes_told table.count (quick_pass table) a v fit in
      let exactly = passes_exactly table m well (file_read file).budget reach in
      (λ one. exactly.0 (sym is ∙ says_so.0 (sym off ∙ one)), λ some. off ∙ says_so.1 (is ∙ exactly.1 some))

  -- Where the report says so, it is that of an answer that passes.
  passed : passes_exported report ≡ 1
      → (a : Answer) × (report ≡ report_of table.count (quick_pass table) a Verdict.Passes)
      × Permitted table (file_read file).budget a × (a.outcome ≡ Ok Verdict.Passes)
  passed one =
      let (a, v, p, o, w, fit) = reported in
      let text = read_off (report_of table.count (quick_pass table) a v) buffer w in
      let says = passes_told table.count (quick_pass table) a v fit in
      let passes : v ≡ Verdict.Passes = says.0 (sym (ap passes_exported text) ∙ one) in
      (a, text ∙ ap (report_of table.count (quick_pass table) a) passes, p, o ∙ ap Ok passes)

  -- Its worst responses are kept: on the same file, in any state buffer and under any done reports, a camera's loop is the
  -- dispatcher's history, that is in time, and the host reads of every step that no task was closed late.
  pub camera_in_time : passes_exported report ≡ 1
      → (a : Answer) × (report ≡ report_of table.count (quick_pass table) a Verdict.Passes)
      × ((lent : List ℕ) → length lent ≡ state_bytes → (done : ℕ → ℕ)
      → Follows table file lent done × InTime table a.worst (heard done)
      × ((n : ℕ) → n < slot_count_limit → NoneLate (handed file lent done (suc n))))
  camera_in_time one =
      let (a, text, p, pass) = passed one in
      let (read, same, (m, well)) = periodic_read file good in
      (a, text, λ lent size done. (follows m well lent size done, in_time m well a p pass (heard done), none_late m well a p pass lent size done))
    where
      formed : (form_of file).admission ≡ Ok tt
      formed = rw (← (admitted file (periodic_read file good).0).0) (periodic_read file good).0

      held : (form_of file).table ≡ table
      held = ap (λ (x : Contents). x.table) (sym (admitted file (periodic_read file good).0).0)

      follows : (m : Measure) → judged table ≡ Ok m
          → (lent : List ℕ) → length lent ≡ state_bytes → (done : ℕ → ℕ) → Follows table file lent done
      follows m well lent size done =
          record {
            started = camera_starts file table m formed held well lent size done;
            stepped = camera_steps file table m formed held well lent size done;
          }

      none_late : (m : Measure) → judged table ≡ Ok m
          → (a : Answer) → Permitted table (file_read file).budget a → a.outcome ≡ Ok Verdict.Passes
          → (lent : List ℕ) → length lent ≡ state_bytes → (done : ℕ → ℕ) (n : ℕ) → n < slot_count_limit → NoneLate (handed file lent done (suc n))
      none_late m well a p pass lent size done n h =
          let (late, closed, lowest) = none_cut_off table m well (heard done) (file_read file).budget a p pass n in
          let (x, y, z) = camera_said file table m formed held well lent size done n h in
          (x ∙ late, y ∙ closed, z ∙ lowest)

      in_time : (m : Measure) → judged table ≡ Ok m
          → (a : Answer) → Permitted table (file_read file).budget a → a.outcome ≡ Ok Verdict.Passes
          → (done : ℕ → Bool) → InTime table a.worst done
      in_time m well a p pass done =
          record {
            finished = all_in_time table m well done (file_read file).budget a p pass;
            none_cut_off = λ n. (none_cut_off table m well done (file_read file).budget a p pass n).1;
            none_too_much = none_too_much table m well done;
            none_idle = none_idle table m well done (file_read file).budget a p pass;
          }

  -- And where the judge of a log, over the same file, in any buffer and however the log is cut, says that a log is good,
  -- it is what a camera writes of n slots, and every job whose worst response ends within them was finished by then.
  pub log_in_time : passes_exported report ≡ 1
      → (a : Answer) × (report ≡ report_of table.count (quick_pass table) a Verdict.Passes)
      × ((lent : List ℕ) → length lent ≡ log_bytes → (pieces : List (List ℕ)) → (judged_in file lent pieces).number ≡ word_limit
      → (n : ℕ) × (b : Begins table (flatten pieces) n (19 ∷ []))
      × ((i j : ℕ) → i < table.count → release (task table i) j + get_or a.worst i 0 ≤ n
      → Finished table b.done i j (release (task table i) j + get_or a.worst i 0)))
  log_in_time one =
      let (a, text, p, pass) = passed one in
      let (read, same, (m, well)) = periodic_read file good in
      let whole = (admitted file read).0 in
      let formed : (form_of file).admission ≡ (Ok tt) = rw (← whole) read in
      let held : (form_of file).table ≡ table = ap (λ (x : Contents). x.table) (sym whole) in (
        a,
        text,
        λ lent size pieces e.
            let told = ap (λ (x : Exported). x.number) (log_judged_lem file table m formed held well lent size pieces) in
            let found = (each_answer table m well (log_in lent) pieces _).0 refl in
            good_in_time table m well (file_read file).budget a p pass (log_in lent) pieces
            (good_told table (flatten pieces) _ found (sym told ∙ e)),
      )
