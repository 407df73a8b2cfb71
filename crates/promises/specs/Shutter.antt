-- THE HEADLINE OF TABLES WITH BUTTONS: where the exported distance test returns 1, a camera's loop over the same file finishes
-- every job by its deadline, whenever its buttons are pressed and whatever is reported done, and tells the presses that it
-- did not take.
use Rattle.values.specs.declared.ByDistance.{ByDistance}
use Rattle.std.specs.Prelude.{◌≡◌, refl, ◌↔◌, List, [], ◌∷◌, ◌++◌, Bool, true, ℕ, suc, ◌+◌, ◌*◌, ◌/◌, ◌≤◌, ◌<◌, T, length, Ok}
use Rattle.std.proofs.Common.{sym, ap, ◌∙◌, inl, inr, arith}
use Rattle.values.specs.declared.Table.{Table}
use Rattle.values.specs.declared.Measure.{Measure}
use Rattle.values.specs.declared.Contents.{Contents}
use Rattle.model.specs.Limits.{task_limit, word_limit, slot_count_limit}
use Rattle.model.specs.Notation.{in_set, sum, largest, count, first, last, fill}
use Rattle.model.specs.Tasks.{task, is_button, task_fault, first_faulty, round, load, horizon, judged_mixed}
use Rattle.model.specs.Run.{choose, owner_of, served}
use Rattle.model.specs.Idle.{idle_at, first_idle, missed_at}
use Rattle.model.specs.Arrivals.{Respects}
use Rattle.model.specs.Patterns.{starting_at, calm, common_divisor, distance, distance_pass, distance_answer}
use Rattle.model.specs.TableFile.{bytes_of, read_from, form_of, file_read}
use Rattle.model.specs.Presses.{not_taken, state_under, arrivals, owner_under, turn_under, had_under, FinishedUnder}
use Rattle.model.specs.Report.{distance_exported}
use Rattle.model.specs.StateBuffer.{state_bytes, buffer_of, quiet}
use Rattle.model.specs.PressBuffer.{press_start_exported, press_step_exported, handed_pressed}
use Rattle.model.specs.Examples.{of, budget_of, row_of}
use Rattle.model.specs.ButtonExamples.{press_of}
use Rattle.tablefile.specs.Admitted.{admitted, well_table}
use Rattle.telling.specs.PressApart.{untaken_iff}
use Rattle.promises.specs.DistanceTest.{distance_file_apart, distance_file_pass}
use Rattle.promises.specs.Presses.{press_respects, press_taken_exactly, press_none_too_much, press_in_time}
use Rattle.promises.specs.Presses.{press_none_early, press_none_after, press_none_cut_off, press_none_idle}
use Rattle.promises.specs.PressCamera.{press_camera_starts, press_camera_steps, press_camera_reads, press_camera_said}
use Rattle.promises.specs.Headlines.{heard, NoneLate}

-- A camera's loop over a file is the dispatcher's history under these presses and done reports: the start returns 0, every
-- step that can be counted returns the presses that it did not take and the owner of its slot, and each leaves the state and
-- what it said in the buffer.
pub record FollowsPresses (t : Table) (file lent : List ℕ) (done pressed : ℕ → ℕ) : Type 0 where
  pub started :
      press_start_exported file lent ≡ record { number = 0; buffer = buffer_of (state_under t (heard done) pressed 0) quiet }
  pub stepped : (n : ℕ) → n < slot_count_limit → let d = state_under t (heard done) pressed n in
      press_step_exported file (handed_pressed file lent done pressed n) (done n) (pressed n) ≡ record {
        number = word_limit * not_taken t d (pressed n) + owner_under t (heard done) pressed n;
        buffer = buffer_of (state_under t (heard done) pressed (suc n)) (turn_under t (heard done) pressed n);
      }

-- A history keeps the deadlines: every job that comes is finished by its own, by its slots or by a done report; none is cut
-- off; none gets too much; a slot goes only to a job that has come, before its deadline, and never to one that is finished;
-- no slot is empty while a job waits.
pub record InTimeUnder (t : Table) (done : ℕ → Bool) (pressed : ℕ → ℕ) : Type 0 where
  pub finished : (i u : ℕ) → i < t.count → T (arrivals t done pressed i u)
      → FinishedUnder t done pressed i u (u + (task t i).deadline)
  pub none_cut_off : (n : ℕ) → (turn_under t done pressed n).closed ≡ 0
  pub none_too_much : (i u : ℕ) → i < t.count → T (arrivals t done pressed i u)
      → (n : ℕ) → n ≤ u + (task t i).period → had_under t done pressed i u n ≤ (task t i).cost
  pub none_early : (n i : ℕ) → i < t.count → owner_under t done pressed n ≡ i
      → (u : ℕ) × T (arrivals t done pressed i u) × (u ≤ n) × (n < u + (task t i).deadline)
  pub none_after : (i u : ℕ) → i < t.count → T (arrivals t done pressed i u)
      → (n : ℕ) → u ≤ n → n < u + (task t i).period → FinishedUnder t done pressed i u n
      → owner_under t done pressed n ≡ i → ⊥
  pub none_idle : (n : ℕ) → owner_under t done pressed n ≡ task_limit
      → (i u : ℕ) → i < t.count → T (arrivals t done pressed i u) → u ≤ n → FinishedUnder t done pressed i u n

-- Task i is a button, and a press of it is taken in slot n.
abbrev pub TakenAt : Table → (ℕ → Bool) → (ℕ → ℕ) → ℕ → ℕ → Type 0
TakenAt t done pressed i n = (i < t.count) × (is_button (task t i) ≡ true) × T (arrivals t done pressed i n)

-- The presses that are taken respect the table; a press of a button is taken exactly if none was taken within its spacing
-- before; and the high word of what a step returns has exactly those that were not.
pub record PressesTold (t : Table) (file lent : List ℕ) (done pressed : ℕ → ℕ) : Type 0 where
  pub respects : Respects t (arrivals t (heard done) pressed)
  pub taken : (i : ℕ) → i < t.count → is_button (task t i) ≡ true → (n : ℕ)
      → T (arrivals t (heard done) pressed i n)
      ↔ (T (in_set (pressed n) i)
      × ((u : ℕ) → u < n → T (arrivals t (heard done) pressed i u) → u + (task t i).period ≤ n))
  pub told : (n i : ℕ) → n < slot_count_limit → i < task_limit
      → let x = (press_step_exported file (handed_pressed file lent done pressed n) (done n) (pressed n)).number in
      T (in_set (x / word_limit) i) ↔ (T (in_set (pressed n) i) × (TakenAt t (heard done) pressed i n → ⊥))

-- A file of which the exported distance test says 1, any state buffer, any done reports and any presses.
module _ (file : List ℕ) (one : distance_exported file ≡ 1)
    (lent : List ℕ) (size : length lent ≡ state_bytes) (done pressed : ℕ → ℕ) where
  abbrev table : Table
  table = (file_read file).table

  read : (file_read file).admission ≡ Ok tt
  read = elim (distance_file_apart file) [ inl (h, l) ↦ h | inr (r, h, q, (a, b)) ↦ absurd (omega arith) ]

  well : (m : Measure) × (judged_mixed table ≡ Ok m)
  well = well_table file {l = file_read file} refl read

  pass : distance_answer table ≡ Ok ByDistance.Pass
  pass = distance_file_pass file one

  formed : (form_of file).admission ≡ Ok tt
  formed = rw (← (admitted file read).0) read

  held : (form_of file).table ≡ table
  held = ap (λ (x : Contents). x.table) (sym (admitted file read).0)

  follows : FollowsPresses table file lent done pressed
  follows =
      record {
        started = press_camera_starts file table well.0 formed held well.1 lent size done pressed;
        stepped = press_camera_steps file table well.0 formed held well.1 lent size done pressed;
      }

  in_time : InTimeUnder table (heard done) pressed
  in_time =
      record {
        finished = press_in_time table well.0 well.1 (heard done) pressed pass;
        none_cut_off = λ n. (press_none_cut_off table well.0 well.1 (heard done) pressed pass n).1;
        none_too_much = press_none_too_much table well.0 well.1 (heard done) pressed;
        none_early = press_none_early table well.0 well.1 (heard done) pressed;
        none_after = press_none_after table well.0 well.1 (heard done) pressed;
        none_idle = press_none_idle table well.0 well.1 (heard done) pressed pass;
      }

  told : PressesTold table file lent done pressed
  told =
      record {
        respects = press_respects table well.0 well.1 (heard done) pressed;
        taken = press_taken_exactly table well.0 well.1 (heard done) pressed;
        told = λ n i h l.
            rw (press_camera_reads file table well.0 formed held well.1 lent size done pressed n h).0
            (untaken_iff table (state_under table (heard done) pressed n) (pressed n) i l);
      }

  none_late : (n : ℕ) → n < slot_count_limit → NoneLate (handed_pressed file lent done pressed (suc n))
  none_late n h =
      let (late, closed, lowest) = press_none_cut_off table well.0 well.1 (heard done) pressed pass n in
      let (x, y, z) = press_camera_said file table well.0 formed held well.1 lent size done pressed n h in
      (x ∙ late, y ∙ closed, z ∙ lowest)

  -- The loop is that history, it is in time and tells its presses, and the host reads of every step that no task was closed
  -- late.
  pub shutter_in_time :
      FollowsPresses table file lent done pressed × InTimeUnder table (heard done) pressed
      × PressesTold table file lent done pressed
      × ((n : ℕ) → n < slot_count_limit → NoneLate (handed_pressed file lent done pressed (suc n)))
  shutter_in_time = (follows, in_time, told, none_late)

-- What is asked of the file is met by the shutter's.
pub shutter_passes :
    distance_exported (budget_of 1000 ++ row_of (of 0 1 3 6) ++ row_of (of 3 1 2 6) ++ press_of 1 1 2 ++ (3 ∷ [])) ≡ 1
unfolding form_of read_from bytes_of distance_answer distance_pass distance common_divisor calm starting_at fill first_idle idle_at
    missed_at last judged_mixed first_faulty task_fault first round load horizon largest sum count served owner_of choose
shutter_passes = refl
