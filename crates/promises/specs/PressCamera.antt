-- THE EXPORTED CALLS THAT TAKE PRESSES (section 5.6 of the specification): a refusal changes no byte and takes no press, and a
-- camera's loop in a lent buffer is the history of which `Presses` speaks. On a file without buttons they are start and step.
use Rattle.std.specs.Prelude.{◌≡◌, ◌⊎◌, List, Bool, false, not, ℕ, suc, ◌+◌, ◌*◌, ◌/◌, ◌%◌, min, ◌≤◌, ◌<◌, eqb, length, Ok, Err}
use Rattle.std.proofs.Common.{inl, inr, eq-eqb}
use Rattle.values.specs.declared.Table.{Table}
use Rattle.values.specs.declared.Refusal.{Refusal}
use Rattle.values.specs.declared.Measure.{Measure}
use Rattle.values.specs.declared.Turn.{Turn}
use Rattle.model.specs.Limits.{task_limit, word_limit, slot_count_limit}
use Rattle.model.specs.Values.{refusal}
use Rattle.model.specs.Notation.{count, in_set}
use Rattle.model.specs.Tasks.{task, is_button, judged_mixed}
use Rattle.model.specs.TableFile.{four, eight, form_of, file_read}
use Rattle.model.specs.Presses.{started_mixed, admitted_mixed, not_taken, stepped_pressed, state_under, owner_under, turn_under}
use Rattle.model.specs.Report.{refusal_number, refused}
use Rattle.model.specs.StateBuffer.{counts_at, state_bytes, buffer_of, state_in, quiet, on_file, start_exported, step_exported}
use Rattle.model.specs.PressBuffer.{press_start_exported, press_step_exported, handed_pressed}
use Rattle.tablefile.specs.Admitted.{refused_for}
use Rattle.telling.specs.PressLoop as loop
use Rattle.telling.specs.PressApart as apart
use Rattle.telling.specs.PressBytes as bytes

-- A state buffer of another length is refused by 50, before the file is looked at, and stays as it was.
pub strange_press_start_buffer : (file buffer : List ℕ) → eqb (length buffer) state_bytes ≡ false
    → press_start_exported file buffer ≡ refused (refusal 50 (min (length buffer) 65535)) buffer
strange_press_start_buffer file buffer e = rw (e, on_file)

pub strange_press_step_buffer : (file buffer : List ℕ) (done pressed : ℕ) → eqb (length buffer) state_bytes ≡ false
    → press_step_exported file buffer done pressed ≡ refused (refusal 50 (min (length buffer) 65535)) buffer
strange_press_step_buffer file buffer done pressed e = rw (e, on_file)

-- A file that is refused is refused as it is by the distance test, and a state as it is by the dispatcher's own step.
pub refused_press_start : (file buffer : List ℕ) (r : Refusal) → length buffer ≡ state_bytes
    → (file_read file).admission ≡ Err r → press_start_exported file buffer ≡ refused r buffer
unfolding started_mixed
refused_press_start file buffer r size h = elim (refused_for file r h) [
  | inl f ↦ rw (eq-eqb (length buffer) state_bytes size, f, on_file)
  | inr (f, j) ↦ rw (eq-eqb (length buffer) state_bytes size, f, on_file, j)
]

pub refused_press_step : (file buffer : List ℕ) (done pressed : ℕ) (r : Refusal) → length buffer ≡ state_bytes
    → (file_read file).admission ≡ Err r → press_step_exported file buffer done pressed ≡ refused r buffer
unfolding stepped_pressed admitted_mixed
refused_press_step file buffer done pressed r size h = elim (refused_for file r h) [
  | inl f ↦ rw (eq-eqb (length buffer) state_bytes size, f, on_file)
  | inr (f, j) ↦ rw (eq-eqb (length buffer) state_bytes size, f, on_file, j)
]

pub refused_press_state : (file buffer : List ℕ) (done pressed : ℕ) (r : Refusal)
    → length buffer ≡ state_bytes → (form_of file).admission ≡ Ok tt
    → (stepped_pressed (form_of file).table (state_in buffer) (not (eqb done 0)) pressed).answer ≡ Err r
    → press_step_exported file buffer done pressed ≡ refused r buffer
refused_press_state file buffer done pressed r size f g = rw (eq-eqb (length buffer) state_bytes size, f, on_file, g)

-- And a state that the dispatcher's own step takes is taken: the presses that were not taken are returned above the owner,
-- and the buffer holds the next state and what was told.
pub taken_press_state : (file buffer : List ℕ) (done pressed : ℕ) (u : Turn)
    → length buffer ≡ state_bytes → (form_of file).admission ≡ Ok tt
    → let s = stepped_pressed (form_of file).table (state_in buffer) (not (eqb done 0)) pressed in s.answer ≡ Ok u
    → press_step_exported file buffer done pressed
    ≡ record { number = word_limit * s.untaken + u.owner; buffer = buffer_of s.state u }
taken_press_state file buffer done pressed u size f g = rw (eq-eqb (length buffer) state_bytes size, f, on_file, g)

-- A start returns 0 and a step has a task of the table or none in its low word, or it refuses by a number above 0 and a place
-- below 65,536, which together are below 2^32, and changes no byte. So what is returned tells whether it is a refusal.
pub press_start_or_refusal : (file buffer : List ℕ)
    → let e = press_start_exported file buffer in
    (e.number ≡ 0)
    ⊎ ((r : Refusal) × (e ≡ refused r buffer) × ((0 < r.number) × (r.place < 65536)) × (refusal_number r < word_limit))
press_start_or_refusal = apart.press_start_apart

pub press_step_or_refusal : (file buffer : List ℕ) (done pressed : ℕ)
    → let e = press_step_exported file buffer done pressed in
    let owner = e.number % word_limit in
    ((owner ≤ task_limit) × ((owner ≡ task_limit) ⊎ (owner < (form_of file).table.count)))
    ⊎ ((r : Refusal) × (e ≡ refused r buffer) × ((0 < r.number) × (r.place < 65536)) × (refusal_number r < word_limit))
press_step_or_refusal = apart.press_step_apart

-- A camera's loop with the file of a well-formed table of both sorts, any done reports and any presses: the start returns 0,
-- and step n returns the presses that it did not take and the owner of slot n, and leaves the next state and what it told,
-- for fewer than 2^64 steps.
module _ (file : List ℕ) (t : Table) (m : Measure) (formed : (form_of file).admission ≡ Ok tt)
    (held : (form_of file).table ≡ t) (well : judged_mixed t ≡ Ok m)
    (lent : List ℕ) (size : length lent ≡ state_bytes) (done pressed : ℕ → ℕ) where
  abbrev reports : ℕ → Bool
  reports n = not (eqb (done n) 0)

  pub press_camera_starts :
      press_start_exported file lent ≡ record { number = 0; buffer = buffer_of (state_under t reports pressed 0) quiet }
  press_camera_starts = loop.starts file t m formed held well lent size done pressed

  pub press_camera_steps : (n : ℕ) → n < slot_count_limit
      → press_step_exported file (handed_pressed file lent done pressed n) (done n) (pressed n) ≡ record {
        number = word_limit * not_taken t (state_under t reports pressed n) (pressed n) + owner_under t reports pressed n;
        buffer = buffer_of (state_under t reports pressed (suc n)) (turn_under t reports pressed n);
      }
  press_camera_steps = loop.steps file t m formed held well lent size done pressed

  -- The high word of what step n returns is the set of presses that it did not take, and the low word the owner.
  pub press_camera_reads : (n : ℕ) → n < slot_count_limit
      → let x = (press_step_exported file (handed_pressed file lent done pressed n) (done n) (pressed n)).number in
      (x / word_limit ≡ not_taken t (state_under t reports pressed n) (pressed n))
      × (x % word_limit ≡ owner_under t reports pressed n)
  press_camera_reads = loop.reads file t m formed held well lent size done pressed

  -- After step n the late set, its count and its lowest task stand behind the last-run task.
  pub press_camera_said : (n : ℕ) → n < slot_count_limit → let u = turn_under t reports pressed n in
      let b = handed_pressed file lent done pressed (suc n) in
      (four b (8 * task_limit + 4) ≡ u.late) × (four b (8 * task_limit + 8) ≡ u.closed)
      × (four b (8 * task_limit + 12) ≡ u.lowest)
  press_camera_said = loop.said file t m formed held well lent size done pressed

  -- After n steps the counts that stand in the buffer are those of the history of answers.
  pub press_camera_counts : (n : ℕ) → n ≤ slot_count_limit → let b = handed_pressed file lent done pressed n in
      ((i : ℕ) → i < t.count → eight b (counts_at + 8 * i) ≡ count (λ k. eqb (owner_under t reports pressed k) i) n)
      × (eight b (counts_at + 8 * task_limit) ≡ count (λ k. eqb (owner_under t reports pressed k) task_limit) n)
  press_camera_counts = loop.counts file t m formed held well lent size done pressed

-- On a file without buttons they are start and step, byte for byte, in any buffer: the same refusals, the same owner and the
-- same bytes, with every press told as not taken.
module _ (file buffer : List ℕ)
    (none : (i : ℕ) → i < (form_of file).table.count → is_button (task (form_of file).table i) ≡ false) where
  pub press_start_is_start : press_start_exported file buffer ≡ start_exported file buffer
  press_start_is_start = bytes.starts_same file buffer none

  pub press_step_is_step : (done pressed : ℕ)
      → let p = press_step_exported file buffer done pressed in let s = step_exported file buffer done in
      (p.buffer ≡ s.buffer)
      × (task_limit < s.number → p.number ≡ s.number)
      × (s.number ≤ task_limit → (p.number % word_limit ≡ s.number)
      × ((i : ℕ) → i < task_limit → in_set (p.number / word_limit) i ≡ in_set pressed i))
  press_step_is_step done pressed = let b = bytes.steps_same file buffer none done pressed in (b.left, b.refuses, b.taken)
