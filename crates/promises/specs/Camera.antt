-- DEMANDS 1 and 3 at the exported start and step: a refusal changes no byte, and a camera's own loop in a lent buffer is
-- the dispatcher's history, of which Demand3 speaks.
use Rattle.std.specs.Prelude.{◌≡◌, ◌⊎◌, List, Bool, false, not, ℕ, suc, ◌+◌, ◌*◌, min, ◌≤◌, ◌<◌, eqb, length, replicate, Ok, Err}
use Rattle.std.proofs.Common.{ap, inl, inr, eq-eqb}
use Rattle.std.proofs.lemmas.List.{length-replicate}
use Rattle.values.specs.declared.Table.{Table}
use Rattle.values.specs.declared.Refusal.{Refusal}
use Rattle.values.specs.declared.Measure.{Measure}
use Rattle.values.specs.declared.Turn.{Turn}
use Rattle.model.specs.Limits.{task_limit, slot_count_limit}
use Rattle.model.specs.Values.{refusal}
use Rattle.model.specs.Notation.{count}
use Rattle.model.specs.Tasks.{judged}
use Rattle.model.specs.TableFile.{four, eight, form_of, periodic_from}
use Rattle.model.specs.Dispatcher.{admitted, turn, started, stepped, stepped_by}
use Rattle.model.specs.Report.{Exported, refused}
use Rattle.model.specs.Examples.{table_g, file_g}
use Rattle.model.specs.History.{state_at, owner_at}
use Rattle.model.specs.StateBuffer.{counts_at, state_bytes, buffer_of, state_in, quiet, on_file, start_exported, step_exported}
use Rattle.model.specs.StateBuffer.{handed}
use Rattle.tablefile.specs.Admitted.{periodic_for}
use Rattle.statebuffer.specs.Loop as loop
use Rattle.statebuffer.specs.Told.{start_apart, step_apart}
use Rattle.telling.specs.Examples.{g_formed}

-- A state buffer of another length is refused by 50, before the file is looked at, and stays as it was.
pub strange_start_buffer : (file buffer : List ℕ) → eqb (length buffer) state_bytes ≡ false
    → start_exported file buffer ≡ refused (refusal 50 (min (length buffer) 65535)) buffer
strange_start_buffer file buffer e = rw (e, on_file)

pub strange_step_buffer : (file buffer : List ℕ) (done : ℕ) → eqb (length buffer) state_bytes ≡ false
    → step_exported file buffer done ≡ refused (refusal 50 (min (length buffer) 65535)) buffer
strange_step_buffer file buffer done e = rw (e, on_file)

-- A file that is refused, by 11 too, is refused by start and step as it is by the check,
-- and a state as it is by the dispatcher's own step.
pub refused_camera_start : (file buffer : List ℕ) (r : Refusal) → length buffer ≡ state_bytes
    → (periodic_from file).admission ≡ Err r → start_exported file buffer ≡ refused r buffer
unfolding started
refused_camera_start file buffer r size h = elim (periodic_for file r h) [
  | inl f ↦ rw (eq-eqb (length buffer) state_bytes size, f, on_file)
  | inr (f, j) ↦ rw (eq-eqb (length buffer) state_bytes size, f, on_file, j)
]

pub refused_camera_step : (file buffer : List ℕ) (done : ℕ) (r : Refusal) → length buffer ≡ state_bytes
    → (periodic_from file).admission ≡ Err r → step_exported file buffer done ≡ refused r buffer
unfolding stepped_by admitted
refused_camera_step file buffer done r size h = elim (periodic_for file r h) [
  | inl f ↦ rw (eq-eqb (length buffer) state_bytes size, f, on_file)
  | inr (f, j) ↦ rw (eq-eqb (length buffer) state_bytes size, f, on_file, j)
]

pub refused_camera_state : (file buffer : List ℕ) (done : ℕ) (r : Refusal)
    → length buffer ≡ state_bytes → (form_of file).admission ≡ Ok tt
    → (stepped (form_of file).table (state_in buffer) (not (eqb done 0))).answer ≡ Err r
    → step_exported file buffer done ≡ refused r buffer
refused_camera_state file buffer done r size f g = rw (eq-eqb (length buffer) state_bytes size, f, on_file, g)

-- And a state that the dispatcher's own step takes is taken: the owner is returned,
-- and the buffer holds the next state and what was told.
pub taken_camera_state : (file buffer : List ℕ) (done : ℕ) (u : Turn)
    → length buffer ≡ state_bytes → (form_of file).admission ≡ Ok tt
    → let s = stepped (form_of file).table (state_in buffer) (not (eqb done 0)) in s.answer ≡ Ok u
    → step_exported file buffer done ≡ record { number = u.owner; buffer = buffer_of s.state u }
taken_camera_state file buffer done u size f g = rw (eq-eqb (length buffer) state_bytes size, f, on_file, g)

-- A start returns 0 and a step a task of the table or none, or it refuses by a number above 0 and a place below 65,536
-- and changes no byte. What is returned then tells both (`told_from_number` of Demand1).
pub start_or_refusal : (file buffer : List ℕ)
    → let e = start_exported file buffer in
    (e.number ≡ 0) ⊎ ((r : Refusal) × (e ≡ refused r buffer) × ((0 < r.number) × (r.place < 65536)))
start_or_refusal = start_apart

pub step_or_refusal : (file buffer : List ℕ) (done : ℕ)
    → let e = step_exported file buffer done in
    ((e.number ≤ task_limit) × ((e.number ≡ task_limit) ⊎ (e.number < (form_of file).table.count)))
    ⊎ ((r : Refusal) × (e ≡ refused r buffer) × ((0 < r.number) × (r.place < 65536)))
step_or_refusal = step_apart

-- A camera's loop with the file of a well-formed table of periodic tasks and any done reports: the start returns 0,
-- and step n returns the owner of slot n and leaves the next state and what it told, for fewer than 2^64 steps.
module _ (file : List ℕ) (t : Table) (m : Measure) (formed : (form_of file).admission ≡ Ok tt)
    (held : (form_of file).table ≡ t) (well : judged t ≡ Ok m)
    (lent : List ℕ) (size : length lent ≡ state_bytes) (done : ℕ → ℕ) where
  abbrev reports : ℕ → Bool
  reports n = not (eqb (done n) 0)

  pub camera_starts : start_exported file lent ≡ record { number = 0; buffer = buffer_of (state_at t reports 0) quiet }
  camera_starts = loop.starts file t m formed held well lent size done

  pub camera_steps : (n : ℕ) → n < slot_count_limit
      → step_exported file (handed file lent done n) (done n) ≡ record {
        number = owner_at t reports n;
        buffer = buffer_of (state_at t reports (suc n)) (turn t (state_at t reports n) (reports n));
      }
  camera_steps = loop.steps file t m formed held well lent size done

  -- After step n the late set, its count and its lowest task stand behind the last-run task.
  pub camera_said : (n : ℕ) → n < slot_count_limit → let u = turn t (state_at t reports n) (reports n) in
      let b = handed file lent done (suc n) in
      (four b (8 * task_limit + 4) ≡ u.late) × (four b (8 * task_limit + 8) ≡ u.closed)
      × (four b (8 * task_limit + 12) ≡ u.lowest)
  camera_said = loop.said file t m formed held well lent size done

  -- After n steps the counts that stand in the buffer are those of the history of answers,
  -- task by task and then the empty slots.
  pub camera_counts : (n : ℕ) → n ≤ slot_count_limit → let b = handed file lent done n in
      ((i : ℕ) → i < t.count → eight b (counts_at + 8 * i) ≡ count (λ k. eqb (owner_at t reports k) i) n)
      × (eight b (counts_at + 8 * task_limit) ≡ count (λ k. eqb (owner_at t reports k) task_limit) n)
  camera_counts = loop.counts file t m formed held well lent size done

-- What is asked of the file is met by table g's.
pub g_camera : (done : ℕ → ℕ) (n : ℕ) → n < slot_count_limit
    → ((start_exported file_g (replicate state_bytes 0)).number ≡ 0)
    × ((step_exported file_g (handed file_g (replicate state_bytes 0) done n) (done n)).number
    ≡ owner_at table_g (λ k. not (eqb (done k) 0)) n)
g_camera done n h =
    let lent = replicate {A = ℕ} state_bytes 0 in
    let size = length-replicate {A = ℕ} state_bytes 0 in
    let (formed, held, well) = g_formed in (
      ap (λ (e : Exported). e.number) (camera_starts file_g table_g _ formed held well lent size done),
      ap (λ (e : Exported). e.number) (camera_steps file_g table_g _ formed held well lent size done n h),
    )
