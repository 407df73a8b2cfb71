-- WHAT A PRESS STEP RETURNS (`press_step_apart`): the owner and the presses that were not taken, or a refusal, which is below 2^32, tells its number and
-- place, and changes no byte.
use Rattle.std.specs.Prelude.{◌≡◌, ◌⊎◌, ◌↔◌, List, Bool, true, false, cond, not, ◌&&◌, ℕ, ◌+◌, ◌*◌, ◌/◌, ◌%◌, ◌≤◌, ◌<◌, T, ltb, eqb, Ok, Err}
use Rattle.std.proofs.Math.Path.{refl}
use Rattle.std.proofs.Math.Logic.{inl, inr}
use Rattle.std.proofs.Common.{arith, ltb-true, ltb-false}
use Rattle.values.specs.declared.Table.{Table}
use Rattle.model.specs.Limits.{task_limit, word_limit, slot_count_limit}
use Rattle.model.specs.Values.{refusal, Judgement, Admission}
use Rattle.model.specs.Notation.{in_set}
use Rattle.model.specs.Tasks.{task, is_button, judged_mixed}
use Rattle.model.specs.TableFile.{form_of}
use Rattle.model.specs.Dispatcher.{State, slot_count, start_judged}
use Rattle.model.specs.Presses.{started_mixed, admitted_mixed, not_taken, comes, owner_come, refuse_pressed, press_taken, press_admitted, stepped_pressed}
use Rattle.model.specs.StateBuffer.{state_bytes, state_in, start_written}
use Rattle.model.specs.PressBuffer.{press_written, press_start_exported, press_step_exported}
use Rattle.wellformed.specs.Ranges.{Ranged}
use Rattle.wellformed.specs.WellFormed.{well_mixed}
use Rattle.wellformed.specs.Admitted.{admitted_by_iff}
use Rattle.wellformed.specs.Refused.{JudgementTellable, mixed_tellable}
use Rattle.tablefile.specs.Refused.{AdmissionTellable}
use Rattle.backlog.specs.Coming.{one_come}
use Rattle.patterns.proofs.PressTaken.{told_iff}
use Rattle.statebuffer.specs.Told.{state_tellable}
use Rattle.logbuffer.specs.Numbers.{Below, JudgedBelow, mixed_below, state_below}
use Rattle.logbuffer.specs.Judging.{Apart, on_file_lem}

-- A step that is taken has a task of the table, or none, in the low word.
abbrev pub TakenPress : Table → ℕ → Type 0
TakenPress t n = (n % word_limit ≤ task_limit) × ((n % word_limit ≡ task_limit) ⊎ (n % word_limit < t.count))

-- The owner stands below the presses.
pub low_is : (u o : ℕ) → o ≤ task_limit → ((word_limit * u + o) / word_limit ≡ u) × ((word_limit * u + o) % word_limit ≡ o)
low_is u o h = (omega arith, omega arith)

pub owner_low : (t : Table) → Ranged t → (d : State) (done : Bool) (pressed : ℕ) → let o = owner_come t d done (comes t d pressed) in
    (o ≤ task_limit) × ((o ≡ task_limit) ⊎ (o < t.count))
owner_low t r d done pressed = go (one_come t r d done (comes t d pressed))
  where
    go : {o : ℕ} → (o ≡ task_limit) ⊎ (o < t.count) → (o ≤ task_limit) × ((o ≡ task_limit) ⊎ (o < t.count))
    go (inl e) = (omega arith, inl e)
    go (inr l) = (omega (arith, r.few), inr l)

-- A state's refusal is tellable, and its number is low.
pub mixed_told : (t : Table) (d : State) → AdmissionTellable (admitted_mixed t d) × Below (admitted_mixed t d)
unfolding admitted_mixed
mixed_told t d = (
  state_tellable t d (judged_mixed t) (λ m e. (well_mixed t m e).ranged.few) (mixed_tellable t),
  state_below t d (judged_mixed t) (mixed_below t),
)

pub admitted_ranged : (t : Table) (d : State) → admitted_mixed t d ≡ Ok tt → Ranged t
unfolding admitted_mixed
admitted_ranged t d e = let ((m, well), fits) = (admitted_by_iff t d (judged_mixed t)).0 e in (well_mixed t m well).ranged

module _ (file buffer : List ℕ) where
  pub press_start_apart : Apart (λ n. n ≡ 0) buffer (press_start_exported file buffer)
  unfolding started_mixed
  press_start_apart =
      on_file_lem file buffer state_bytes (λ n. n ≡ 0) (λ t. let d = started_mixed t (state_in buffer) in start_written buffer d.state d.admission)
      (by (form_of file).table (judged_mixed (form_of file).table) (mixed_tellable (form_of file).table) (mixed_below (form_of file).table))
    where
      by : (t : Table) (j : Judgement) → JudgementTellable j → JudgedBelow j → let s = start_judged t (state_in buffer) j in
          Apart (λ n. n ≡ 0) buffer (start_written buffer s.state s.admission)
      by t (Err r) n b = inr (r, refl, n, omega (arith, n.1))
      by t (Ok m) n b = inl refl

  pub press_step_apart : (done pressed : ℕ) → Apart (TakenPress (form_of file).table) buffer (press_step_exported file buffer done pressed)
  unfolding stepped_pressed
  press_step_apart done pressed =
      let t = (form_of file).table in
      on_file_lem file buffer state_bytes (TakenPress t)
      (λ k. let s = stepped_pressed k (state_in buffer) (not (eqb done 0)) pressed in press_written buffer s.state s.untaken s.answer)
      (by t (state_in buffer) (not (eqb done 0)) (admitted_mixed t (state_in buffer)) refl (mixed_told t (state_in buffer)).0
      (mixed_told t (state_in buffer)).1)
    where
      by : (t : Table) (d : State) (report : Bool) (a : Admission) → admitted_mixed t d ≡ a → AdmissionTellable a → Below a
          → let s = press_admitted t d report pressed a in Apart (TakenPress t) buffer (press_written buffer s.state s.untaken s.answer)
      by t d report (Err r) e n b = inr (r, refl, n, omega (arith, n.1))
      by t d report (Ok u) e n b = go (eqb (slot_count t d) slot_count_limit)
        where
          taken : TakenPress t (word_limit * not_taken t d pressed + owner_come t d report (comes t d pressed))
          taken =
              let one = owner_low t (admitted_ranged t d e) d report pressed in
              rw (low_is (not_taken t d pressed) (owner_come t d report (comes t d pressed)) one.0).1 one

          go : (full : Bool) → let s = cond full (refuse_pressed (refusal 9 0) d pressed) (press_taken t d report pressed) in
              Apart (TakenPress t) buffer (press_written buffer s.state s.untaken s.answer)
          go true = inr (refusal 9 0, refl, (omega arith, omega arith), omega arith)
          go false = inl taken

-- A press is told as not taken exactly if it is not one of a button of the table whose job comes.
pub untaken_iff : (t : Table) (d : State) (pressed i : ℕ) → i < task_limit → T (in_set (not_taken t d pressed) i)
    ↔ (T (in_set pressed i) × ((i < t.count) × (is_button (task t i) ≡ true) × T (comes t d pressed i) → ⊥))
untaken_iff t d pressed i l =
    rw (told_iff t d pressed i l) (go (in_set pressed i) (ltb i t.count) (is_button (task t i)) (comes t d pressed i) refl)
  where
    go : (s c b z : Bool) → ltb i t.count ≡ c → T (s && not (c && (b && z))) ↔ (T s × ((i < t.count) × (b ≡ true) × T z → ⊥))
    go false c b z e = (λ h. absurd h, λ (x, f). absurd x)
    go true false b z e = (λ h. (tt, λ (x, y, w). omega (arith, ltb-false i t.count e)), λ p. tt)
    go true true false z e = (λ h. (tt, λ (x, y, w). let no : ◌≡◌ {A = ℕ} 0 1 = cc in absurd (omega arith)), λ p. tt)
    go true true true false e = (λ h. (tt, λ (x, y, w). absurd w), λ p. tt)
    go true true true true e = (λ h. absurd h, λ (x, f). absurd (f (ltb-true i t.count e, refl, tt)))
