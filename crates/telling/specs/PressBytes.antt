-- WITHOUT BUTTONS, BYTE FOR BYTE (`steps_same`): on a file that has none, the calls that take presses do what a camera's own start and step do, and tell
-- every press as not taken.
use Rattle.std.specs.Prelude.{◌≡◌, List, Bool, true, false, cond, not, ◌&&◌, ℕ, min, ◌+◌, ◌*◌, ◌/◌, ◌%◌, ◌≤◌, ◌<◌, ltb, eqb, length, Ok, Err}
use Rattle.std.proofs.Math.Path.{refl}
use Rattle.std.proofs.Common.{ap, ◌∙◌, inl, inr, arith, le-ltb}
use Rattle.std.proofs.Math.Decide.{dec_lt}
use Rattle.values.specs.declared.Table.{Table}
use Rattle.values.specs.declared.Refusal.{Refusal}
use Rattle.model.specs.Limits.{task_limit, word_limit, slot_count_limit}
use Rattle.model.specs.Notation.{bits, in_set}
use Rattle.model.specs.Values.{refusal, Admission}
use Rattle.model.specs.Tasks.{task, is_button, judged_mixed}
use Rattle.model.specs.TableFile.{form_of}
use Rattle.model.specs.Run.{tie_order}
use Rattle.model.specs.Dispatcher.{State, wait_of, slot_count, admitted_by, admitted, started, refuse_step, stepped, stepped_by, step_admitted_by, slot_told}
use Rattle.model.specs.Dispatcher.{owner_now, after, turn, turn_by}
use Rattle.model.specs.Presses.{started_mixed, admitted_mixed, takes, not_taken, comes, owner_come, after_come}
use Rattle.model.specs.Presses.{refuse_pressed, press_taken, press_admitted, stepped_pressed}
use Rattle.model.specs.Report.{Exported, refused}
use Rattle.model.specs.StateBuffer.{state_bytes, buffer_of, state_in, start_written, step_written, on_file, start_exported, step_exported}
use Rattle.model.specs.PressBuffer.{press_written, press_start_exported, press_step_exported}
use Rattle.counting.specs.Bits.{bits_eq, in_bits}
use Rattle.wellformed.specs.Ranges.{Ranged}
use Rattle.wellformed.specs.WellFormed.{Buttonless, judged_same}
use Rattle.wellformed.specs.Refused.{Tellable}
use Rattle.tablefile.specs.Refused.{AdmissionTellable, form_tellable}
use Rattle.patterns.specs.PressPeriodic.{start_same, owner_is, after_is}
use Rattle.telling.specs.PressApart.{low_is, owner_low, mixed_told, admitted_ranged}

-- Every press is told as not taken.
none_taken : (t : Table) → Buttonless t → (d : State) (pressed i : ℕ) → i < task_limit → in_set (not_taken t d pressed) i ≡ in_set pressed i
unfolding not_taken
none_taken t none d pressed i l =
    in_bits (λ k. in_set pressed k && not (takes t d pressed k)) task_limit i l ∙ elim (dec_lt i t.count) [
      | yes h ↦ rw (none i h) (go (in_set pressed i) (ltb i t.count))
      | no h ↦ rw (le-ltb i t.count (omega arith)) (past (in_set pressed i))
    ]
  where
    go : (a b : Bool) → (a && not (a && (b && (false && eqb (wait_of d i) 0)))) ≡ a
    go true true = refl
    go true false = refl
    go false b = refl

    past : (a : Bool) → (a && not (a && (false && (is_button (task t i) && eqb (wait_of d i) 0)))) ≡ a
    past true = refl
    past false = refl

-- What a step under presses does beside a camera's own: the same, with the presses above the owner, or the same refusal.
pub record Beside (pressed : ℕ) (p s : Exported) : Type 0 where
  pub left : p.buffer ≡ s.buffer
  pub taken : s.number ≤ task_limit → (p.number % word_limit ≡ s.number) × ((i : ℕ) → i < task_limit → in_set (p.number / word_limit) i ≡ in_set pressed i)
  pub refuses : task_limit < s.number → p.number ≡ s.number

module _ (file buffer : List ℕ) (none : Buttonless (form_of file).table) where
  abbrev table : Table
  table = (form_of file).table

  abbrev unfit : Admission
  unfit = Err (refusal 50 (min (length buffer) 65535))

  -- Whatever comes of the buffer and the form, two that do alike on the table do alike.
  alike : {x y : Exported} → x ≡ y → (a : Admission)
      → ◌≡◌ {A = Exported} (elim a [ Err r ↦ refused r buffer | Ok _ ↦ x ])
      (elim a [ Err r ↦ refused r buffer | Ok _ ↦ y ])
  alike e (Err r) = refl
  alike e (Ok u) = e

  pub starts_same : press_start_exported file buffer ≡ start_exported file buffer
  starts_same = alike (rw (start_same table none (state_in buffer)) refl) (cond (eqb (length buffer) state_bytes) (form_of file).admission unfit)

  refused_beside : (pressed : ℕ) (r : Refusal) → Tellable r → Beside pressed (refused r buffer) (refused r buffer)
  refused_beside pressed r n = record { left = refl; taken = λ h. absurd (omega (arith, n.0)); refuses = λ h. refl }

  module _ (d : State) (report : Bool) (pressed : ℕ) where
    taken_beside : Ranged table
        → let p = press_taken table d report pressed in
        Beside pressed (press_written buffer p.state p.untaken p.answer)
        (step_written buffer (after table d report) (Ok (turn table d report)))
    unfolding turn_by
    taken_beside r =
        let one = (owner_low table r d report pressed).0 in
        let owner = owner_is table none r d report pressed in
        let low = low_is (not_taken table d pressed) (owner_come table d report (comes table d pressed)) one in
        record {
          left = rw (owner, after_is table none r d report pressed) refl;
          taken = λ h. (low.1 ∙ owner, λ i l. rw low.0 (none_taken table none d pressed i l));
          refuses = λ h. absurd (omega (arith, owner));
        }

    by_admission : (a : Admission) → admitted_mixed table d ≡ a → AdmissionTellable a
        → let p = press_admitted table d report pressed a in
        let s = step_admitted_by table (tie_order table) d report a in
        Beside pressed (press_written buffer p.state p.untaken p.answer) (step_written buffer s.state s.answer)
    by_admission (Err r) e n = refused_beside pressed r n
    by_admission (Ok u) e n = go (eqb (slot_count table d) slot_count_limit)
      where
        go : (full : Bool)
            → let p = cond full (refuse_pressed (refusal 9 0) d pressed) (press_taken table d report pressed) in
            let s = cond full (refuse_step (refusal 9 0) d) (record { answer = Ok (turn table d report); state = after table d report }) in
            Beside pressed (press_written buffer p.state p.untaken p.answer) (step_written buffer s.state s.answer)
        go true = refused_beside pressed (refusal 9 0) (omega arith, omega arith)
        go false = taken_beside (admitted_ranged table d e)

    by_table : let p = stepped_pressed table d report pressed in let s = stepped table d report in
        Beside pressed (press_written buffer p.state p.untaken p.answer) (step_written buffer s.state s.answer)
    unfolding stepped_pressed admitted_mixed stepped_by admitted
    by_table = rw (judged_same table none) (by_admission (admitted_mixed table d) refl (mixed_told table d).0)

  on_both : (pressed : ℕ) {p s : Exported} → Beside pressed p s → (a : Admission) → AdmissionTellable a
      → Beside pressed (elim a [ Err r ↦ refused r buffer | Ok _ ↦ p ])
      (elim a [ Err r ↦ refused r buffer | Ok _ ↦ s ])
  on_both pressed b (Err r) n = refused_beside pressed r n
  on_both pressed b (Ok u) n = b

  pub steps_same : (done pressed : ℕ) → Beside pressed (press_step_exported file buffer done pressed) (step_exported file buffer done)
  steps_same done pressed =
      on_both pressed (by_table (state_in buffer) (not (eqb done 0)) pressed) (cond (eqb (length buffer) state_bytes) (form_of file).admission unfit)
      (tellable (eqb (length buffer) state_bytes))
    where
      tellable : (whole : Bool) → AdmissionTellable (cond whole (form_of file).admission unfit)
      tellable true = form_tellable file
      tellable false = (omega arith, omega arith)
