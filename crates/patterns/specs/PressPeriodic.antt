-- WITHOUT BUTTONS (`states_same`): on a table that has none the dispatcher that is told of presses does what document 01's does, step by step.
use Rattle.std.specs.Prelude.{◌≡◌, Bool, cond, Ok, Err}
use Rattle.std.proofs.Math.Path.{refl, ap}
use Rattle.std.proofs.Common.{◌∙◌}
use Rattle.std.proofs.Math.Bool.{true, false}
use Prim.Native.Nat.{ℕ, zero, suc, ◌<◌}
use Rattle.std.proofs.Math.Dec.{eqb}
use Rattle.values.specs.declared.Table.{Table}
use Rattle.model.specs.Values.{refusal, Judgement, Admission}
use Rattle.model.specs.Limits.{slot_count_limit}
use Rattle.model.specs.Tasks.{judged_mixed}
use Rattle.model.specs.Run.{tie_order}
use Rattle.model.specs.Dispatcher.{State, wait_of, slot_count, admitted_by, admitted, started, refuse_step, stepped, stepped_by, step_admitted_by, slot_told}
use Rattle.model.specs.Dispatcher.{owner_now, owner_now_by, after, after_by, turn, turn_by}
use Rattle.model.specs.History.{state_at, state_at_by, owner_at}
use Rattle.model.specs.Presses.{comes, owner_come, after_come, started_mixed, refuse_pressed, press_taken, press_admitted, admitted_mixed, stepped_pressed}
use Rattle.model.specs.Presses.{state_under, owner_under}
use Rattle.wellformed.specs.Ranges.{Ranged}
use Rattle.wellformed.specs.WellFormed.{Buttonless, judged_same, well_mixed}
use Rattle.backlog.specs.Coming.{owner_same, after_same}

module _ (t : Table) (none : Buttonless t) where
  pub start_same : (d : State) → started_mixed t d ≡ started t d
  unfolding started_mixed started
  start_same d = rw (judged_same t none)

  module _ (r : Ranged t) where
    -- A job comes exactly of a task whose wait is 0.
    by_clock : (d : State) (pressed i : ℕ) → i < t.count → comes t d pressed i ≡ eqb (wait_of d i) 0
    by_clock d pressed i l = rw (none i l)

    pub owner_is : (d : State) (done : Bool) (pressed : ℕ) → owner_come t d done (comes t d pressed) ≡ owner_now t d done
    unfolding owner_come owner_now_by
    owner_is d done pressed = owner_same t r d done (comes t d pressed) (λ i. eqb (wait_of d i) 0) (by_clock d pressed)

    pub after_is : (d : State) (done : Bool) (pressed : ℕ) → after_come t d done (comes t d pressed) ≡ after t d done
    unfolding owner_come owner_now_by after_come after_by
    after_is d done pressed = after_same t r d done (comes t d pressed) (λ i. eqb (wait_of d i) 0) (by_clock d pressed)

    module _ (done : ℕ → Bool) (pressed : ℕ → ℕ) where
      pub states_same : (n : ℕ) → state_under t done pressed n ≡ state_at t done n
      unfolding state_under state_at_by
      states_same zero = refl
      states_same (suc n) = after_is (state_under t done pressed n) (done n) (pressed n) ∙ ap (λ (d : State). after t d (done n)) (states_same n)

      pub owners_same : (n : ℕ) → owner_under t done pressed n ≡ owner_at t done n
      owners_same n = owner_is (state_under t done pressed n) (done n) (pressed n) ∙ ap (λ (d : State). owner_now t d (done n)) (states_same n)

  -- A step on any state gives the same answer and the same successor.
  module _ (d : State) (done : Bool) (pressed : ℕ) where
    abbrev Same : Admission → Type 0
    Same a =
        ((press_admitted t d done pressed a).answer ≡ (step_admitted_by t (tie_order t) d done a).answer)
        × ((press_admitted t d done pressed a).state ≡ (step_admitted_by t (tie_order t) d done a).state)

    taken_same : Ranged t → (a : Admission) → Same a
    unfolding turn_by
    taken_same r (Err q) = (refl, refl)
    taken_same r (Ok u) = go (eqb (slot_count t d) slot_count_limit)
      where
        go : (full : Bool)
            → ((cond full (refuse_pressed (refusal 9 0) d pressed) (press_taken t d done pressed)).answer
            ≡ (cond full (refuse_step (refusal 9 0) d) (record { answer = Ok (turn t d done); state = after t d done })).answer)
            × ((cond full (refuse_pressed (refusal 9 0) d pressed) (press_taken t d done pressed)).state
            ≡ (cond full (refuse_step (refusal 9 0) d) (record { answer = Ok (turn t d done); state = after t d done })).state)
        go true = (refl, refl)
        go false = (ap (λ (o : ℕ). Ok (slot_told t d done o)) (owner_is r d done pressed), after_is r d done pressed)

    pub step_same : ((stepped_pressed t d done pressed).answer ≡ (stepped t d done).answer) ×
        ((stepped_pressed t d done pressed).state ≡ (stepped t d done).state)
    unfolding stepped_pressed admitted_mixed stepped_by admitted
    step_same = rw (judged_same t none) (judging (judged_mixed t) refl)
      where
        judging : (j : Judgement) → judged_mixed t ≡ j → Same (admitted_by t d j)
        judging (Err r) w = (refl, refl)
        judging (Ok m) w = taken_same (well_mixed t m w).ranged (admitted_by t d (Ok m))
