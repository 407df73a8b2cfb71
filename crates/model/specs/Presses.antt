-- The dispatcher of tables with buttons (ours, for T-13's tables): a button's job comes when it is pressed. Its state,
-- its start, the places of 8 and rules 1, 2 and 4 are those of document 01's dispatcher, which refuses such tables; a
-- button's wait is the slots until it may be pressed again.
use Rattle.std.specs.Prelude.{◌≡◌, ◌⊎◌, Bool, cond, not, ◌&&◌, ℕ, zero, suc, ◌+◌, min, ◌≤◌, ◌<◌, T, leb, ltb, eqb, Ok, Err}
use Rattle.model.specs.Notation.{bits, in_set, count}
use Rattle.model.specs.Values.{Table, Refusal, Admission, Turn, SlotAnswer, refusal}
use Rattle.model.specs.Limits.{task_limit, slot_count_limit}
use Rattle.model.specs.Tasks.{task, is_button, judged_mixed}
use Rattle.model.specs.Demand.{Arrivals}
use Rattle.model.specs.Run.{tie_order}
use Rattle.model.specs.Dispatcher.{State, Started, wait_of, slot_count, admitted_by, start_of, start_judged}
use Rattle.model.specs.Dispatcher.{wait_come, left_come, earliest, slot_given, slot_told}

-- A start on any table of both sorts; a button may be pressed at once. When a state belongs to such a table.
unfoldable pub started_mixed : Table → State → Started
started_mixed t d = start_judged t d (judged_mixed t)

unfoldable pub admitted_mixed : Table → State → Admission
admitted_mixed t d = admitted_by t d (judged_mixed t)

module _ (t : Table) (d : State) (pressed : ℕ) where
  -- A press is taken if it is of a button that may be pressed.
  abbrev pub takes : ℕ → Bool
  takes i = in_set pressed i && (ltb i t.count && (is_button (task t i) && eqb (wait_of d i) 0))

  -- Those that are not: too early, of a task that is no button, or of no task.
  -- Bits from `task_limit` on are neither taken nor told.
  unfoldable pub not_taken : ℕ
  not_taken = bits (λ i. in_set pressed i && not (takes i)) task_limit

  -- A job comes of a button whose press is taken, and of a periodic task whose wait is 0.
  abbrev pub comes : ℕ → Bool
  comes i = cond (is_button (task t i)) (takes i) (eqb (wait_of d i) 0)

module _ (t : Table) (d : State) (done : Bool) (come : ℕ → Bool) where
  -- Rule 4 after rule 3. A wait of 0 stays 0.
  unfoldable pub owner_come : ℕ
  owner_come = earliest t (tie_order t) (wait_come t d done come) (left_come t d done come)

  unfoldable pub after_come : State
  after_come = slot_given t d (wait_come t d done come) (left_come t d done come) owner_come

-- The answer of a step, the presses that it did not take, and the successor.
pub record Pressed : Type 0 where
  pub answer : SlotAnswer
  pub untaken : ℕ
  pub state : State

-- A refused step takes no press, and hands the state back as it came.
abbrev pub refuse_pressed : Refusal → State → ℕ → Pressed
refuse_pressed r d pressed = record { answer = Err r; untaken = pressed; state = d }

abbrev pub press_taken : Table → State → Bool → ℕ → Pressed
press_taken t d done pressed =
    record {
      answer = Ok (slot_told t d done (owner_come t d done (comes t d pressed)));
      untaken = not_taken t d pressed;
      state = after_come t d done (comes t d pressed);
    }

abbrev pub press_admitted : Table → State → Bool → ℕ → Admission → Pressed
press_admitted t d done pressed (Err r) = refuse_pressed r d pressed
press_admitted t d done pressed (Ok u) =
    cond (eqb (slot_count t d) slot_count_limit) (refuse_pressed (refusal 9 0) d pressed) (press_taken t d done pressed)

-- A step on any table, any state and any presses: refused as the state is, then by 9, or taken.
unfoldable pub stepped_pressed : Table → State → Bool → ℕ → Pressed
stepped_pressed t d done pressed = press_admitted t d done pressed (admitted_mixed t d)

-- What the dispatcher does from a start, under any done reports and presses; step n is given the set `pressed n`.
module _ (t : Table) (done : ℕ → Bool) (pressed : ℕ → ℕ) where
  -- The state before slot n.
  unfoldable pub state_under : ℕ → State
  state_under zero = start_of t
  state_under (suc n) = after_come t (state_under n) (done n) (comes t (state_under n) (pressed n))

  -- The arrivals that it takes: a periodic task arrives when its job is released, a button when its press is taken.
  abbrev pub arrivals : Arrivals
  arrivals i n = comes t (state_under n) (pressed n) i

  -- The task that owns slot n, or `task_limit`; the answer of step n; and whether it is told that task i is done.
  abbrev pub owner_under : ℕ → ℕ
  owner_under n = owner_come t (state_under n) (done n) (comes t (state_under n) (pressed n))

  abbrev pub turn_under : ℕ → Turn
  turn_under n = slot_told t (state_under n) (done n) (owner_under n)

  abbrev pub done_under : ℕ → ℕ → Bool
  done_under i n = done n && eqb (state_under n).last i

  -- The slots from `from` up to `to` that task i had.
  unfoldable pub had_under : ℕ → ℕ → ℕ → ℕ
  had_under i from to = count (λ n. leb from n && eqb (owner_under n) i) to

  -- The job of task i that arrived at u is finished by n: by n, and by u + T, when another may come,
  -- it had its whole cost, or was reported done.
  abbrev pub FinishedUnder : ℕ → ℕ → ℕ → Type 0
  FinishedUnder i u n =
      let to = min n (u + (task t i).period) in
      (had_under i u to ≡ (task t i).cost) ⊎ ((v : ℕ) × (u < v) × (v ≤ to) × T (done_under i v))
