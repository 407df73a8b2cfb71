-- The dispatcher: its state, when a state belongs to a table, the start, and the step in its four rules.
use Rattle.std.specs.Prelude.{Bool, cond, not, ◌&&◌, ◌||◌, ℕ, ◌+◌, ◌-◌, max, ltb, eqb, get_or, replicate, Ok, Err}
use Rattle.model.specs.Notation.{bit, sum, count, first, bits, fill}
use Rattle.model.specs.Values.{Table, Refusal, Judgement, Admission, Turn, SlotAnswer, refusal}
use Rattle.model.specs.Limits.{task_limit, slot_count_limit, sum_place}
use Rattle.model.specs.Tasks.{task, judged, offset}
use Rattle.model.specs.Run.{Order, tie_order, choose}
-- For each task the slots until its next release, and those that its open job may still use;
-- which task ran last, or `task_limit`; and the slots that were given to each task, and those that were empty.
pub use Rattle.values.specs.declared.State.{State}

-- A started dispatcher; a step's answer and the successor.
pub record Started : Type 0 where
  pub admission : Admission
  pub state : State

pub record Stepped : Type 0 where
  pub answer : SlotAnswer
  pub state : State

-- The wait of task i, and the slots its open job may still use. An open job has at least one.
abbrev pub wait_of : State → ℕ → ℕ
wait_of d i = get_or d.wait i 0

abbrev pub left_of : State → ℕ → ℕ
left_of d i = get_or d.left i 0

abbrev pub is_open : State → ℕ → Bool
is_open d i = ltb 0 (left_of d i)

-- The slots given to task i; those given to the table's tasks and the empty ones together.
-- Entries past the last task are not read.
abbrev pub given_of : State → ℕ → ℕ
given_of d i = get_or d.given i 0

unfoldable pub slot_count : Table → State → ℕ
slot_count t d = sum t.count (given_of d) + d.empty

-- Task i of the state does not belong to the table.
abbrev pub strange : Table → State → ℕ → Bool
strange t d i =
    ltb (max (offset (task t i)) (task t i).period) (wait_of d i)
    || ltb (task t i).cost (left_of d i)
    || (is_open d i
    && (ltb (wait_of d i) ((task t i).period - (task t i).deadline) || ltb ((task t i).period - 1) (wait_of d i)))

-- The first task that does not belong, or the count; and whether the last-run number is neither none nor a task.
unfoldable pub first_strange : Table → State → ℕ
first_strange t d = first (strange t d) 0 t.count

abbrev pub last_strange : Table → State → Bool
last_strange t d = not (eqb d.last task_limit || ltb d.last t.count)

-- By what a table is judged to be: a state is refused by the table's number, then by 8 at the first place that does not
-- belong, which is a task, `task_limit` for the last-run number or `sum_place` for too many slots; or it is admitted.
abbrev pub admitted_by : Table → State → Judgement → Admission
admitted_by t d (Err r) = Err r
admitted_by t d (Ok m) =
    cond (ltb (first_strange t d) t.count) (Err (refusal 8 (first_strange t d)))
    (cond (last_strange t d) (Err (refusal 8 task_limit))
    (cond (ltb slot_count_limit (slot_count t d)) (Err (refusal 8 sum_place)) (Ok tt)))

unfoldable pub admitted : Table → State → Admission
admitted t d = admitted_by t d (judged t)

-- At the start the waits are the offsets, no job is open, no task ran last and no slot is counted.
unfoldable pub start_of : Table → State
start_of t =
    record {
      wait = fill t.count (λ i. offset (task t i)) (replicate task_limit 0);
      left = replicate task_limit 0;
      last = task_limit;
      given = replicate task_limit 0;
      empty = 0;
    }

-- A refused start hands the state back as it came.
abbrev pub start_judged : Table → State → Judgement → Started
start_judged t d (Err r) = record { admission = Err r; state = d }
start_judged t d (Ok m) = record { admission = Ok tt; state = start_of t }

unfoldable pub started : Table → State → Started
started t d = start_judged t d (judged t)

module _ (t : Table) (d : State) (done : Bool) where
  -- Rule 1: a done report closes the open job of the task that ran last.
  abbrev pub left_done : ℕ → ℕ
  left_done i = cond (done && eqb d.last i) 0 (left_of d i)

  -- Rule 2: an open job at its deadline is closed as late. A job released r slots ago waits T - r,
  -- so there it waits T - D.
  abbrev pub is_late : ℕ → Bool
  is_late i = ltb i t.count && (ltb 0 (left_done i) && eqb (wait_of d i) ((task t i).period - (task t i).deadline))

  abbrev pub left_late : ℕ → ℕ
  left_late i = cond (is_late i) 0 (left_done i)

  -- Rule 3: a task of which a job comes has C slots left, and its wait becomes T.
  abbrev pub wait_come : (ℕ → Bool) → ℕ → ℕ
  wait_come come i = cond (come i) (task t i).period (wait_of d i)

  abbrev pub left_come : (ℕ → Bool) → ℕ → ℕ
  left_come come i = cond (come i) (task t i).cost (left_late i)

  -- A job is released of a task whose wait is 0.
  abbrev pub wait_released : ℕ → ℕ
  wait_released = wait_come (λ i. eqb (wait_of d i) 0)

  abbrev pub left_released : ℕ → ℕ
  left_released = left_come (λ i. eqb (wait_of d i) 0)

-- Rule 4, from the waits and the slots left that rule 3 leaves, in any order of the tasks: the open job with the
-- earliest deadline gets the slot, the one with the fewest slots to its deadline; ties go by the order, as in the run.
abbrev pub earliest : Table → Order → (ℕ → ℕ) → (ℕ → ℕ) → ℕ
earliest t rank wait left =
    choose (λ i. ltb 0 (left i)) (λ i. wait i - ((task t i).period - (task t i).deadline)) rank t.count

-- It has one slot fewer left, and every wait goes down by one. The slot is counted as its owner's, or as empty.
-- Entries past the last task stay as they came.
abbrev pub slot_given : Table → State → (ℕ → ℕ) → (ℕ → ℕ) → ℕ → State
slot_given t d wait left owner =
    record {
      wait = fill t.count (λ i. wait i - 1) d.wait;
      left = fill t.count (λ i. left i - cond (eqb owner i) 1 0) d.left;
      last = owner;
      given = fill t.count (λ i. given_of d i + bit (eqb owner i)) d.given;
      empty = d.empty + bit (eqb owner task_limit);
    }

-- The answer: the owner, which tasks were closed late, how many, and the lowest-numbered of them.
abbrev pub slot_told : Table → State → Bool → ℕ → Turn
slot_told t d done owner =
    record {
      owner = owner;
      late = bits (is_late t d done) task_limit;
      closed = count (is_late t d done) task_limit;
      lowest = first (is_late t d done) 0 task_limit;
    }

-- A step of document 01: rule 4 after its rule 3.
module _ (t : Table) (rank : Order) (d : State) (done : Bool) where
  unfoldable pub owner_now_by : ℕ
  owner_now_by = earliest t rank (wait_released t d done) (left_released t d done)

  unfoldable pub after_by : State
  after_by = slot_given t d (wait_released t d done) (left_released t d done) owner_now_by

  unfoldable pub turn_by : Turn
  turn_by = slot_told t d done owner_now_by

-- A step on any table and any state: refused as the state is, then by 9 if it can count no more slots, or taken.
-- A refusal hands the state back as it came.
abbrev pub refuse_step : Refusal → State → Stepped
refuse_step r d = record { answer = Err r; state = d }

abbrev pub step_admitted_by : Table → Order → State → Bool → Admission → Stepped
step_admitted_by t rank d done (Err r) = refuse_step r d
step_admitted_by t rank d done (Ok u) =
    cond (eqb (slot_count t d) slot_count_limit) (refuse_step (refusal 9 0) d)
    (record { answer = Ok (turn_by t rank d done); state = after_by t rank d done })

unfoldable pub stepped_by : Table → Order → State → Bool → Stepped
stepped_by t rank d done = step_admitted_by t rank d done (admitted t d)

-- The dispatcher goes by our order, as the run that is reported does: each word at it.
module _ (t : Table) where
  abbrev pub owner_now : State → Bool → ℕ
  owner_now = owner_now_by t (tie_order t)

  abbrev pub after : State → Bool → State
  after = after_by t (tie_order t)

  abbrev pub turn : State → Bool → Turn
  turn = turn_by t (tie_order t)

  abbrev pub stepped : State → Bool → Stepped
  stepped = stepped_by t (tie_order t)
