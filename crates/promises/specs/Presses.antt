-- THE DISPATCHER OF TABLES WITH BUTTONS (ours, for T-13's tables): on a table that passes the distance test, under any presses and any done
-- reports, every job that arrived is finished by its deadline; none is cut off, given too much or left waiting.
use Rattle.values.specs.declared.ByDistance.{ByDistance}
use Rattle.std.specs.Prelude.{◌≡◌, ◌↔◌, Bool, true, false, not, ◌&&◌, ℕ, suc, ◌+◌, ◌≤◌, ◌<◌, T, ltb, eqb, length, Ok, Err}
use Rattle.std.proofs.Math.Path.{refl}
use Rattle.std.proofs.Common.{sym, ◌∙◌, arith}
use borrow.Author.Tests.{eq-eqb, ne_eqb}
use Rattle.values.specs.declared.Table.{Table}
use Rattle.values.specs.declared.Refusal.{Refusal}
use Rattle.values.specs.declared.Measure.{Measure}
use Rattle.model.specs.Limits.{task_limit, slot_count_limit}
use Rattle.model.specs.Notation.{count, in_set}
use Rattle.model.specs.Values.{refusal}
use Rattle.model.specs.Tasks.{task, is_button, judged_mixed, judged}
use Rattle.model.specs.Arrivals.{Respects}
use Rattle.model.specs.Patterns.{distance_pass, distance_answer}
use Rattle.model.specs.Dispatcher.{State, Started, given_of, slot_count, first_strange, last_strange, started, stepped}
use Rattle.model.specs.History.{state_at, owner_at}
use Rattle.model.specs.Presses.{Pressed, started_mixed, admitted_mixed, not_taken, comes, after_come, refuse_pressed, press_taken}
use Rattle.model.specs.Presses.{stepped_pressed}
use Rattle.model.specs.Presses.{state_under, arrivals, owner_under, turn_under, had_under, FinishedUnder}
use Rattle.presses.specs.declared.Presses.{Presses}
use Rattle.presses.specs.declared.Started.{Started as StartedCall}
use Rattle.presses.specs.declared.Pressed.{Pressed as PressedCall}
use Rattle.presses.specs.State.{started_of, pressed_of, one_started, one_pressed}
use Rattle.wellformed.specs.Ranges.{Ranged}
use Rattle.wellformed.specs.WellFormed.{well_mixed, periodic_iff}
use Rattle.wellformed.specs.Admitted.{Fitting, admitted_by_iff}
use Rattle.backlog.specs.Taken.{Belongs}
use Rattle.backlog.specs.Coming.{belongs_come, slots_come}
use Rattle.patterns.proofs.DistancePass.{distance_case}
use Rattle.patterns.specs.TakenArrivals.{taken_respects}
use Rattle.patterns.proofs.PressTaken.{taken_iff, told_iff}
use Rattle.patterns.specs.PressAccounts.{slots_are, given_is, empty_is}
use Rattle.patterns.specs.PressNeverRefused as refused
use Rattle.patterns.proofs.PressNoneEarly.{owned_arrived}
use Rattle.patterns.proofs.PressNeverMore.{never_more}
use Rattle.patterns.proofs.PressNoneAfter.{none_after}
use Rattle.patterns.proofs.PressNoneCut.{none_cut}
use Rattle.patterns.proofs.PressInTime.{in_time}
use Rattle.patterns.proofs.PressNoneWaits.{none_waits}
use Rattle.patterns.specs.PressPeriodic as periodic
use Rattle.telling.specs.PressSteps.{refused_keeps}

-- Each call has one permitted result.
pub one_press_start : (t : Table) (d : Presses) (a b : StartedCall)
    → started_of a ≡ started_mixed t d.state → started_of b ≡ started_mixed t d.state → a ≡ b
one_press_start t d a b e f = one_started a b (e ∙ sym f)

pub one_press_step : (t : Table) (d : Presses) (done : Bool) (pressed : ℕ) (a b : PressedCall)
    → pressed_of a ≡ stepped_pressed t d.state done pressed
    → pressed_of b ≡ stepped_pressed t d.state done pressed → a ≡ b
one_press_step t d done pressed a b e f = one_pressed a b (e ∙ sym f)

-- A start is refused as its table is. A refusal hands the state back as it came, and takes no press.
pub press_refused_start : (t : Table) (d : State) (r : Refusal) → judged_mixed t ≡ Err r
    → started_mixed t d ≡ record { admission = Err r; state = d }
unfolding started_mixed
press_refused_start t d r e = rw e refl

pub press_refused_step : (t : Table) (d : State) (done : Bool) (pressed : ℕ) (r : Refusal)
    → (stepped_pressed t d done pressed).answer ≡ Err r
    → stepped_pressed t d done pressed ≡ refuse_pressed r d pressed
press_refused_step = refused_keeps

-- A state is admitted exactly if its table, of both sorts, is well-formed and no place of 8 fits it.
pub press_admitted_exactly : (t : Table) (d : State)
    → (admitted_mixed t d ≡ Ok tt)
    ↔ (((m : Measure) × (judged_mixed t ≡ Ok m)) × Fitting t d)
unfolding admitted_mixed
press_admitted_exactly t d = admitted_by_iff t d (judged_mixed t)

-- A step on any state: refused as the state is, refused by 9 if it can count no slot more, or taken.
module _ (t : Table) (d : State) (done : Bool) (pressed : ℕ) where
  pub press_strange : (r : Refusal) → admitted_mixed t d ≡ Err r
      → stepped_pressed t d done pressed ≡ refuse_pressed r d pressed
  unfolding stepped_pressed
  press_strange r e = rw e refl

  pub press_full : admitted_mixed t d ≡ Ok tt → slot_count t d ≡ slot_count_limit
      → stepped_pressed t d done pressed ≡ refuse_pressed (refusal 9 0) d pressed
  unfolding stepped_pressed
  press_full e full = rw (e, eq-eqb (slot_count t d) slot_count_limit full) refl

  pub press_taken_lem : admitted_mixed t d ≡ Ok tt → slot_count t d < slot_count_limit
      → stepped_pressed t d done pressed ≡ press_taken t d done pressed
  unfolding stepped_pressed
  press_taken_lem e room = rw (e, ne_eqb (slot_count t d) slot_count_limit (λ f. absurd (omega arith))) refl

-- A press is told as not taken, unless it is of a button of the table whose job comes.
pub press_told : (t : Table) (d : State) (pressed i : ℕ) → i < task_limit
    → in_set (not_taken t d pressed) i
    ≡ (in_set pressed i && not (ltb i t.count && (is_button (task t i) && comes t d pressed i)))
press_told = told_iff

-- A state that 8 does not refuse leads to one that 8 does not refuse and that counts one slot more, whoever made it.
pub press_taken_next : (t : Table) (m : Measure) (d : State) (done : Bool) (pressed : ℕ)
    → judged_mixed t ≡ Ok m → length d.wait ≡ task_limit → length d.left ≡ task_limit
    → length d.given ≡ task_limit → t.count ≤ first_strange t d → last_strange t d ≡ false
    → let next = after_come t d done (comes t d pressed) in
    (length next.wait ≡ task_limit) × (length next.left ≡ task_limit) × (length next.given ≡ task_limit)
    × (t.count ≤ first_strange t next) × (last_strange t next ≡ false) × (slot_count t next ≡ slot_count t d + 1)
press_taken_next t m d done pressed well waits lefts gives each ran =
    let r = (well_mixed t m well).ranged in
    let belongs : Belongs t d = record { waits = waits; lefts = lefts; gives = gives; each = each; ran = ran } in
    let b = belongs_come t r d done (comes t d pressed) belongs in
    (b.waits, b.lefts, b.gives, b.each, b.ran, slots_come t r d done (comes t d pressed) belongs)

-- A history: a start on a well-formed table of both sorts, and steps with any done reports and any presses.
-- `state_under t done pressed n` is the state after n steps, as many as can be counted; beyond, what the rules would give.
module _ (t : Table) (m : Measure) (well : judged_mixed t ≡ Ok m) (done : ℕ → Bool) (pressed : ℕ → ℕ)
  where
    abbrev ranged : Ranged t
    ranged = (well_mixed t m well).ranged

    pub press_starts : (d : State) → ◌≡◌ {A = Started} (started_mixed t d)
        (record { admission = Ok tt; state = state_under t done pressed 0 })
    unfolding started_mixed state_under
    press_starts d = rw well refl

    -- No step refuses a state that the dispatcher itself produced, and each hands out the next one,
    -- for fewer than 2^64 steps; the next is refused by 9.
    pub press_never_refused : (n : ℕ) → n < slot_count_limit
        → ◌≡◌ {A = Pressed} (stepped_pressed t (state_under t done pressed n) (done n) (pressed n)) (record {
          answer = Ok (turn_under t done pressed n);
          untaken = not_taken t (state_under t done pressed n) (pressed n);
          state = state_under t done pressed (suc n);
        })
    press_never_refused = refused.never_refused t m well done pressed

    pub press_then_full :
        stepped_pressed t (state_under t done pressed slot_count_limit) (done slot_count_limit) (pressed slot_count_limit)
        ≡ refuse_pressed (refusal 9 0) (state_under t done pressed slot_count_limit) (pressed slot_count_limit)
    press_then_full = refused.full t m well done pressed slot_count_limit refl

    -- After n steps the slots given to the table's tasks and the empty ones are n,
    -- and each number is the count in the history of owners.
    pub press_slots_counted : (n : ℕ) → slot_count t (state_under t done pressed n) ≡ n
    press_slots_counted = slots_are t ranged done pressed

    pub press_given_counted : (n i : ℕ) → i < t.count
        → given_of (state_under t done pressed n) i ≡ count (λ k. eqb (owner_under t done pressed k) i) n
    press_given_counted = given_is t ranged done pressed

    pub press_empty_counted : (n : ℕ)
        → (state_under t done pressed n).empty ≡ count (λ k. eqb (owner_under t done pressed k) task_limit) n
    press_empty_counted = empty_is t done pressed

    -- What it takes respects the table: periodic tasks arrive when they are released, and buttons by their spacing.
    pub press_respects : Respects t (arrivals t done pressed)
    press_respects = taken_respects t ranged done pressed

    -- A press of a button is taken exactly if none was taken within its spacing before.
    pub press_taken_exactly : (i : ℕ) → i < t.count → is_button (task t i) ≡ true → (n : ℕ)
        → T (arrivals t done pressed i n)
        ↔ (T (in_set (pressed n) i) × ((u : ℕ) → u < n → T (arrivals t done pressed i u) → u + (task t i).period ≤ n))
    press_taken_exactly = taken_iff t ranged done pressed

    -- No job gets more slots than its cost, nor one before it arrives, from its deadline on, or after its end.
    pub press_none_too_much : (i u : ℕ) → i < t.count → T (arrivals t done pressed i u)
        → (n : ℕ) → n ≤ u + (task t i).period → had_under t done pressed i u n ≤ (task t i).cost
    press_none_too_much = never_more t ranged done pressed

    pub press_none_early : (n i : ℕ) → i < t.count → owner_under t done pressed n ≡ i
        → (u : ℕ) × T (arrivals t done pressed i u) × (u ≤ n) × (n < u + (task t i).deadline)
    press_none_early = owned_arrived t ranged done pressed

    pub press_none_after : (i u : ℕ) → i < t.count → T (arrivals t done pressed i u)
        → (n : ℕ) → u ≤ n → n < u + (task t i).period → FinishedUnder t done pressed i u n
        → owner_under t done pressed n ≡ i → ⊥
    press_none_after = none_after t ranged done pressed

    -- On a table that passes the distance test:
    module _ (pass : distance_answer t ≡ Ok ByDistance.Pass) where
      passes : T (distance_pass t)
      unfolding distance_answer
      passes = (distance_case t (judged_mixed t) pass).1

      -- every job that arrived is finished by its deadline: it had its whole cost, or was reported done;
      pub press_in_time : (i u : ℕ) → i < t.count → T (arrivals t done pressed i u)
          → FinishedUnder t done pressed i u (u + (task t i).deadline)
      press_in_time = in_time t ranged done pressed passes

      -- no job is closed late: every step says that none was;
      pub press_none_cut_off : (n : ℕ)
          → ((turn_under t done pressed n).late ≡ 0) × ((turn_under t done pressed n).closed ≡ 0)
          × ((turn_under t done pressed n).lowest ≡ task_limit)
      press_none_cut_off = none_cut t ranged done pressed passes

      -- no slot goes to none while a job that arrived is unfinished.
      pub press_none_idle : (n : ℕ) → owner_under t done pressed n ≡ task_limit
          → (i u : ℕ) → i < t.count → T (arrivals t done pressed i u) → u ≤ n → FinishedUnder t done pressed i u n
      press_none_idle = none_waits t ranged done pressed passes

-- On a table without buttons it is document 01's dispatcher: its start, every step, and so its history.
module _ (t : Table) (m : Measure) (well : judged t ≡ Ok m) where
  pub press_starts_same : (d : State) → started_mixed t d ≡ started t d
  press_starts_same = periodic.start_same t ((periodic_iff t m).0 well).1

  pub press_steps_same : (d : State) (done : Bool) (pressed : ℕ)
      → ((stepped_pressed t d done pressed).answer ≡ (stepped t d done).answer)
      × ((stepped_pressed t d done pressed).state ≡ (stepped t d done).state)
  press_steps_same = periodic.step_same t ((periodic_iff t m).0 well).1

  pub press_history_same : (done : ℕ → Bool) (pressed : ℕ → ℕ) (n : ℕ)
      → (state_under t done pressed n ≡ state_at t done n) × (owner_under t done pressed n ≡ owner_at t done n)
  press_history_same done pressed n =
      let (mixed, none) = (periodic_iff t m).0 well in
      let r = (well_mixed t m mixed).ranged in
      (periodic.states_same t none r done pressed n, periodic.owners_same t none r done pressed n)
