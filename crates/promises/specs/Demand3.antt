-- DEMAND 3: the dispatcher on a passed table, under any pattern of early done reports, finishes every job within its
-- reported worst response, cuts none off, gives none too much, leaves no slot empty while a job waits.
-- So does a dispatcher whose ties go by any other fixed order of the tasks, with the worst responses of that order.
use Rattle.std.specs.Prelude.{◌≡◌, ◌⊎◌, List, Bool, ◌&&◌, ℕ, suc, ◌+◌, ◌≤◌, ◌<◌, min, T, leb, eqb, get_or, Ok}
use Rattle.std.proofs.Math.Path.{refl}
use Rattle.std.proofs.Math.Logic.{inl, inr}
use native.Mathlib.Omega.{arith}
use Rattle.values.specs.declared.Table.{Table}
use Rattle.values.specs.declared.Measure.{Measure}
use Rattle.values.specs.declared.Verdict.{Verdict}
use Rattle.values.specs.declared.Answer.{Answer}
use Rattle.model.specs.Limits.{task_limit, slot_count_limit}
use Rattle.model.specs.Notation.{count}
use Rattle.model.specs.Values.{refusal}
use Rattle.model.specs.Tasks.{task, release, due, judged}
use Rattle.model.specs.Run.{Order, tie_order, Worst}
use Rattle.model.specs.Verdict.{verdict, Permitted}
use Rattle.model.specs.Dispatcher.{State, Started, Stepped, given_of, slot_count, started, after_by, turn, turn_by, refuse_step}
use Rattle.model.specs.Dispatcher.{stepped, stepped_by}
use Rattle.model.specs.History.{state_at, state_at_by, owner_at, owner_at_by, had, had_by, Finished, FinishedBy}
use Rattle.counting.specs.Count.{tests, and_iff, count_none}
use Rattle.wellformed.specs.WellFormed.{well_formed}
use Rattle.wellformed.specs.Ranges.{Ranged}
use Rattle.backlog.proofs.Worst.{worst_range}
use Rattle.backlog.proofs.TableSystem.{system_of}
use Rattle.backlog.proofs.PassedWorst.{met_of_passed, worst_of}
use Rattle.backlog.proofs.Accounts.{slots_are, given_is, empty_is}
use Rattle.backlog.proofs.NeverRefused as refused
use Rattle.backlog.proofs.NoneEarly.{owned_ready}
use Rattle.backlog.proofs.NeverMore.{never_more}
use Rattle.backlog.proofs.NoneAfter as after
use Rattle.backlog.proofs.NoneCut.{none_cut}
use Rattle.backlog.proofs.InTime.{in_time}
use Rattle.backlog.proofs.NoneWaits.{none_waits}
use Rattle.promises.specs.Demand2.{passed_exactly}

-- In any fixed order of the tasks: a start on any well-formed table, and steps with any done reports.
module _ (t : Table) (m : Measure) (well : judged t ≡ Ok m) (rank : Order) (done : ℕ → Bool) where
  abbrev ranged : Ranged t
  ranged = (well_formed t m well).ranged

  -- A start takes no order, and what stood in the state before does not matter.
  pub starts_by : (d : State)
      → ◌≡◌ {A = Started} (started t d) (record { admission = Ok tt; state = state_at_by t rank done 0 })
  unfolding started state_at_by
  starts_by d = rw well refl

  -- No step refuses a state that the dispatcher itself produced, for fewer than 2^64 steps; the next is refused by 9.
  pub never_refused_by : (n : ℕ) → n < slot_count_limit
      → ◌≡◌ {A = Stepped} (stepped_by t rank (state_at_by t rank done n) (done n)) (record {
        answer = Ok (turn_by t rank (state_at_by t rank done n) (done n));
        state = state_at_by t rank done (suc n);
      })
  never_refused_by = refused.never_refused t m well rank done

  pub then_full_by : stepped_by t rank (state_at_by t rank done slot_count_limit) (done slot_count_limit)
      ≡ refuse_step (refusal 9 0) (state_at_by t rank done slot_count_limit)
  then_full_by = refused.full t m well rank done slot_count_limit refl

  -- Every slot is counted.
  pub slots_counted_by : (n : ℕ) → slot_count t (state_at_by t rank done n) ≡ n
  slots_counted_by = slots_are t ranged rank done

  pub given_counted_by : (n i : ℕ) → i < t.count
      → given_of (state_at_by t rank done n) i ≡ count (λ k. eqb (owner_at_by t rank done k) i) n
  given_counted_by = given_is t ranged rank done

  pub empty_counted_by : (n : ℕ)
      → (state_at_by t rank done n).empty ≡ count (λ k. eqb (owner_at_by t rank done k) task_limit) n
  empty_counted_by = empty_is t rank done

  -- No job gets more slots than its cost, nor one before its release, from its deadline on, or after its end.
  pub none_too_much_by : (i j n : ℕ) → i < t.count → n ≤ release (task t i) (suc j)
      → had_by t rank done i (release (task t i) j) n ≤ (task t i).cost
  none_too_much_by = never_more t ranged rank done

  pub none_early_by : (n i : ℕ) → i < t.count → owner_at_by t rank done n ≡ i
      → (j : ℕ) × (release (task t i) j ≤ n) × (n < due (task t i) j)
  none_early_by = owned_ready t ranged rank done

  pub none_after_by : (n i j : ℕ) → i < t.count → release (task t i) j ≤ n
      → n < release (task t i) (suc j) → FinishedBy t rank done i j n → owner_at_by t rank done n ≡ i → ⊥
  none_after_by = after.none_after t ranged rank done

  -- On a table that passes, which it does in every order or in none:
  module _ (budget : ℕ) (pass : verdict t budget ≡ Verdict.Passes) where
    -- every task has a worst response in this order, at most its deadline;
    pub worst_by_lem : (i : ℕ) → i < t.count → (w : ℕ) × Worst t rank i w × (w ≤ (task t i).deadline)
    worst_by_lem i l =
        let (w, v) = worst_of t ranged budget pass rank i l in
        (w, v, (worst_range (system_of t ranged rank) (met_of_passed t ranged budget pass rank) i l w v).1)

    -- every job is finished within it;
    pub all_in_time_by : (i w : ℕ) → i < t.count → Worst t rank i w → (j : ℕ)
        → FinishedBy t rank done i j (release (task t i) j + w)
    all_in_time_by = in_time t ranged rank done budget pass

    -- no job is closed late;
    pub none_cut_off_by : (n : ℕ)
        → ((turn_by t rank (state_at_by t rank done n) (done n)).late ≡ 0)
        × ((turn_by t rank (state_at_by t rank done n) (done n)).closed ≡ 0)
        × ((turn_by t rank (state_at_by t rank done n) (done n)).lowest ≡ task_limit)
    none_cut_off_by = none_cut t ranged rank done budget pass

    -- no slot goes to none while a released job is unfinished.
    pub none_idle_by : (n : ℕ) → owner_at_by t rank done n ≡ task_limit
        → (i j : ℕ) → i < t.count → release (task t i) j ≤ n → FinishedBy t rank done i j n
    none_idle_by = none_waits t ranged rank done budget pass

-- The same in our order. A history: a start on a well-formed table, and steps with any done reports.
-- `state_at t done n` is the state after n steps, as many as can be counted; beyond, what the rules would give.
module _ (t : Table) (m : Measure) (well : judged t ≡ Ok m) (done : ℕ → Bool) where
  pub starts : (d : State)
      → ◌≡◌ {A = Started} (started t d) (record { admission = Ok tt; state = state_at t done 0 })
  starts = starts_by t m well (tie_order t) done

  -- No step refuses a state that the dispatcher itself produced, and each hands out the next one,
  -- for fewer than 2^64 steps. Of any well-formed table.
  pub never_refused : (n : ℕ) → n < slot_count_limit
      → ◌≡◌ {A = Stepped} (stepped t (state_at t done n) (done n))
      (record { answer = Ok (turn t (state_at t done n) (done n)); state = state_at t done (suc n) })
  never_refused = never_refused_by t m well (tie_order t) done

  -- The step after them is refused by 9.
  pub then_full : stepped t (state_at t done slot_count_limit) (done slot_count_limit)
      ≡ refuse_step (refusal 9 0) (state_at t done slot_count_limit)
  then_full = then_full_by t m well (tie_order t) done

  -- After n steps the slots given to the table's tasks and the empty ones are n,
  -- and each number is the count in the history of answers. Of any well-formed table.
  pub slots_counted : (n : ℕ) → slot_count t (state_at t done n) ≡ n
  slots_counted = slots_counted_by t m well (tie_order t) done

  pub given_counted : (n i : ℕ) → i < t.count → given_of (state_at t done n) i ≡ count (λ k. eqb (owner_at t done k) i) n
  given_counted = given_counted_by t m well (tie_order t) done

  pub empty_counted : (n : ℕ) → (state_at t done n).empty ≡ count (λ k. eqb (owner_at t done k) task_limit) n
  empty_counted = empty_counted_by t m well (tie_order t) done

  -- No job gets more slots than its cost. Of any well-formed table.
  pub none_too_much : (i j n : ℕ) → i < t.count → n ≤ release (task t i) (suc j)
      → had t done i (release (task t i) j) n ≤ (task t i).cost
  none_too_much = none_too_much_by t m well (tie_order t) done

  -- A slot goes to a released job only, and before its deadline. Of any well-formed table.
  pub none_early : (n i : ℕ) → i < t.count → owner_at t done n ≡ i
      → (j : ℕ) × (release (task t i) j ≤ n) × (n < due (task t i) j)
  none_early = none_early_by t m well (tie_order t) done

  -- No slot goes to a job that is finished: one that had its whole cost, or was reported done.
  -- Of any well-formed table.
  pub none_after : (n i j : ℕ) → i < t.count → release (task t i) j ≤ n
      → n < release (task t i) (suc j) → Finished t done i j n → owner_at t done n ≡ i → ⊥
  none_after = none_after_by t m well (tie_order t) done

  -- On a table that the test passed, with the worst responses that it reported:
  module _ (budget : ℕ) (a : Answer) (answer : Permitted t budget a)
      (pass : a.outcome ≡ Ok Verdict.Passes) where
    -- every job is finished within its reported worst response: it had its whole cost, or was reported done;
    pub all_in_time : (i j : ℕ) → i < t.count → Finished t done i j (release (task t i) j + get_or a.worst i 0)
    all_in_time i j l =
        let (v, w, e) = passed_exactly t budget a answer pass in
        all_in_time_by t m well (tie_order t) done budget v i (get_or a.worst i 0) l (w.worst i l) j

    -- no job is closed late: every step says that none was;
    pub none_cut_off : (n : ℕ)
        → ((turn t (state_at t done n) (done n)).late ≡ 0) × ((turn t (state_at t done n) (done n)).closed ≡ 0)
        × ((turn t (state_at t done n) (done n)).lowest ≡ task_limit)
    none_cut_off = none_cut_off_by t m well (tie_order t) done budget (passed_exactly t budget a answer pass).0

    -- no slot goes to none while a released job is unfinished.
    pub none_idle : (n : ℕ) → owner_at t done n ≡ task_limit → (i j : ℕ) → i < t.count → release (task t i) j ≤ n
        → Finished t done i j n
    none_idle = none_idle_by t m well (tie_order t) done budget (passed_exactly t budget a answer pass).0

-- Demand 3 asked of any history of owners: `owner n` has slot n, a task or `task_limit` for none.
module _ (t : Table) (owner : ℕ → ℕ) (done : ℕ → Bool) where
  -- Job j of task i is finished by n: by n, and by its task's next release, it had its whole cost,
  -- or was reported done right after a slot of its task.
  abbrev pub FinishedIn : ℕ → ℕ → ℕ → Type 0
  FinishedIn i j n =
      let from = release (task t i) j in
      let to = min n (release (task t i) (suc j)) in
      (count (λ u. leb from u && eqb (owner u) i) to ≡ (task t i).cost)
      ⊎ ((u : ℕ) × (from ≤ u) × (u < to) × T (done (suc u) && eqb (owner u) i))

  -- Every job is finished within the worst response that is told of its task.
  abbrev pub KeepsWorst : List ℕ → Type 0
  KeepsWorst worst = (i j : ℕ) → i < t.count → FinishedIn i j (release (task t i) j + get_or worst i 0)

module _ (t : Table) (m : Measure) (well : judged t ≡ Ok m) (done : ℕ → Bool) where
  -- The dispatcher's history keeps it on a table that the test passed: this is `all_in_time`.
  pub history_in_time : (budget : ℕ) (a : Answer) → Permitted t budget a → a.outcome ≡ Ok Verdict.Passes
      → KeepsWorst t (owner_at t done) done a.worst
  unfolding had_by state_at_by after_by
  history_in_time budget a answer pass i j l = elim (all_in_time t m well done budget a answer pass i j l) [
    | inl whole ↦ inl whole
    | inr (Prim.Native.Nat.zero, p, q, said) ↦ elim p [ ]
    | inr (suc u, p, q, said) ↦ inr (u, omega arith, omega arith, said)
  ]

  -- The history that gives every slot to none finishes no job of any task, on any well-formed table,
  -- whatever is reported done and whatever worst responses are told.
  pub nothing_finishes_nothing : (i j n : ℕ) → i < t.count → FinishedIn t (λ u. task_limit) done i j n → ⊥
  nothing_finishes_nothing i j n l h = elim h [
    | inl whole ↦
        let from = release (task t i) j in
        let to = min n (release (task t i) (suc j)) in
        let none : count (λ u. leb from u && eqb task_limit i) to ≡ 0 = count_none _ to (λ u b x. none_owns (leb from u) x) in
        omega (arith, none, whole, (facts.each i l).cost_pos)
    | inr (u, p, q, said) ↦ none_owns (done (suc u)) said
  ]
    where
      facts : Ranged t
      facts = (well_formed t m well).ranged

      none_owns : (b : Bool) → T (b && eqb task_limit i) → ⊥
      none_owns b h = omega (tests, ((and_iff b (eqb task_limit i)).0 h).1, l, facts.few)
