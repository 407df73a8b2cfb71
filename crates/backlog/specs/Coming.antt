-- WHATEVER COMES (`belongs_come`): whichever tasks have a job come in a step, what it makes of a state that belongs to its table, which keeps its
-- ranges, belongs to it too.
use Rattle.std.specs.Prelude.{◌≡◌, refl, ◌⊎◌, ◌≢◌, Bool, true, false, ℕ, ◌+◌, ◌-◌, ◌<◌, ltb, eqb}
use Rattle.std.proofs.Math.Bool.{cond}
use Rattle.std.proofs.Common.{arith}
use Rattle.values.specs.declared.Table.{Table}
use Rattle.model.specs.Limits.{task_limit}
use Rattle.model.specs.Notation.{bit, fill}
use Rattle.model.specs.Tasks.{task}
use Rattle.model.specs.Run.{tie_order}
use Rattle.model.specs.Dispatcher.{State, wait_of, left_of, given_of, slot_count, left_late, wait_come, left_come}
use Rattle.model.specs.Presses.{owner_come, after_come}
use Rattle.counting.specs.Fill.{fill_eq}
use Rattle.wellformed.specs.Ranges.{Ranged}
use Rattle.backlog.specs.Choice.{Chosen, chosen_same}
use Rattle.backlog.specs.Taken.{Fit, Belongs, late_le, still_open, known, earliest_is, earliest_ready, earliest_one, wait_given, left_given}
use Rattle.backlog.specs.Taken.{given_given, slots_given, belongs_given}

module _ (t : Table) (r : Ranged t) (d : State) (done : Bool) (come : ℕ → Bool) where
  -- The slots from now to the deadline of task i's open job, if it has one.
  abbrev pub due_come : ℕ → ℕ
  due_come i = wait_come t d done come i - ((task t i).period - (task t i).deadline)

  -- The slot goes to the open job of the earliest deadline.
  abbrev pub PicksCome : Type 0
  PicksCome = Chosen (λ i. ltb 0 (left_come t d done come i)) due_come (tie_order t) t.count (owner_come t d done come)

  pub chosen_come : PicksCome
  unfolding owner_come
  chosen_come = earliest_is t (tie_order t) (wait_come t d done come) (left_come t d done come) r.few

  pub ready_come : (i : ℕ) → i < t.count → owner_come t d done come ≡ i → 0 < left_come t d done come i
  unfolding owner_come
  ready_come = earliest_ready t (tie_order t) (wait_come t d done come) (left_come t d done come) r.few

  pub one_come : (owner_come t d done come ≡ task_limit) ⊎ (owner_come t d done come < t.count)
  unfolding owner_come
  one_come = earliest_one t (tie_order t) (wait_come t d done come) (left_come t d done come) r.few

  module _ (b : Belongs t d) where
    fit_come : (i : ℕ) → i < t.count → Fit t (wait_come t d done come) (left_come t d done come) i
    fit_come i l = go (come i) refl
      where
        go : (c : Bool) → come i ≡ c → Fit t (wait_come t d done come) (left_come t d done come) i
        go true e =
            let w : wait_come t d done come i ≡ (task t i).period = rw e in
            let x : left_come t d done come i ≡ (task t i).cost = rw e in
            let k = r.each i l in
            record {
              wait_le = omega (arith, w);
              left_le = omega (arith, x);
              open_from = λ p. omega (arith, w, k.deadline_pos, k.period_pos);
              open_to = λ p. omega (arith, w);
            }
        go false e =
            let w : wait_come t d done come i ≡ wait_of d i = rw e in
            let x : left_come t d done come i ≡ left_late t d done i = rw e in
            let o = known t d b i l in
            let was : 0 < left_come t d done come i → (0 < left_of d i)
            × (wait_of d i ≢ (task t i).period - (task t i).deadline) = λ p. still_open t d done i l (omega (arith, x)) in
            record {
              wait_le = omega (arith, w, o.wait_le);
              left_le = omega (arith, x, o.left_le, late_le t d done i);
              open_from = λ p. let (q, y) = was p in omega (arith, w, o.open_from q);
              open_to = λ p. let (q, y) = was p in omega (arith, w, o.open_to q);
            }

    pub wait_come_lem : (i : ℕ) → i < t.count → wait_of (after_come t d done come) i ≡ wait_come t d done come i - 1
    unfolding after_come
    wait_come_lem = wait_given t r d b (wait_come t d done come) (left_come t d done come) (owner_come t d done come)

    pub left_come_lem : (i : ℕ) → i < t.count → left_of (after_come t d done come) i ≡ left_come t d done come i - cond (eqb (owner_come t d done come) i) 1 0
    unfolding after_come
    left_come_lem = left_given t r d b (wait_come t d done come) (left_come t d done come) (owner_come t d done come)

    pub given_come : (i : ℕ) → i < t.count → given_of (after_come t d done come) i ≡ given_of d i + bit (eqb (owner_come t d done come) i)
    unfolding after_come
    given_come = given_given t r d b (wait_come t d done come) (left_come t d done come) (owner_come t d done come)

    pub slots_come : slot_count t (after_come t d done come) ≡ slot_count t d + 1
    unfolding after_come
    slots_come = slots_given t r d b (wait_come t d done come) (left_come t d done come) (owner_come t d done come) one_come

    pub belongs_come : Belongs t (after_come t d done come)
    unfolding after_come
    belongs_come = belongs_given t r d b (wait_come t d done come) (left_come t d done come) (owner_come t d done come) one_come fit_come

-- A step depends on nothing of what comes but for the table's tasks.
module _ (t : Table) (r : Ranged t) (d : State) (done : Bool) (come come' : ℕ → Bool) (same : (i : ℕ) → i < t.count → come i ≡ come' i) where
  pub owner_same : owner_come t d done come ≡ owner_come t d done come'
  owner_same =
      chosen_same (λ i. ltb 0 (left_come t d done come i)) (λ i. ltb 0 (left_come t d done come' i)) (due_come t r d done come)
      (due_come t r d done come') (tie_order t) t.count (owner_come t d done come) (owner_come t d done come') r.few
      (λ i l h. rw (same i l) at h)
      (λ i l h. rw (same i l) h)
      (λ i k l m x y h. rw (same i l, same k m) h)
      (chosen_come t r d done come) (chosen_come t r d done come')

  pub after_same : after_come t d done come ≡ after_come t d done come'
  unfolding after_come
  after_same =
      let waits : fill t.count (λ i. wait_come t d done come i - 1) d.wait
      ≡ fill t.count (λ i. wait_come t d done come' i - 1) d.wait = fill_eq t.count _ _ d.wait (λ i l. rw (same i l)) in
      let lefts : fill t.count (λ i. left_come t d done come i - cond (eqb (owner_come t d done come') i) 1 0) d.left
      ≡ fill t.count (λ i. left_come t d done come' i - cond (eqb (owner_come t d done come') i) 1 0) d.left = fill_eq t.count _ _
      d.left (λ i l. rw (same i l)) in
      rw (owner_same, waits, lefts)
