-- ONCE TAKEN, NEVER REFUSED (`belongs_after`): what a step makes of a state that belongs to its table, which keeps its ranges, belongs to it too,
-- whoever made the state.
use Rattle.std.specs.Prelude.{◌≡◌, refl, ◌⊎◌, ◌≢◌, ◌↔◌, Bool, true, false, cond, ◌&&◌, ◌||◌, ℕ, ◌+◌, ◌-◌, ◌≤◌, ◌<◌, max, T, ltb, eqb, length, replicate}
use Rattle.std.proofs.Common.{sym, subst, ◌∙◌, inl, inr, eq-eqb, ne_eqb, lt-ltb, le-ltb, lt→ltb, ltb→lt, eqb→eq}
use Rattle.std.proofs.Math.Decide.{ℕ_discrete, dec_lt}
use native.Mathlib.Omega.{arith}
use Rattle.std.proofs.Math.ListN.{length-replicate}
use Rattle.values.specs.declared.Table.{Table}
use Rattle.model.specs.Limits.{task_limit}
use Rattle.model.specs.Notation.{bit, sum}
use Rattle.model.specs.Tasks.{task, offset}
use Rattle.model.specs.Run.{Order}
use Rattle.model.specs.Dispatcher.{State, wait_of, left_of, is_open, given_of, slot_count, strange, first_strange, last_strange, start_of, left_done, is_late}
use Rattle.model.specs.Dispatcher.{left_late, wait_released, left_released, earliest, slot_given, owner_now_by, after_by}
use Rattle.counting.specs.Count.{and_iff, eq→eqb, one_of_iff, or_left, or_right}
use Rattle.counting.specs.Search.{first_before, first_none}
use Rattle.counting.specs.Sum.{sum_eq, sum_by}
use Rattle.counting.specs.Fill.{fill_passed, fill_length, get_d_same}
use Rattle.wellformed.specs.Ranges.{Ranged}
use Rattle.backlog.specs.Choice.{Chosen, choose_is}

module _ (t : Table) where
  -- The numbers of a task that is not strange.
  pub record Ordinary (d : State) (i : ℕ) : Type 0 where
    pub wait_le : wait_of d i ≤ max (offset (task t i)) (task t i).period
    pub left_le : left_of d i ≤ (task t i).cost
    pub open_from : 0 < left_of d i → (task t i).period - (task t i).deadline ≤ wait_of d i
    pub open_to : 0 < left_of d i → wait_of d i ≤ (task t i).period - 1

  -- What rule 3 may leave of a task, so that after the slot it is not strange.
  pub record Fit (wait left : ℕ → ℕ) (i : ℕ) : Type 0 where
    pub wait_le : wait i ≤ max (offset (task t i)) (task t i).period
    pub left_le : left i ≤ (task t i).cost
    pub open_from : 0 < left i → (task t i).period - (task t i).deadline < wait i
    pub open_to : 0 < left i → wait i ≤ (task t i).period

  -- The tests that make a task strange.
  module _ (d : State) (i : ℕ) where
    abbrev long : Bool
    long = ltb (max (offset (task t i)) (task t i).period) (wait_of d i)

    abbrev more : Bool
    more = ltb (task t i).cost (left_of d i)

    abbrev early : Bool
    early = ltb (wait_of d i) ((task t i).period - (task t i).deadline)

    abbrev late : Bool
    late = ltb ((task t i).period - 1) (wait_of d i)

  ordinary : (d : State) (i : ℕ) → (T (strange t d i) → ⊥) → Ordinary d i
  ordinary d i h = record {
    wait_le =
        elim (dec_lt (max (offset (task t i)) (task t i).period) (wait_of d i)) [
          | yes p ↦ absurd
              (h (or_left (long d i || more d i) _ (or_left (long d i) (more d i) (lt→ltb _ _ p))))
          | no p ↦ omega arith
        ];
    left_le =
        elim (dec_lt (task t i).cost (left_of d i)) [
          | yes p ↦ absurd
              (h (or_left (long d i || more d i) _ (or_right (long d i) (more d i) (lt→ltb _ _ p))))
          | no p ↦ omega arith
        ];
    open_from =
        λ o. elim (dec_lt (wait_of d i) ((task t i).period - (task t i).deadline)) [
          | yes p ↦ absurd
              (strange_open o (or_left (early d i) (late d i) (lt→ltb _ _ p)))
          | no p ↦ omega arith
        ];
    open_to =
        λ o. elim (dec_lt ((task t i).period - 1) (wait_of d i)) [
          | yes p ↦ absurd (strange_open o (or_right (early d i) (late d i) (lt→ltb _ _ p)))
          | no p ↦ omega arith
        ];
  }
    where
      strange_open : 0 < left_of d i → T (early d i || late d i) → ⊥
      strange_open o x =
          h (or_right (long d i || more d i) (is_open d i && (early d i || late d i))
          ((and_iff (is_open d i) (early d i || late d i)).1 (lt→ltb 0 (left_of d i) o, x)))

  not_strange : (d : State) (i : ℕ) → Ordinary d i → strange t d i ≡ false
  not_strange d i o = go (dec_lt 0 (left_of d i))
    where
      go : Dec (0 < left_of d i) → strange t d i ≡ false
      go (yes p) =
          rw (
            le-ltb _ (wait_of d i) o.wait_le,
            le-ltb (task t i).cost (left_of d i) o.left_le,
            le-ltb (wait_of d i) ((task t i).period - (task t i).deadline) (o.open_from p),
            le-ltb ((task t i).period - 1) (wait_of d i) (o.open_to p),
            lt-ltb 0 (left_of d i) p,
          )
      go (no p) = rw (le-ltb _ (wait_of d i) o.wait_le, le-ltb (task t i).cost (left_of d i) o.left_le, le-ltb 0 (left_of d i) (omega arith))

  module _ (d : State) (done : Bool) (i : ℕ) where
    -- A job is closed as late exactly if it is open, once a done report is heard, and at its deadline.
    pub closed_late_iff : T (is_late t d done i) ↔ ((i < t.count) × (0 < left_done t d done i) × (wait_of d i ≡ (task t i).period - (task t i).deadline))
    closed_late_iff = (
      λ h. let (l, p) =
          (and_iff (ltb i t.count) _).0 h in let (q, e) = (and_iff (ltb 0 (left_done t d done i)) _).0 p in (ltb→lt _ _ l, ltb→lt _ _ q, eqb→eq _ _ e),
      λ (l, q, e). simp and_iff (lt→ltb i t.count l, (lt→ltb 0 (left_done t d done i) q, eq→eqb (wait_of d i) ((task t i).period - (task t i).deadline) e)),
    )

    -- A done report leaves no more slots.
    pub left_done_le : left_done t d done i ≤ left_of d i
    left_done_le = go (done && eqb d.last i)
      where
        go : (b : Bool) → cond b 0 (left_of d i) ≤ left_of d i
        go true = omega arith
        go false = omega arith

    -- Rules 1 and 2 leave the slots of a job as they were, or none: for a report, or as late.
    abbrev pub KeptOrClosed : ℕ → Type 0
    KeptOrClosed left =
        ((left ≡ left_of d i) × (left_done t d done i ≡ left_of d i) × (T (is_late t d done i) → ⊥))
        ⊎ ((left ≡ 0) × (T (done && eqb d.last i) ⊎ T (is_late t d done i)))

    pub kept_or_closed : KeptOrClosed (left_late t d done i)
    kept_or_closed = go (is_late t d done i) refl (done && eqb d.last i) refl
      where
        go : (a : Bool) → is_late t d done i ≡ a → (b : Bool) → (done && eqb d.last i) ≡ b → KeptOrClosed (left_late t d done i)
        go true e b f = inr (rw e refl, inr (rw e tt))
        go false e true f = inr (rw (e, f) refl, inl (rw f tt))
        go false e false f = inl (rw (e, f) refl, rw f refl, λ h. rw e at h)

    pub late_le : left_late t d done i ≤ left_of d i
    late_le = elim kept_or_closed [ inl e ↦ omega (arith, e.0) | inr e ↦ omega (arith, e.0) ]

    -- A job that is open after rules 1 and 2 was open before, and is not at its deadline.
    pub still_open : i < t.count → 0 < left_late t d done i → (0 < left_of d i) × (wait_of d i ≢ (task t i).period - (task t i).deadline)
    still_open l = go kept_or_closed
      where
        go : KeptOrClosed (left_late t d done i) → 0 < left_late t d done i → (0 < left_of d i) × (wait_of d i ≢ (task t i).period - (task t i).deadline)
        go (inl (e, f, never)) q = (omega arith, λ x. never (closed_late_iff.1 (l, omega arith, x)))
        go (inr (e, c)) q = absurd (omega arith)

    -- So is one that is open after the releases, and was not released just now.
    pub kept_open : i < t.count → wait_of d i ≢ 0 → 0 < left_released t d done i → (0 < left_of d i) × (wait_of d i ≢ (task t i).period - (task t i).deadline)
    kept_open l w p = still_open l (rw (ne_eqb (wait_of d i) 0 w) at p)

  -- A state that the tests of 8 let through, with an entry for every task that a table can have in each list.
  pub record Belongs (d : State) : Type 0 where
    pub waits : length d.wait ≡ task_limit
    pub lefts : length d.left ≡ task_limit
    pub gives : length d.given ≡ task_limit
    pub each : t.count ≤ first_strange t d
    pub ran : last_strange t d ≡ false

  pub known : (d : State) → Belongs d → (i : ℕ) → i < t.count → Ordinary d i
  unfolding first_strange
  known d b i l = ordinary d i (first_before (strange t d) 0 t.count i (omega arith) (omega (arith, b.each)))

  none_strange : (d : State) → ((i : ℕ) → i < t.count → Ordinary d i) → t.count ≤ first_strange t d
  unfolding first_strange
  none_strange d o = omega (arith, first_none (strange t d) 0 t.count (λ i x y h. let e = not_strange d i (o i (omega arith)) in rw e at h))

  -- The slots from now to the deadline of task i's open job, if it has one.
  abbrev pub due_in : State → Bool → ℕ → ℕ
  due_in d done i = wait_released t d done i - ((task t i).period - (task t i).deadline)

  -- Rule 4, from any waits and slots left: the slot goes to the open job of the earliest deadline.
  module _ (rank : Order) (wait left : ℕ → ℕ) (few : t.count ≤ task_limit) where
    pub earliest_is : Chosen (λ i. ltb 0 (left i)) (λ i. wait i - ((task t i).period - (task t i).deadline)) rank t.count (earliest t rank wait left)
    earliest_is = choose_is _ _ _ t.count few

    -- A task that it goes to has slots left; there is one, or it goes to none.
    pub earliest_ready : (i : ℕ) → i < t.count → earliest t rank wait left ≡ i → 0 < left i
    earliest_ready i l e = elim earliest_is [
      | inl c ↦ absurd (omega (arith, c.none))
      | inr c ↦ ltb→lt 0 (left i) (subst (λ (k : ℕ). T (ltb 0 (left k))) e c.opened)
    ]

    pub earliest_one : (earliest t rank wait left ≡ task_limit) ⊎ (earliest t rank wait left < t.count)
    earliest_one = elim earliest_is [ inl c ↦ inl c.none | inr c ↦ inr c.bound ]

  -- Rule 4 in a step of document 01.
  abbrev pub Picks : Order → State → Bool → Type 0
  Picks rank d done = Chosen (λ i. ltb 0 (left_released t d done i)) (due_in d done) rank t.count (owner_now_by t rank d done)

  module _ (rank : Order) (d : State) (done : Bool) (few : t.count ≤ task_limit) where
    pub chosen : Picks rank d done
    unfolding owner_now_by
    chosen = earliest_is rank (wait_released t d done) (left_released t d done) few

    pub owner_ready : (i : ℕ) → i < t.count → owner_now_by t rank d done ≡ i → 0 < left_released t d done i
    unfolding owner_now_by
    owner_ready = earliest_ready rank (wait_released t d done) (left_released t d done) few

    pub owner_one : (owner_now_by t rank d done ≡ task_limit) ⊎ (owner_now_by t rank d done < t.count)
    unfolding owner_now_by
    owner_one = earliest_one rank (wait_released t d done) (left_released t d done) few

  -- No job has more slots left than its cost.
  pub released_le : (d : State) (done : Bool) → Belongs d → (i : ℕ) → i < t.count → left_released t d done i ≤ (task t i).cost
  released_le d done belongs i l = go (eqb (wait_of d i) 0) (is_late t d done i) (done && eqb d.last i)
    where
      go : (a b c : Bool) → cond a (task t i).cost (cond b 0 (cond c 0 (left_of d i))) ≤ (task t i).cost
      go true b c = omega arith
      go false true c = omega arith
      go false false true = omega arith
      go false false false = (known d belongs i l).left_le

  -- At the start no job is open.
  pub left_start : (i : ℕ) → left_of (start_of t) i ≡ 0
  unfolding start_of
  left_start i = get_d_same task_limit 0 i

  module _ (r : Ranged t) where
    -- At the start every wait is the offset.
    pub wait_start : (i : ℕ) → i < t.count → wait_of (start_of t) i ≡ offset (task t i)
    unfolding start_of
    wait_start i l = fill_passed t.count (λ i. offset (task t i)) (replicate task_limit 0) i 0 l (omega (arith, length-replicate {A = ℕ} task_limit 0, r.few))

    -- A start belongs to its table.
    pub belongs_start : Belongs (start_of t)
    unfolding start_of
    belongs_start = record {
      waits = fill_length t.count _ _ ∙ length-replicate {A = ℕ} task_limit 0;
      lefts = length-replicate {A = ℕ} task_limit 0;
      gives = length-replicate {A = ℕ} task_limit 0;
      each =
          none_strange (start_of t) (λ i l. record {
            wait_le = omega (arith, wait_start i l);
            left_le = omega (arith, left_start i);
            open_from = λ p. absurd (omega (arith, left_start i));
            open_to = λ p. absurd (omega (arith, left_start i));
          });
      ran = refl;
    }

    -- The slot is given to an owner, from any waits and slots left.
    module _ (d : State) (b : Belongs d) (wait left : ℕ → ℕ) (owner : ℕ) where
      pub wait_given : (i : ℕ) → i < t.count → wait_of (slot_given t d wait left owner) i ≡ wait i - 1
      wait_given i l = fill_passed t.count (λ i. wait i - 1) d.wait i 0 l (omega (arith, b.waits, r.few))

      pub left_given : (i : ℕ) → i < t.count → left_of (slot_given t d wait left owner) i ≡ left i - cond (eqb owner i) 1 0
      left_given i l = fill_passed t.count (λ i. left i - cond (eqb owner i) 1 0) d.left i 0 l (omega (arith, b.lefts, r.few))

      -- Each task has counted one slot more if it is the owner.
      pub given_given : (i : ℕ) → i < t.count → given_of (slot_given t d wait left owner) i ≡ given_of d i + bit (eqb owner i)
      given_given i l = fill_passed t.count (λ i. given_of d i + bit (eqb owner i)) d.given i 0 l (omega (arith, b.gives, r.few))

      module _ (one : (owner ≡ task_limit) ⊎ (owner < t.count)) where
        -- The slots counted are one more, be they given or empty.
        pub slots_given : slot_count t (slot_given t d wait left owner) ≡ slot_count t d + 1
        unfolding slot_count
        slots_given = go one
          where
            go : (owner ≡ task_limit) ⊎ (owner < t.count) → sum t.count (given_of (slot_given t d wait left owner))
                + (d.empty + bit (eqb owner task_limit)) ≡ sum t.count (given_of d) + d.empty + 1
            go (inl e) =
                rw (eq-eqb owner task_limit e) (omega (
                  arith,
                  sum_eq t.count (given_of (slot_given t d wait left owner)) (given_of d)
                      (λ i l. rw (ne_eqb owner i (λ x. absurd (omega (arith, r.few)))) at (given_given i l) ∙ omega arith),
                ))
            go (inr l) =
                rw (ne_eqb owner task_limit (λ x. absurd (omega (arith, r.few))))
                (omega (
                  arith,
                  sum_by t.count (given_of (slot_given t d wait left owner)) (given_of d) owner 1 l
                      (rw (eq-eqb owner owner refl) at (given_given owner l))
                      (λ i m x. rw (ne_eqb owner i (λ y. x (sym y))) at (given_given i m) ∙ omega arith),
                ))

        -- If rule 3 leaves numbers that fit the table, the successor belongs to it.
        pub belongs_given : ((i : ℕ) → i < t.count → Fit wait left i) → Belongs (slot_given t d wait left owner)
        belongs_given fits = record {
          waits = fill_length t.count _ _ ∙ b.waits;
          lefts = fill_length t.count _ _ ∙ b.lefts;
          gives = fill_length t.count _ _ ∙ b.gives;
          each = none_strange (slot_given t d wait left owner) (λ i l. let f = fits i l in record {
            wait_le = omega (arith, wait_given i l, f.wait_le);
            left_le = omega (arith, left_given i l, f.left_le);
            open_from = λ p. omega (arith, wait_given i l, f.open_from (omega (arith, left_given i l)));
            open_to = λ p. omega (arith, wait_given i l, f.open_to (omega (arith, left_given i l)));
          });
          ran = (one_of_iff owner task_limit t.count).1 one;
        }

    module _ (rank : Order) (d : State) (done : Bool) (b : Belongs d) where
      pub wait_after : (i : ℕ) → i < t.count → wait_of (after_by t rank d done) i ≡ wait_released t d done i - 1
      unfolding after_by
      wait_after = wait_given d b (wait_released t d done) (left_released t d done) (owner_now_by t rank d done)

      pub left_after : (i : ℕ) → i < t.count → left_of (after_by t rank d done) i ≡ left_released t d done i - cond (eqb (owner_now_by t rank d done) i) 1 0
      unfolding after_by
      left_after = left_given d b (wait_released t d done) (left_released t d done) (owner_now_by t rank d done)

      fit_released : (i : ℕ) → i < t.count → Fit (wait_released t d done) (left_released t d done) i
      fit_released i l = go (ℕ_discrete (wait_of d i) 0)
        where
          go : Dec (wait_of d i ≡ 0) → Fit (wait_released t d done) (left_released t d done) i
          go (yes e) =
              let w : wait_released t d done i ≡ (task t i).period = rw (eq-eqb (wait_of d i) 0 e) in
              let k = r.each i l in
              record {
                wait_le = omega (arith, w);
                left_le = released_le d done b i l;
                open_from = λ p. omega (arith, w, k.deadline_pos, k.period_pos);
                open_to = λ p. omega (arith, w);
              }
          go (no e) =
              let w : wait_released t d done i ≡ wait_of d i = rw (ne_eqb (wait_of d i) 0 e) in
              let o = known d b i l in
              record {
                wait_le = omega (arith, w, o.wait_le);
                left_le = released_le d done b i l;
                open_from = λ p. let (q, x) = kept_open d done i l e p in omega (arith, w, o.open_from q);
                open_to = λ p. let (q, x) = kept_open d done i l e p in omega (arith, w, o.open_to q);
              }

      -- The successor belongs to the table.
      pub belongs_after : Belongs (after_by t rank d done)
      unfolding after_by
      belongs_after = belongs_given d b (wait_released t d done) (left_released t d done) (owner_now_by t rank d done) (owner_one rank d done r.few)
          fit_released

      pub given_after : (i : ℕ) → i < t.count → given_of (after_by t rank d done) i ≡ given_of d i + bit (eqb (owner_now_by t rank d done) i)
      unfolding after_by
      given_after = given_given d b (wait_released t d done) (left_released t d done) (owner_now_by t rank d done)

      pub slots_after : slot_count t (after_by t rank d done) ≡ slot_count t d + 1
      unfolding after_by
      slots_after = slots_given d b (wait_released t d done) (left_released t d done) (owner_now_by t rank d done) (owner_one rank d done r.few)
