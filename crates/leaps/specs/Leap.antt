-- A LEAP (`leap`): as long as no job is released, ends or comes to its deadline, slots from n on are one: their owner is the same, its slots go down
-- with time, and so do all waits.
use Rattle.std.specs.Prelude.{◌≡◌, refl, cond, ◌&&◌, ℕ, suc, ◌+◌, ◌-◌, ◌≤◌, ◌<◌, T, ltb, eqb}
use Rattle.std.proofs.Common.{◌∙◌, inl, inr, le_refl, arith, lt→ltb, ltb→lt}
use Rattle.std.proofs.Math.Bool.{false}
use Rattle.std.proofs.Math.Nat.{le_step}
use Rattle.std.proofs.Math.Decide.{ℕ_discrete, dec_lt, le_ind}
use borrow.Author.Tests.{eq-eqb, ne_eqb, lt-ltb, le-ltb}
use Rattle.values.specs.declared.Table.{Table}
use Rattle.model.specs.Tasks.{task}
use Rattle.model.specs.Demand.{late_at}
use Rattle.model.specs.Run.{tie_order}
use Rattle.model.specs.Dispatcher.{wait_of, left_of, is_late, left_late, wait_released, left_released}
use Rattle.model.specs.History.{state_at_by, owner_at}
use Rattle.counting.specs.Count.{is_false}
use Rattle.counting.specs.Search.{below_suc}
use Rattle.wellformed.specs.Ranges.{Ranged}
use Rattle.backlog.specs.Choice.{NoLater, chosen_same}
use Rattle.backlog.specs.Taken.{closed_late_iff, chosen, wait_after, left_after}
use Rattle.backlog.proofs.Stepping.{sound}
use Rattle.backlog.specs.Walk.{quiet, walked, Clear}
use Rattle.backlog.proofs.WalkLate.{late_iff}
use Rattle.backlog.specs.WalkWorst.{noted, worst_by, worst_seen}

-- What a task waits at its deadline: T - D.
abbrev pub slack : Table → ℕ → ℕ
slack t i = (task t i).period - (task t i).deadline

module _ (t : Table) (r : Ranged t) where
  -- Once no job is late at n, one slot takes one off every wait, and one off what its owner has left.
  pub slot_wait : (n i : ℕ) → i < t.count → wait_of (walked t (suc n)) i ≡ wait_released t (walked t n) false i - 1
  unfolding state_at_by
  slot_wait n i l = wait_after t r (tie_order t) (walked t n) false (sound t r (tie_order t) quiet n).belongs i l

  pub slot_left : (n i : ℕ) → i < t.count → left_of (walked t (suc n)) i ≡ left_released t (walked t n) false i - cond (eqb (owner_at t quiet n) i) 1 0
  unfolding state_at_by
  slot_left n i l = left_after t r (tie_order t) (walked t n) false (sound t r (tie_order t) quiet n).belongs i l

  -- Where no deadline up to n is late, none is closed.
  pub none_closed : (n : ℕ) → Clear t (suc n) → (i : ℕ) → i < t.count → left_late t (walked t n) false i ≡ left_of (walked t n) i
  none_closed n c i l =
      rw (is_false (is_late t (walked t n) false i) (λ h. c n (le_refl (suc n)) ((late_iff t r (tie_order t) n (λ u m. c u (le_step m))).0 (i, l, h)))) refl

module _ (t : Table) (r : Ranged t) (n : ℕ) where
  -- The waits and slots left once the jobs of slot n are released, and its owner.
  abbrev pub W : ℕ → ℕ
  W = wait_released t (walked t n) false

  abbrev pub L : ℕ → ℕ
  L = left_released t (walked t n) false

  abbrev pub owner : ℕ
  owner = owner_at t quiet n

  -- Up to e no job is released; the owner's is not done before, nor at its deadline.
  pub record Within (e : ℕ) : Type 0 where
    pub waits : (i : ℕ) → i < t.count → e ≤ n + W i
    pub slots : owner < t.count → e ≤ n + L owner
    pub due : owner < t.count → e ≤ n + (W owner - slack t owner)

  -- What holds at e.
  pub record Leapt (e : ℕ) : Type 0 where
    pub clear : Clear t e
    pub wait : (i : ℕ) → i < t.count → wait_of (walked t e) i + e ≡ W i + n
    pub rest : owner < t.count → left_of (walked t e) owner + e ≡ L owner + n
    pub others : (i : ℕ) → i < t.count → (owner ≡ i → ⊥) → left_of (walked t e) i ≡ L i
    pub worst : worst_by t e ≡ cond (ltb owner t.count && eqb (left_of (walked t e) owner) 0)
        (noted (worst_by t n) owner ((task t owner).period - wait_of (walked t e) owner)) (worst_by t n)

  pub within_less : (u e : ℕ) → u ≤ e → Within e → Within u
  within_less u e m b = record { waits = λ i l. omega (arith, b.waits i l); slots = λ l. omega (arith, b.slots l); due = λ l. omega (arith, b.due l) }

  -- Of the open tasks the owner comes first.
  first_due : (i : ℕ) → i < t.count → 0 < L i → (owner < t.count) × NoLater (λ k. W k - slack t k) (tie_order t) owner i
  first_due i l p = elim (chosen t (tie_order t) (walked t n) false r.few) [
    | inl c ↦ absurd (c.shut i l (lt→ltb 0 (L i) p))
    | inr c ↦ (c.bound, c.ahead i l (lt→ltb 0 (L i) p))
  ]

  pub due_le : (i : ℕ) → i < t.count → 0 < L i → (owner < t.count) × (W owner - slack t owner ≤ W i - slack t i)
  due_le i l p = let (b, a) = first_due i l p in (b, elim a [ inl x ↦ omega arith | inr x ↦ omega (arith, x.0) ])

  -- The first slot.
  once : Clear t (suc n) → Within (suc n) → Leapt (suc n)
  unfolding worst_seen
  once c b = record {
    clear = c;
    wait = λ i l. omega (arith, slot_wait t r n i l, b.waits i l);
    rest = λ l. omega (arith, (rw (eq-eqb owner owner refl) at (slot_left t r n owner l)), b.slots l);
    others = λ i l q. omega (arith, (rw (ne_eqb owner i q) at (slot_left t r n i l)));
    worst = refl;
  }

  -- A slot more.
  module _ (e : ℕ) (later : n < e) (at : Leapt e) (b : Within (suc e)) where
    -- What is open at e was open at n, and its deadline is not yet reached.
    was_open : (i : ℕ) → i < t.count → 0 < left_of (walked t e) i → 0 < L i
    was_open i l p =
        elim (ℕ_discrete owner i) [
          | yes q ↦ (let z : left_of (walked t e) i + e ≡ L i + n = rw q at (at.rest (omega arith)) in omega arith)
          | no q ↦ omega (arith, at.others i l q)
        ]

    still_open : (i : ℕ) → i < t.count → 0 < L i → 0 < left_of (walked t e) i
    still_open i l p =
        elim (ℕ_discrete owner i) [
          | yes q ↦ (let z : left_of (walked t e) i + e ≡ L i + n = rw q at
              (at.rest (omega arith)) in let y : suc e ≤ n + L i = rw q at (b.slots (omega arith)) in omega arith)
          | no q ↦ omega (arith, at.others i l q)
        ]

    due_ahead : (i : ℕ) → i < t.count → 0 < L i → suc e ≤ n + (W i - slack t i)
    due_ahead i l p = let (m, x) = due_le i l p in omega (arith, b.due m)

    calm : T (late_at t e) → ⊥
    calm h =
        let (i, l, x) = (late_iff t r (tie_order t) e at.clear).1 h in
        let (m, p, q) = (closed_late_iff t (walked t e) false i).0 x in
        omega (arith, at.wait i l, due_ahead i l (was_open i l p))

    clear_next : Clear t (suc e)
    clear_next = below_suc (λ u. T (late_at t u) → ⊥) e at.clear calm

    wait_same : (i : ℕ) → i < t.count → wait_released t (walked t e) false i ≡ wait_of (walked t e) i
    wait_same i l = rw (ne_eqb (wait_of (walked t e) i) 0 (λ z. absurd (omega (arith, at.wait i l, b.waits i l))))

    left_same : (i : ℕ) → i < t.count → left_released t (walked t e) false i ≡ left_of (walked t e) i
    left_same i l = rw (ne_eqb (wait_of (walked t e) i) 0 (λ z. absurd (omega (arith, at.wait i l, b.waits i l)))) (none_closed t r e clear_next i l)

    owner_same : owner_at t quiet e ≡ owner
    owner_same =
        chosen_same _ _ _ _ (tie_order t) t.count (owner_at t quiet e) owner
        r.few
        (λ i l p. lt→ltb 0 (L i) (was_open i l (omega (arith, left_same i l, ltb→lt 0 (left_released t (walked t e) false i) p))))
        (λ i l p. lt→ltb 0 (left_released t (walked t e) false i) (omega (arith, left_same i l, still_open i l (ltb→lt 0 (L i) p))))
        (λ i k l m p q x. alike i k l m (was_open i l (omega (arith, left_same i l, ltb→lt 0 (left_released t (walked t e) false i) p)))
        (was_open k m (omega (arith, left_same k m, ltb→lt 0 (left_released t (walked t e) false k) q))) x)
        (chosen t (tie_order t) (walked t e) false r.few)
        (chosen t (tie_order t) (walked t n) false r.few)
      where
        moved : (i : ℕ) → i < t.count → 0 < L i → wait_released t (walked t e) false i - slack t i + e ≡ W i - slack t i + n
        moved i l p = omega (arith, wait_same i l, at.wait i l, due_ahead i l p)

        alike : (i k : ℕ) → i < t.count → k < t.count → 0 < L i → 0 < L k
            → NoLater (λ j. W j - slack t j) (tie_order t) i k
            → NoLater (λ j. wait_released t (walked t e) false j - slack t j) (tie_order t) i k
        alike i k l m p q (inl x) = inl (omega (arith, moved i l p, moved k m q))
        alike i k l m p q (inr (x, o)) = inr (omega (arith, moved i l p, moved k m q), o)

    worst_same : worst_by t e ≡ worst_by t n
    worst_same = at.worst ∙ rw (open_still) refl
      where
        open_still : (ltb owner t.count && eqb (left_of (walked t e) owner) 0) ≡ false
        open_still = elim (dec_lt owner t.count) [
          | yes l ↦ rw (lt-ltb owner t.count l, ne_eqb (left_of (walked t e) owner) 0 (λ z. absurd (omega (arith, at.rest l, b.slots l))))
          | no l ↦ rw (le-ltb owner t.count (omega arith))
        ]

    again : Leapt (suc e)
    unfolding worst_seen
    again = record {
      clear = clear_next;
      wait = λ i l. omega (arith, slot_wait t r e i l, wait_same i l, at.wait i l, b.waits i l);
      rest = λ l. omega (arith, (rw (owner_same, eq-eqb owner owner refl) at (slot_left t r e owner l)), left_same owner l, at.rest l, b.slots l);
      others = λ i l q. omega (arith, (rw (owner_same, ne_eqb owner i q) at (slot_left t r e i l)), left_same i l, at.others i l q);
      worst = rw (owner_same, worst_same) refl;
    }

  pub leap : Clear t (suc n) → (e : ℕ) → n < e → Within e → Leapt e
  leap c e l = le_ind (λ (m : ℕ). Within m → Leapt m) (once c) (λ m x ih b. again m x (ih (within_less m (suc m) (le_step (le_refl m)) b)) b) e l
