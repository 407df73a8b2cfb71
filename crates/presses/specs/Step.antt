-- A step under presses by what the slot's rules make of the lists.
use Rattle.std.specs.Prelude.{◌≡◌, ◌⊎◌, List, Option, Some, None, IsSome, Bool, cond, ◌&&◌, ℕ, ◌+◌, ◌-◌, ◌<◌, T, ltb, get_or, Ok}
use Rattle.std.proofs.Math.Path.{refl}
use Rattle.std.proofs.Common.{ap, ◌∙◌, eq-zero-or-pos, arith, lt-ltb, ltb→lt}
use Rattle.std.proofs.Math.Logic.{inl, inr}
use Rattle.std.proofs.Math.Bool.{true, false, not}
use Rattle.std.proofs.Math.Dec.{eqb, eqb→eq}
use Rattle.values.specs.declared.Table.{Table}
use Rattle.values.specs.declared.Turn.{Turn}
use Rattle.model.specs.Limits.{task_limit, slot_count_limit}
use Rattle.model.specs.Notation.{bit, bits, in_set, fill}
use Rattle.model.specs.Tasks.{task, is_button, measure}
use Rattle.model.specs.Run.{tie_order}
use Rattle.model.specs.Dispatcher.{State, wait_of, given_of, slot_count, admitted_by, is_late, left_late, wait_come, left_come}
use Rattle.model.specs.Presses.{Pressed, not_taken, comes, owner_come, after_come, press_taken, press_admitted}
use Rattle.counting.specs.Count.{and_iff, one_of_iff}
use Rattle.counting.specs.Sum.{sum_member}
use Rattle.counting.specs.Fill.{fill_eq, fill_again}
use Rattle.counting.specs.Bits.{bits_eq, in_bits, ones_bits, trailing_bits}
use Rattle.slots.specs.declared.columns.Columns.{Columns}
use Rattle.slots.specs.Columns.{columns_of, Unpacked}
use Rattle.slots.specs.Slot.{at, closed, is_late as isLateIn, is_free, put_all}
use Rattle.slots.specs.Serve.{Served}
use Rattle.slots.specs.Laws.{Has, slack_has, Slotted, wait_then, left_then, table_served, fill_has}
use Rattle.wellformed.specs.Ranges.{Ranged}
use Rattle.wellformed.specs.Admitted.{Fitting, fitting}
use Rattle.backlog.specs.Choice.{choose_is, chosen_same}
use Rattle.backlog.specs.Taken.{Belongs, known, still_open}
use Rattle.backlog.specs.Coming.{due_come, chosen_come, one_come}
use Rattle.dispatch.specs.Accounts.{counted, counted_fill}
use Rattle.dispatch.specs.Step.{Unrefused, Whole, state_with, turn_of, done_fill, filled_has, late_bits, late_fill}
use Rattle.presses.specs.declared.Moved.{Moved}

-- A step on a well-formed table: refused by 8 or by 9, or taken.
abbrev pub press_well_formed : Table → State → Bool → ℕ → Pressed
press_well_formed t d done pressed = press_admitted t d done pressed (admitted_by t d (Ok (measure t)))

-- What a step that nothing refuses may assume.
pub record Pressable (t : Table) (d : State) : Type 0 where
  pub ranged : Ranged t
  pub fits : Fitting t d
  pub room : slot_count t d < slot_count_limit

pub pressable : (t : Table) (d : State) → Ranged t → admitted_by t d (Ok (measure t)) ≡ Ok tt
    → slot_count t d < slot_count_limit → Pressable t d
pressable t d r e l = record { ranged = r; fits = fitting t d (measure t) e; room = l }

-- The lists are those that a step leaves, and the owner, the late set and the presses that were not taken are its own.
pub record Advanced (t : Table) (d : State) (done : Bool) (pressed : ℕ) (m : Moved) : Type 0 where
  pub waits : m.wait ≡ (after_come t d done (comes t d pressed)).wait
  pub lefts : m.left ≡ (after_come t d done (comes t d pressed)).left
  pub owned : m.owner ≡ owner_come t d done (comes t d pressed)
  pub lates : m.late ≡ bits (is_late t d done) task_limit
  pub untakes : m.untaken ≡ not_taken t d pressed

module _ (t : Table) (d : State) (done : Bool) (pressed : ℕ) (p : Pressable t d) (b : Belongs t d) where
  unrefused : Unrefused t d
  unrefused = record { ranged = p.ranged; ran = (one_of_iff d.last task_limit t.count).0 p.fits.ran; room = p.room }

  whole : Whole d
  whole = record { waits = b.waits; lefts = b.lefts }

  -- A free button that nobody presses waits on.
  abbrev holds : ℕ → Bool
  holds i = is_free t d.wait i && not (in_set pressed i)

  abbrev held : ℕ → ℕ
  held i = cond (holds i) 1 (wait_of d i)

  -- The presses that are not taken, and the waits with those buttons held, from the set of the free ones.
  untaken_is : {free untaken : ℕ} → free ≡ bits (is_free t d.wait) task_limit → untaken ≡ bits (λ i. in_set pressed i && not (in_set free i)) task_limit
      → untaken ≡ not_taken t d pressed
  unfolding not_taken
  untaken_is e q = q ∙ bits_eq _ _ task_limit (λ i l. rw (e, in_bits (is_free t d.wait) task_limit i l) (both (in_set pressed i) (is_free t d.wait i)))
    where
      both : (a b : Bool) → (a && not b) ≡ (a && not (a && b))
      both true b = refl
      both false b = refl

  held_fill : {free idle : ℕ} {wait : List ℕ} → free ≡ bits (is_free t d.wait) task_limit
      → idle ≡ bits (λ i. in_set free i && not (in_set pressed i)) task_limit → wait ≡ put_all d.wait idle 1 t.count → wait ≡ fill t.count held d.wait
  unfolding put_all
  held_fill {free} e q s =
      s ∙ fill_eq t.count _ _ d.wait (λ i l. let few : i < task_limit = omega (arith, p.ranged.few) in rw (
        q,
        in_bits (λ k. in_set free k && not (in_set pressed k)) task_limit i few,
        e,
        in_bits (is_free t d.wait) task_limit i few,
      ))

  -- A task whose wait is 0 has no open job once the late ones are closed.
  none_open : (i : ℕ) → i < t.count → wait_of d i ≡ 0 → left_late t d done i ≡ 0
  none_open i l z = go (eq-zero-or-pos (left_late t d done i))
    where
      go : (left_late t d done i ≡ 0) ⊎ (0 < left_late t d done i) → left_late t d done i ≡ 0
      go (inl e) = e
      go (inr h) = let (some, apart) = still_open t d done i l h in absurd (omega (arith, (known t d b i l).open_from some, apart))

  -- A task waits on, or its job comes exactly if its wait is 0.
  Cases : ℕ → Type 0
  Cases i = ((holds i ≡ true) × (comes t d pressed i ≡ false) × (wait_of d i ≡ 0)) ⊎ ((holds i ≡ false) × (comes t d pressed i ≡ eqb (wait_of d i) 0))

  cases : (i : ℕ) → i < t.count → Cases i
  unfolding Cases
  cases i l = rw (lt-ltb i t.count l) (go (is_button (task t i)) (in_set pressed i) (eqb (wait_of d i) 0) refl)
    where
      go : (b s z : Bool) → eqb (wait_of d i) 0 ≡ z → (((b && z) && not s ≡ true) × (cond b (s && (b && z)) z ≡ false) × (wait_of d i ≡ 0))
          ⊎ (((b && z) && not s ≡ false) × (cond b (s && (b && z)) z ≡ z))
      go true true true e = inr (refl, refl)
      go true false true e = inl (refl, refl, eqb→eq (wait_of d i) 0 (rw e tt))
      go true true false e = inr (refl, refl)
      go true false false e = inr (refl, refl)
      go false true true e = inr (refl, refl)
      go false true false e = inr (refl, refl)
      go false false true e = inr (refl, refl)
      go false false false e = inr (refl, refl)

  -- What the releases make of the waits that are held.
  left_same : (i : ℕ) → i < t.count → left_then held (left_late t d done) (λ k. (task t k).cost) i ≡ left_come t d done (comes t d pressed) i
  unfolding Cases
  left_same i l = go (cases i l)
    where
      go : Cases i → left_then held (left_late t d done) (λ k. (task t k).cost) i ≡ left_come t d done (comes t d pressed) i
      go (inl (h, c, z)) = rw (h, c)
      go (inr (h, c)) = rw (h, c)

  wait_same : (i : ℕ) → i < t.count → wait_then held (λ k. (task t k).period) i - 1 ≡ wait_come t d done (comes t d pressed) i - 1
  unfolding Cases
  wait_same i l = go (cases i l)
    where
      go : Cases i → wait_then held (λ k. (task t k).period) i - 1 ≡ wait_come t d done (comes t d pressed) i - 1
      go (inl (h, c, z)) = rw (h, c) (omega arith)
      go (inr (h, c)) = rw (h, c)

  due_same : (i : ℕ) → i < t.count → 0 < left_come t d done (comes t d pressed) i
      → wait_then held (λ k. (task t k).period) i ≡ wait_come t d done (comes t d pressed) i
  unfolding Cases
  due_same i l = go (cases i l)
    where
      go : Cases i → 0 < left_come t d done (comes t d pressed) i → wait_then held (λ k. (task t k).period) i ≡ wait_come t d done (comes t d pressed) i
      go (inl (h, c, z)) o = absurd (omega (arith, rw c at o, none_open i l z))
      go (inr (h, c)) o = rw (h, c)

  -- Rules 3 and 4.
  module _ {wait left wait' left' : List ℕ} {seen : Option ℕ} (w : wait ≡ fill t.count held d.wait) (e : left ≡ fill t.count (left_late t d done) d.left)
      (s : Served wait left (columns_of t).period (columns_of t).cost (columns_of t).slack (columns_of t).rank t.count wait' left' seen) where
    has_waits : Has t.count wait held
    has_waits i l = rw w (fill_has t.count held d.wait (omega (arith, p.ranged.few, b.waits)) i l)

    has_lefts : Has t.count left (left_late t d done)
    has_lefts = filled_has t d done unrefused whole (left_late t d done) e

    -- Once the late jobs are closed none is left.
    calm : (i : ℕ) → i < t.count → T (isLateIn wait left (columns_of t).slack t.count i) → ⊥
    unfolding Cases
    calm i l h =
        let x = ((and_iff (ltb i t.count) _).0 h).1 in
        let (y, z) = (and_iff (ltb 0 (at left i)) (eqb (at wait i) (at (columns_of t).slack i))).0 x in
        let some : 0 < left_late t d done i = rw (has_lefts i l) at (ltb→lt 0 (at left i) y) in
        go some (rw (has_waits i l, slack_has t p.ranged.few i l) at (eqb→eq (at wait i) (at (columns_of t).slack i) z)) (cases i l)
      where
        go : 0 < left_late t d done i → held i ≡ (task t i).period - (task t i).deadline → Cases i → ⊥
        go some q (inl (h, c, z)) = omega (arith, none_open i l z)
        go some q (inr (h, c)) = (still_open t d done i l some).1 (rw h at q)

    pub one_owns : IsSome seen
    one_owns = go seen refl
      where
        go : (o : Option ℕ) → seen ≡ o → IsSome o
        go None q = let (i, l, h) = s.found q in absurd (calm i l h)
        go (Some owner) q = refl

    module _ {owner : ℕ} (o : seen ≡ Some owner) where
      slot : Slotted t.count held (left_late t d done) (λ i. (task t i).period) (λ i. (task t i).cost)
          (λ i. (task t i).period - (task t i).deadline) (tie_order t) wait left wait' left' owner
      slot = table_served t p.ranged.few wait left held (left_late t d done) has_waits has_lefts (s.slot owner o)

      owner_is : owner ≡ owner_come t d done (comes t d pressed)
      owner_is =
          slot.owned
          ∙ chosen_same (λ i. ltb 0 (left_then held (left_late t d done) (λ k. (task t k).cost) i)) (λ i. ltb 0 (left_come t d done (comes t d pressed) i))
          (λ i. wait_then held (λ k. (task t k).period) i - ((task t i).period - (task t i).deadline))
          (due_come t p.ranged d done (comes t d pressed)) (tie_order t) t.count _ _ p.ranged.few
          (λ i l h. rw (left_same i l) at h)
          (λ i l h. rw (left_same i l) h)
          (λ i k l m x y h. rw (due_same i l (opened i l x), due_same k m (opened k m y)) h)
          (choose_is _ _ (tie_order t) t.count p.ranged.few) (chosen_come t p.ranged d done (comes t d pressed))
        where
          opened : (i : ℕ) → i < t.count → T (ltb 0 (left_then held (left_late t d done) (λ k. (task t k).cost) i))
              → 0 < left_come t d done (comes t d pressed) i
          opened i l x = ltb→lt 0 (left_come t d done (comes t d pressed) i) (rw (left_same i l) at x)

      lefts_are : left' ≡ fill t.count (λ i. left_come t d done (comes t d pressed) i - cond (eqb (owner_come t d done (comes t d pressed)) i) 1 0) d.left
      lefts_are =
          rw owner_is at (slot.lefts ∙ ap (fill t.count _) e ∙ fill_again t.count _ _ d.left)
          ∙ fill_eq t.count _ _ d.left (λ i l. rw (left_same i l))

      waits_are : wait' ≡ fill t.count (λ i. wait_come t d done (comes t d pressed) i - 1) d.wait
      waits_are = slot.waits ∙ ap (fill t.count _) w ∙ fill_again t.count _ _ d.wait ∙ fill_eq t.count _ _ d.wait wait_same

  -- All four, from the lists that the code makes.
  module _ {k : Columns} (c : Unpacked t k) {free untaken idle late : ℕ} {left left₂ wait₂ wait' left' : List ℕ} {seen : Option ℕ}
      (f : free ≡ bits (is_free t d.wait) task_limit)
      (u : untaken ≡ bits (λ i. in_set pressed i && not (in_set free i)) task_limit)
      (q : idle ≡ bits (λ i. in_set free i && not (in_set pressed i)) task_limit)
      (a : left ≡ cond done (closed d.left d.last) d.left)
      (x : late ≡ bits (isLateIn d.wait left k.slack k.count) task_limit)
      (e : left₂ ≡ put_all left late 0 k.count)
      (h : wait₂ ≡ put_all d.wait idle 1 k.count)
      (s : Served wait₂ left₂ k.period k.cost k.slack k.rank k.count wait' left' seen) where
    late_are : late ≡ bits (is_late t d done) task_limit
    late_are = late_bits t d done unrefused whole (done_fill t d done unrefused whole a) (rw (c.slacks, c.tasks) at x)

    lefts_left : left₂ ≡ fill t.count (left_late t d done) d.left
    lefts_left = late_fill t d done unrefused whole (done_fill t d done unrefused whole a) late_are (rw c.tasks at e)

    waits_held : wait₂ ≡ fill t.count held d.wait
    waits_held = held_fill f q (rw c.tasks at h)

    serving : Served wait₂ left₂ (columns_of t).period (columns_of t).cost (columns_of t).slack (columns_of t).rank t.count wait' left' seen
    serving = rw (c.periods, c.costs, c.slacks, c.ranks, c.tasks) at s

    pub owner_there : IsSome seen
    owner_there = one_owns waits_held lefts_left serving

    pub advanced_is : {owner : ℕ} → seen ≡ Some owner
        → Advanced t d done pressed (record { wait = wait'; left = left'; owner = owner; late = late; untaken = untaken })
    unfolding after_come
    advanced_is o =
        record {
          waits = waits_are waits_held lefts_left serving o;
          lefts = lefts_are waits_held lefts_left serving o;
          owned = owner_is waits_held lefts_left serving o;
          lates = late_are;
          untakes = untaken_is f u;
        }

-- And the slot counted: the owner is a task of the table or none, and its count has room for one slot more.
module _ (t : Table) (d : State) (done : Bool) (pressed : ℕ) (p : Pressable t d) (m : Moved) (a : Advanced t d done pressed m) where
  one : (m.owner ≡ task_limit) ⊎ (m.owner < t.count)
  one = rw a.owned (one_come t p.ranged d done (comes t d pressed))

  pub owner_room : m.owner < task_limit → get_or d.given m.owner 0 < slot_count_limit
  unfolding slot_count
  owner_room l = elim one [ inl e ↦ absurd (omega arith) | inr k ↦ omega (arith, p.room, sum_member t.count (given_of d) m.owner k) ]

  state_is : {given : List ℕ} {empty : ℕ} → given ≡ counted d.given m.owner → empty ≡ d.empty + bit (eqb m.owner task_limit)
      → state_with m.wait m.left m.owner given empty ≡ after_come t d done (comes t d pressed)
  unfolding after_come
  state_is g h =
      let gives : counted d.given m.owner ≡ fill t.count (λ i. given_of d i + bit (eqb (owner_come t d done (comes t d pressed)) i))
      d.given = counted_fill t.count d.given m.owner p.ranged.few one ∙ rw a.owned in
      rw (g, h, gives, a.waits, a.lefts, a.owned)

  pub taken_is : {answer : Turn} {given : List ℕ} {empty : ℕ} → given ≡ counted d.given m.owner → answer ≡ turn_of m.owner m.late
      → empty ≡ d.empty + bit (eqb m.owner task_limit)
      → record { answer = Ok answer; untaken = m.untaken; state = state_with m.wait m.left m.owner given empty }
      ≡ press_taken t d done pressed
  taken_is g w h = rw (w, state_is g h, a.owned, a.lates, a.untakes, ones_bits, trailing_bits)
