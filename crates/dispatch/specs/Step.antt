-- A step by what the slot's rules make of the lists.
use Rattle.std.specs.Prelude.{◌≡◌, refl, ◌⊎◌, List, Option, Some, None, IsSome, Bool, true, false, cond, ◌&&◌, ℕ, ◌+◌}
use Rattle.std.specs.Prelude.{◌-◌, ◌<◌, T, ltb, eqb, length, get_or, Ok}
use Rattle.std.proofs.Common.{sym, subst, ◌∙◌, arith, le-ltb}
use Rattle.std.proofs.Math.Path.{ap}
use Rattle.std.proofs.Math.Logic.{inl, inr}
use Rattle.std.proofs.Math.Decide.{dec_lt}
use Rattle.std.specs.Int.Count.{ones, count_trailing_zeros}
use Rattle.values.specs.declared.Table.{Table}
use Rattle.values.specs.declared.Turn.{Turn}
use Rattle.model.specs.Limits.{task_limit, slot_count_limit}
use Rattle.model.specs.Notation.{bit, bits, fill}
use Rattle.model.specs.Tasks.{task, measure}
use Rattle.model.specs.Run.{tie_order}
use Rattle.model.specs.Dispatcher.{State, Stepped, wait_of, given_of, slot_count, admitted_by, left_done, is_late, left_late, left_released, owner_now}
use Rattle.model.specs.Dispatcher.{owner_now_by, after, after_by, turn, turn_by, step_admitted_by}
use Rattle.counting.specs.Count.{and_iff, one_of_iff}
use Rattle.counting.specs.Sum.{sum_member}
use Rattle.counting.specs.Fill.{fill_eq, fill_same, fill_again}
use Rattle.counting.specs.Bits.{bits_eq, in_bits, ones_bits, trailing_bits}
use Rattle.slots.specs.declared.columns.Columns.{Columns}
use Rattle.slots.specs.Columns.{columns_of, Unpacked}
use Rattle.slots.specs.Slot.{closed, is_late as isLateIn, put_all}
use Rattle.slots.specs.Serve.{Served}
use Rattle.slots.specs.Laws.{Has, fill_has, closed_fill, slack_has, Slotted, table_served}
use Rattle.wellformed.specs.Ranges.{Ranged}
use Rattle.wellformed.specs.Admitted.{fitting}
use Rattle.backlog.specs.Taken.{owner_one}
use Rattle.dispatch.specs.declared.Moved.{Moved}
use Rattle.dispatch.specs.Accounts.{counted, counted_fill}

-- A step that nothing refuses.
abbrev pub taken : Table → State → Bool → Stepped
taken t d done = record { answer = Ok (turn t d done); state = after t d done }

-- A step on a well-formed table: refused by 8 or by 9, or taken.
abbrev pub step_well_formed : Table → State → Bool → Stepped
step_well_formed t d done = step_admitted_by t (tie_order t) d done (admitted_by t d (Ok (measure t)))

-- What a step that nothing refuses may assume; so it is of a state that is admitted and can count a slot more.
pub record Unrefused (t : Table) (d : State) : Type 0 where
  pub ranged : Ranged t
  pub ran : (d.last ≡ task_limit) ⊎ (d.last < t.count)
  pub room : slot_count t d < slot_count_limit

pub unrefused : (t : Table) (d : State) → Ranged t → admitted_by t d (Ok (measure t)) ≡ Ok tt
    → slot_count t d < slot_count_limit → Unrefused t d
unrefused t d r e l =
    record { ranged = r; ran = (one_of_iff d.last task_limit t.count).0 (fitting t d (measure t) e).ran; room = l }

-- A state of these lists and counts.
abbrev pub state_with : List ℕ → List ℕ → ℕ → List ℕ → ℕ → State
state_with wait left last given empty = record { wait = wait; left = left; last = last; given = given; empty = empty }

-- The lists are those that a step leaves, and the owner and the late set are its own.
pub record Advanced (t : Table) (d : State) (done : Bool) (m : Moved) : Type 0 where
  pub waits : m.wait ≡ (after t d done).wait
  pub lefts : m.left ≡ (after t d done).left
  pub owned : m.owner ≡ owner_now t d done
  pub lates : m.late ≡ bits (is_late t d done) task_limit

-- The answer of a step: how many bits the late set has, and its lowest.
abbrev pub turn_of : ℕ → ℕ → Turn
turn_of owner late = record { owner = owner; late = late; closed = ones late; lowest = count_trailing_zeros task_limit late }

-- The lists have a number for each task that a table can have.
pub record Whole (d : State) : Type 0 where
  pub waits : length d.wait ≡ task_limit
  pub lefts : length d.left ≡ task_limit

module _ (t : Table) (d : State) (done : Bool) (unrefused : Unrefused t d) (whole : Whole d) where
  -- Rule 1.
  pub done_fill : {left : List ℕ} → left ≡ cond done (closed d.left d.last) d.left → left ≡ fill t.count (left_done t d done) d.left
  done_fill e = e ∙ go done
    where
      go : (b : Bool) → cond b (closed d.left d.last) d.left ≡ fill t.count (left_done t d b) d.left
      go true = closed_fill t.count d.left d.last unrefused.ranged.few unrefused.ran
      go false = sym (fill_same t.count d.left 0)

  pub filled_has : (f : ℕ → ℕ) {left : List ℕ} → left ≡ fill t.count f d.left → Has t.count left f
  filled_has f e i l = rw e (fill_has t.count f d.left (omega (arith, unrefused.ranged.few, whole.lefts)) i l)

  -- Rule 2.
  pub late_bits : {left : List ℕ} {late : ℕ} → left ≡ fill t.count (left_done t d done) d.left
      → late ≡ bits (isLateIn d.wait left (columns_of t).slack t.count) task_limit → late ≡ bits (is_late t d done) task_limit
  late_bits {left} e q = q ∙ bits_eq _ _ task_limit (λ i l. same i (dec_lt i t.count))
    where
      same : (i : ℕ) → Dec (i < t.count) → isLateIn d.wait left (columns_of t).slack t.count i ≡ is_late t d done i
      same i (yes l) = rw (filled_has (left_done t d done) e i l, slack_has t unrefused.ranged.few i l)
      same i (no l) = rw (le-ltb i t.count (omega arith))

  pub late_fill : {left left' : List ℕ} {late : ℕ} → left ≡ fill t.count (left_done t d done) d.left → late ≡ bits (is_late t d done) task_limit
      → left' ≡ put_all left late 0 t.count → left' ≡ fill t.count (left_late t d done) d.left
  unfolding put_all
  late_fill e q s =
      s ∙ ap (fill t.count _) e ∙ fill_again t.count _ _ d.left
      ∙ fill_eq t.count _ _ d.left (λ i l. rw (
        q,
        in_bits (is_late t d done) task_limit i (omega (arith, unrefused.ranged.few)),
        filled_has (left_done t d done) e i l,
      ))

  -- Rules 3 and 4.
  module _ {left wait' left' : List ℕ} {seen : Option ℕ} (e : left ≡ fill t.count (left_late t d done) d.left)
      (s : Served d.wait left (columns_of t).period (columns_of t).cost (columns_of t).slack (columns_of t).rank t.count wait' left' seen) where
    -- Once the late jobs are closed none is left.
    calm : (i : ℕ) → i < t.count → T (isLateIn d.wait left (columns_of t).slack t.count i) → ⊥
    calm i l h = go (is_late t d done i) refl (rw (filled_has (left_late t d done) e i l, slack_has t unrefused.ranged.few i l) at h)
      where
        go : (b : Bool) → is_late t d done i ≡ b → T
            (ltb i t.count && (ltb 0 (cond b 0 (left_done t d done i)) && eqb (wait_of d i) ((task t i).period - (task t i).deadline))) → ⊥
        go true q x = ((and_iff (ltb i t.count) false).0 x).1
        go false q x = subst T q x

    pub one_owns : IsSome seen
    one_owns = go seen refl
      where
        go : (o : Option ℕ) → seen ≡ o → IsSome o
        go None q = let (i, l, h) = s.found q in absurd (calm i l h)
        go (Some owner) q = refl

    module _ {owner : ℕ} (o : seen ≡ Some owner) where
      slot : Slotted t.count (wait_of d) (left_late t d done) (λ i. (task t i).period) (λ i. (task t i).cost)
          (λ i. (task t i).period - (task t i).deadline) (tie_order t) d.wait left wait' left' owner
      slot =
          table_served t unrefused.ranged.few d.wait left (wait_of d) (left_late t d done) (λ i l. refl) (filled_has (left_late t d done) e)
          (s.slot owner o)

      owner_is : owner ≡ owner_now t d done
      unfolding owner_now_by
      owner_is = slot.owned

      lefts_are : left' ≡ fill t.count (λ i. left_released t d done i - cond (eqb (owner_now t d done) i) 1 0) d.left
      lefts_are = rw owner_is at (slot.lefts ∙ ap (fill t.count _) e ∙ fill_again t.count _ _ d.left)

  -- All four, from the lists that the code makes, and the slot counted.
  module _ {k : Columns} (c : Unpacked t k) {left left₂ wait' left' : List ℕ} {late : ℕ} {seen : Option ℕ}
      (a : left ≡ cond done (closed d.left d.last) d.left)
      (b : late ≡ bits (isLateIn d.wait left k.slack k.count) task_limit)
      (e : left₂ ≡ put_all left late 0 k.count)
      (s : Served d.wait left₂ k.period k.cost k.slack k.rank k.count wait' left' seen) where
    late_are : late ≡ bits (is_late t d done) task_limit
    late_are = late_bits (done_fill a) (rw (c.slacks, c.tasks) at b)

    lefts_left : left₂ ≡ fill t.count (left_late t d done) d.left
    lefts_left = late_fill (done_fill a) late_are (rw c.tasks at e)

    serving : Served d.wait left₂ (columns_of t).period (columns_of t).cost (columns_of t).slack (columns_of t).rank t.count wait' left' seen
    serving = rw (c.periods, c.costs, c.slacks, c.ranks, c.tasks) at s

    pub owner_there : IsSome seen
    owner_there = one_owns lefts_left serving

    pub advanced_is : {owner : ℕ} → seen ≡ Some owner → Advanced t d done (record { wait = wait'; left = left'; owner = owner; late = late })
    unfolding after_by
    advanced_is o =
        record {
          waits = (slot lefts_left serving o).waits;
          lefts = lefts_are lefts_left serving o;
          owned = owner_is lefts_left serving o;
          lates = late_are;
        }

-- And the slot counted: the owner is a task of the table or none, and its count has room for one slot more.
module _ (t : Table) (d : State) (done : Bool) (unrefused : Unrefused t d) (m : Moved) (a : Advanced t d done m) where
  one : (m.owner ≡ task_limit) ⊎ (m.owner < t.count)
  one = rw a.owned (owner_one t (tie_order t) d done unrefused.ranged.few)

  pub owner_room : m.owner < task_limit → get_or d.given m.owner 0 < slot_count_limit
  unfolding slot_count
  owner_room l = elim one [ inl e ↦ absurd (omega arith) | inr k ↦ omega (arith, unrefused.room, sum_member t.count (given_of d) m.owner k) ]

  pub state_is : {given : List ℕ} {empty : ℕ} → given ≡ counted d.given m.owner → empty ≡ d.empty + bit (eqb m.owner task_limit)
      → state_with m.wait m.left m.owner given empty ≡ after t d done
  unfolding after_by
  state_is g h =
      let gives : counted d.given m.owner ≡ fill t.count (λ i. given_of d i + bit (eqb (owner_now t d done) i)) d.given = counted_fill
      t.count d.given m.owner unrefused.ranged.few one ∙ rw a.owned in
      rw (g, h, gives, a.waits, a.lefts, a.owned)

  pub taken_is : {answer : Turn} {given : List ℕ} {empty : ℕ} → given ≡ counted d.given m.owner → answer ≡ turn_of m.owner m.late
      → empty ≡ d.empty + bit (eqb m.owner task_limit)
      → record { answer = Ok answer; state = state_with m.wait m.left m.owner given empty } ≡ taken t d done
  unfolding turn_by
  taken_is g w h = rw (w, state_is g h, a.owned, a.lates, ones_bits, trailing_bits)
