-- Laws of the rules of a slot: what they make of lists whose entries for the n tasks are known.
use Rattle.std.specs.Prelude.{◌≡◌, refl, ◌⊎◌, List, Bool, true, false, cond, ◌&&◌, ℕ, ◌-◌, ◌≤◌, ◌<◌, ltb, eqb, length, set, replicate}
use Rattle.std.proofs.Common.{sym, ap, ◌∙◌, inl, inr, arith, lt-ltb, le-ltb, eq-eqb, ne_eqb, ltb→lt}
use Rattle.values.specs.declared.Table.{Table}
use Rattle.model.specs.Limits.{task_limit}
use Rattle.model.specs.Notation.{bits, fill}
use Rattle.model.specs.Tasks.{task}
use Rattle.model.specs.Run.{Order, tie_order, choose}
use Rattle.counting.specs.Count.{tests, and_iff, every_iff, eq→eqb, is_true, is_false}
use Rattle.counting.specs.Fill.{at_end_lem, fill_passed, fill_eq, fill_same, fill_set}
use Rattle.counting.specs.Bits.{bits_past}
use Rattle.slots.specs.Slot.{at, none_left, closed}
use Rattle.slots.specs.Columns.{columns_of}
use Rattle.slots.specs.Choice.{choose_eq}

-- The end of a loop that finds the tasks that pass: past the n tasks there are none.
pub found_done : (p : ℕ → Bool) {tasks : ℕ} (i n : ℕ) → i ≤ n → n ≤ i → n ≤ task_limit → tasks ≡ bits (λ k. ltb k n && p k) i
    → tasks ≡ bits (λ k. ltb k n && p k) task_limit
found_done p i n a b h e =
    at_end_lem (bits (λ k. ltb k n && p k)) i n a b e
    ∙ sym (bits_past (λ k. ltb k n && p k) n task_limit h (λ k l m t. let q : k < n = ltb→lt k n ((and_iff (ltb k n) (p k)).0 t).0 in omega arith))

-- Some task has a slot left, or none has.
pub one_left : (left : List ℕ) (n i : ℕ) → i < n → 0 < at left i → none_left left n ≡ false
one_left left n i l h = is_false (none_left left n) (λ x. absurd (omega (tests, (every_iff (λ k. eqb (at left k) 0) n).0 x i l)))

pub all_given : (left : List ℕ) (n : ℕ) → ((i : ℕ) → i < n → at left i ≡ 0) → none_left left n ≡ true
all_given left n h = is_true (none_left left n) ((every_iff (λ k. eqb (at left k) 0) n).1 (λ i l. eq→eqb (at left i) 0 (h i l)))

-- The list has the numbers f 0, f 1, .. for the n tasks.
abbrev pub Has : ℕ → List ℕ → (ℕ → ℕ) → Type 0
Has n l f = (i : ℕ) → i < n → at l i ≡ f i

-- A filled list has what it was filled with.
pub fill_has : (n : ℕ) (f : ℕ → ℕ) (l : List ℕ) → n ≤ length l → Has n (fill n f l) f
fill_has n f l h i a = fill_passed n f l i 0 a (omega arith)

-- One task's number is changed: none of them, if it is no task.
pub store_fill : (n : ℕ) (f g : ℕ → ℕ) (w : List ℕ) (task v : ℕ) → n ≤ task_limit → (task ≡ task_limit) ⊎ (task < n) → (task < n → v ≡ g task)
    → ((i : ℕ) → i < n → (i ≡ task → ⊥) → f i ≡ g i)
    → cond (ltb task task_limit) (set (fill n f w) task v) (fill n f w) ≡ fill n g w
store_fill n f g w task v h (inl e) q s = rw (le-ltb task task_limit (omega arith)) (fill_eq n f g w (λ i l. s i l (omega arith)))
store_fill n f g w task v h (inr l) q s = rw (lt-ltb task task_limit (omega arith)) (fill_set n f g w task l (q l) s)

-- The job of one task is closed.
pub closed_fill : (n : ℕ) (left : List ℕ) (task : ℕ) → n ≤ task_limit → (task ≡ task_limit) ⊎ (task < n)
    → closed left task ≡ fill n (λ i. cond (eqb task i) 0 (at left i)) left
unfolding closed
closed_fill n left task h r =
    ap (λ (l : List ℕ). cond (ltb task task_limit) (set l task 0) l) (sym (fill_same n left 0))
    ∙ store_fill n (at left) (λ i. cond (eqb task i) 0 (at left i)) left task 0 h r (λ l. rw (eq-eqb task task refl))
    (λ i l q. rw (ne_eqb task i (λ e. q (sym e))))

-- A slot's releases, for waits W, slots left L, periods P and costs C.
abbrev pub wait_then : (ℕ → ℕ) → (ℕ → ℕ) → ℕ → ℕ
wait_then W P i = cond (eqb (W i) 0) (P i) (W i)

abbrev pub left_then : (ℕ → ℕ) → (ℕ → ℕ) → (ℕ → ℕ) → ℕ → ℕ
left_then W L C i = cond (eqb (W i) 0) (C i) (L i)

-- A slot in the numbers of its n tasks, with slacks S and ranks R.
pub record Slotted (n : ℕ) (W L P C S : ℕ → ℕ) (R : Order) (wait left wait' left' : List ℕ) (owner : ℕ) : Type 0 where
  pub owned : owner ≡ choose (λ i. ltb 0 (left_then W L C i)) (λ i. wait_then W P i - S i) R n
  pub waits : wait' ≡ fill n (λ i. wait_then W P i - 1) wait
  pub lefts : left' ≡ fill n (λ i. left_then W L C i - cond (eqb owner i) 1 0) left

-- The same slot in numbers that the lists have.
slotted_has :
    (n : ℕ) (wait left period cost slack rank : List ℕ) (W L P C S : ℕ → ℕ) (R : Order) {wait' left' : List ℕ} {owner : ℕ}
    → Has n wait W → Has n left L → Has n period P → Has n cost C → Has n slack S → Has n rank R
    → Slotted n (at wait) (at left) (at period) (at cost) (at slack) (at rank) wait left wait' left' owner
    → Slotted n W L P C S R wait left wait' left' owner
slotted_has n wait left period cost slack rank W L P C S R w l p c s r x =
    record {
      owned = x.owned ∙ choose_eq _ _ _ _ _ _ n (λ i a. rw (w i a, l i a, c i a)) (λ i a. rw (w i a, p i a, s i a)) r;
      waits = x.waits ∙ fill_eq n _ _ wait (λ i a. rw (w i a, p i a));
      lefts = x.lefts ∙ fill_eq n _ _ left (λ i a. rw (w i a, l i a, c i a));
    }

-- What the columns of a table have for its tasks.
module _ (t : Table) (few : t.count ≤ task_limit) where
  period_has : Has t.count (columns_of t).period (λ i. (task t i).period)
  unfolding columns_of
  period_has = fill_has t.count _ (replicate task_limit 0) few

  cost_has : Has t.count (columns_of t).cost (λ i. (task t i).cost)
  unfolding columns_of
  cost_has = fill_has t.count _ (replicate task_limit 0) few

  pub slack_has : Has t.count (columns_of t).slack (λ i. (task t i).period - (task t i).deadline)
  unfolding columns_of
  slack_has = fill_has t.count _ (replicate task_limit 0) few

  rank_has : Has t.count (columns_of t).rank (tie_order t)
  unfolding columns_of
  rank_has = fill_has t.count _ (replicate task_limit 0) few

  -- A slot of the table's tasks.
  pub table_served :
      (wait left : List ℕ) (W L : ℕ → ℕ) {wait' left' : List ℕ} {owner : ℕ} → Has t.count wait W → Has t.count left L
      → Slotted t.count (at wait) (at left) (at (columns_of t).period) (at (columns_of t).cost) (at (columns_of t).slack)
      (at (columns_of t).rank) wait left wait' left' owner
      → Slotted t.count W L (λ i. (task t i).period) (λ i. (task t i).cost) (λ i. (task t i).period - (task t i).deadline)
      (tie_order t) wait left wait' left' owner
  table_served wait left W L wait-has left-has =
      slotted_has t.count wait left (columns_of t).period (columns_of t).cost (columns_of t).slack
      (columns_of t).rank W L _ _ _ _ wait-has left-has period_has cost_has slack_has rank_has
