-- THE CHOICE (`choose_is`): among no more tasks than a table can have the model's choice is an open one that comes no later than any other open one,
-- or is none, and none is open.
use Rattle.std.specs.Prelude.{◌≡◌, ◌⊎◌, ◌≢◌, Bool, true, false, cond, ◌&&◌, ◌||◌, T, ltb, eqb}
use Rattle.std.proofs.Math.Path.{refl}
use Rattle.std.proofs.Common.{sym, subst, ◌∙◌, inr, le_refl, arith, ltb-true, ltb-false, eqb-true}
use Rattle.std.proofs.Math.Logic.{inl}
use Prim.Native.Nat.{ℕ, zero, suc, ◌+◌, ◌*◌, ◌≤◌, ◌<◌}
use Rattle.std.proofs.Math.Decide.{dec_lt}
use Rattle.std.proofs.lemmas.Bool.{eqb-false}
use Rattle.model.specs.Limits.{task_limit}
use Rattle.model.specs.Run.{Order, precedes, choose}
use Rattle.counting.specs.Search.{below_suc}

-- Where a task stands in an order: its rank, and then its number, as one number. No two tasks stand alike.
abbrev pub standing : Order → ℕ → ℕ
standing rank i = rank i * task_limit + i

-- To stand no higher is to have the lower rank, or the same and no higher number.
pub standing_says : (rank : Order) (i k : ℕ) → i < task_limit → k < task_limit → standing rank i ≤ standing rank k → (rank i < rank k)
    ⊎ ((rank i ≡ rank k) × (i ≤ k))
standing_says rank i k a b h = elim (dec_lt (rank i) (rank k)) [ yes p ↦ inl p | no p ↦ inr (omega arith, omega arith) ]

-- A deadline and a standing come no later than others: an earlier deadline, or the same and no higher standing.
abbrev pub Ahead : ℕ → ℕ → ℕ → ℕ → Type 0
Ahead due stands due' stands' = (due < due') ⊎ ((due ≡ due') × (stands ≤ stands'))

-- Task k comes no later than task i.
abbrev pub NoLater : (ℕ → ℕ) → Order → ℕ → ℕ → Type 0
NoLater deadline rank k i = Ahead (deadline k) (standing rank k) (deadline i) (standing rank i)

-- The choice c among the tasks below n.
pub record Nobody (open? : ℕ → Bool) (n c : ℕ) : Type 0 where
  pub none : c ≡ task_limit
  pub shut : (i : ℕ) → i < n → T (open? i) → ⊥

pub record Somebody (open? : ℕ → Bool) (deadline : ℕ → ℕ) (rank : Order) (n c : ℕ) : Type 0 where
  pub bound : c < n
  pub opened : T (open? c)
  pub ahead : (i : ℕ) → i < n → T (open? i) → NoLater deadline rank c i

abbrev pub Chosen : (ℕ → Bool) → (ℕ → ℕ) → Order → ℕ → ℕ → Type 0
Chosen open? deadline rank n c = Nobody open? n c ⊎ Somebody open? deadline rank n c

module _ (deadline : ℕ → ℕ) (rank : Order) where
  -- To come no later goes on.
  no_later : (i k : ℕ) → NoLater deadline rank i k → (m : ℕ) → NoLater deadline rank k m → NoLater deadline rank i m
  no_later i k (inl a) m (inl b) = inl (omega arith)
  no_later i k (inl a) m (inr b) = inl (omega (arith, b.0))
  no_later i k (inr a) m (inl b) = inl (omega (arith, a.0))
  no_later i k (inr a) m (inr b) = inr (omega (arith, a.0, b.0), omega (arith, a.1, b.1))

  -- Of two tasks one comes no later, as the test says; of one rank it is the lower number.
  before : (i k : ℕ) → k < i → i < task_limit → (p q r : Bool) → ltb (deadline i) (deadline k) ≡ p → eqb (deadline i) (deadline k) ≡ q
      → ltb (rank i) (rank k) ≡ r
      → (T (p || (q && r)) → NoLater deadline rank i k) × ((T (p || (q && r)) → ⊥) → NoLater deadline rank k i)
  before i k l m true q r a b c = (λ t. inl (ltb-true _ _ a), λ h. absurd (h tt))
  before i k l m false true true a b c = (λ t. let e : rank i < rank k = ltb-true _ _ c in inr (eqb-true _ _ b, omega arith), λ h. absurd (h tt))
  before i k l m false true false a b c = (λ t. absurd t, λ h. let e : rank k ≤ rank i = ltb-false _ _ c in inr (sym (eqb-true _ _ b), omega arith))
  before i k l m false false r a b c =
      (λ t. absurd t, λ h. let e : deadline k ≤ deadline i = ltb-false _ _ a in let f : deadline i ≢ deadline k = eqb-false _ _ b in inl (omega arith))

module _ (open? : ℕ → Bool) (deadline : ℕ → ℕ) (rank : Order) where
  -- One more task to choose from.
  more : (n best : ℕ) → n < task_limit → (o e p : Bool) → open? n ≡ o → eqb best task_limit ≡ e → precedes deadline rank n best ≡ p
      → Chosen open? deadline rank n best → Chosen open? deadline rank (suc n) (cond (o && (e || p)) n best)
  more n best l false e p x y z (inl c) = inl (record { none = c.none; shut = below_suc (λ i. T (open? i) → ⊥) n c.shut (λ t. rw x at t) })
  more n best l false e p x y z (inr c) =
      inr (record {
        bound = omega (arith, c.bound);
        opened = c.opened;
        ahead = below_suc (λ i. T (open? i) → NoLater deadline rank best i) n
            c.ahead (λ t. absurd (rw x at t));
      })
  more n best l true true p x y z (inl c) =
      inr (record {
        bound = le_refl (suc n);
        opened = rw x tt;
        ahead = below_suc (λ i. T (open? i) → NoLater deadline rank n i) n
            (λ i m t. absurd (c.shut i m t)) (λ t. inr (refl, le_refl _));
      })
  more n best l true true p x y z (inr c) = let q : best ≡ task_limit = eqb-true _ _ y in absurd (omega (arith, c.bound))
  more n best l true false p x y z (inl c) = absurd (eqb-false _ _ y c.none)
  more n best l true false true x y z (inr c) =
      let first : NoLater deadline rank n best = (before deadline rank n best c.bound l _ _ _ refl refl refl).0 (subst T (sym z) tt) in
      inr (record {
        bound = le_refl (suc n);
        opened = rw x tt;
        ahead = below_suc (λ i. T (open? i) → NoLater deadline rank n i) n
            (λ i m t. no_later deadline rank n best first i (c.ahead i m t)) (λ t. inr (refl, le_refl _));
      })
  more n best l true false false x y z (inr c) =
      let first : NoLater deadline rank best n = (before deadline rank n best c.bound l _ _ _ refl refl refl).1 (λ t. subst T z t) in
      inr (record {
        bound = omega (arith, c.bound);
        opened = c.opened;
        ahead = below_suc (λ i. T (open? i) → NoLater deadline rank best i) n
            c.ahead (λ t. first);
      })

  pub choose_is : (n : ℕ) → n ≤ task_limit → Chosen open? deadline rank n (choose open? deadline rank n)
  unfolding choose
  choose_is zero l = inl (record { none = refl; shut = λ i m. absurd (omega arith) })
  choose_is (suc n) l = more n (choose open? deadline rank n) l _ _ _ refl refl refl (choose_is n (omega arith))

-- Two choices among the same open tasks, by deadlines that order these alike, are one.
pub chosen_same : (open? open?' : ℕ → Bool) (deadline deadline' : ℕ → ℕ) (rank : Order) (n c c' : ℕ)
    → n ≤ task_limit
    → ((i : ℕ) → i < n → T (open? i) → T (open?' i)) → ((i : ℕ) → i < n → T (open?' i) → T (open? i))
    → ((i k : ℕ) → i < n → k < n → T (open? i) → T (open? k) → NoLater deadline' rank i k → NoLater deadline rank i k)
    → Chosen open? deadline rank n c → Chosen open?' deadline' rank n c' → c ≡ c'
chosen_same o o' d d' rank n c c' few to back order (inl x) (inl y) = x.none ∙ sym y.none
chosen_same o o' d d' rank n c c' few to back order (inl x) (inr y) = absurd (x.shut c' y.bound (back c' y.bound y.opened))
chosen_same o o' d d' rank n c c' few to back order (inr x) (inl y) = absurd (y.shut c x.bound (to c x.bound x.opened))
chosen_same o o' d d' rank n c c' few to back order (inr x) (inr y) =
    both (x.ahead c' y.bound (back c' y.bound y.opened))
    (order c' c y.bound x.bound (back c' y.bound y.opened) x.opened (y.ahead c x.bound (to c x.bound x.opened)))
  where
    both : NoLater d rank c c' → NoLater d rank c' c → c ≡ c'
    both (inl a) (inl b) = absurd (omega arith)
    both (inl a) (inr b) = absurd (omega (arith, b.0))
    both (inr a) (inl b) = absurd (omega (arith, a.0))
    both (inr a) (inr b) = omega (arith, x.bound, y.bound, a.1, b.1)
