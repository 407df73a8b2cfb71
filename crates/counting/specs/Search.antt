-- Laws of searches: the first and the last number that passes a test, the largest value, the least number with a property.
use Rattle.std.specs.Prelude.{◌≡◌, refl, ◌↔◌, Bool, true, false, ◌&&◌, ℕ, zero, suc, ◌+◌, ◌-◌, max, ◌≤◌, ◌<◌, T, eqb}
use mathlib.Core.WellFounded.{fix}
use Rattle.std.proofs.Common.{le_refl, add-one, arith, below_more, eqb→eq}
use Rattle.std.proofs.Math.Nat.{le_step}
use Rattle.std.proofs.Math.Decide.{ℕ_discrete, dec_le, dec_lt}
use Rattle.std.proofs.Math.Dec.{eqb_refl}
use lib.WfN.{lt-wf_rel}
use Rattle.model.specs.Notation.{some, first, last, largest, Least}
use Rattle.counting.specs.Count.{and_iff, some_iff, dec_t}

-- None of the numbers from n up to i passes.
abbrev pub NoneFrom : (ℕ → Bool) → ℕ → ℕ → Type 0
NoneFrom p n i = (k : ℕ) → n ≤ k → k < i → T (p k) → ⊥

-- A turn of a loop that looks upward: i does not pass either.
pub none_up : (p : ℕ → Bool) (n i : ℕ) → NoneFrom p n i → (T (p i) → ⊥) → NoneFrom p n (i + 1)
none_up p n i all here k a b = below_more (λ k. n ≤ k → T (p k) → ⊥) i (λ k l m. all k m l) (λ m. here) k b a

-- A fact of all below n, and of n, is a fact of all up to n.
pub below_suc : (P : ℕ → Type 0) (n : ℕ) → ((i : ℕ) → i < n → P i) → P n → (i : ℕ) → i < suc n → P i
below_suc P n f x i l = below_more P n f x i (omega arith)

-- What the outcome k of a search among the m numbers from n on has to be.
record IsFirst (p : ℕ → Bool) (n m k : ℕ) : Type 0 where
  from : n ≤ k
  upto : k ≤ n + m
  before : NoneFrom p n k
  passes : k < n + m → T (p k)

is_first : (p : ℕ → Bool) (n m : ℕ) → IsFirst p n m (first p n m)
unfolding first
is_first p n zero = record { from = omega arith; upto = omega arith; before = omega arith; passes = λ h. absurd (omega arith) }
is_first p n (suc m) = go (p n) refl (is_first p (suc n) m)
  where
    go : (b : Bool) → p n ≡ b → IsFirst p (suc n) m (first p (suc n) m) → IsFirst p n (suc m) (elim b [ true ↦ n | false ↦ first p (suc n) m ])
    go true e f = record { from = omega arith; upto = omega arith; before = omega arith; passes = λ h. rw e tt }
    go false e f =
        record {
          from = omega arith;
          upto = omega arith;
          before = λ k a b t. elim (ℕ_discrete k n) [ yes q ↦ rw (q, e) at t | no q ↦ f.before k (omega arith) b t ];
          passes = λ h. f.passes (omega arith);
        }

-- The first is at least n.
pub first_from : (p : ℕ → Bool) (n m : ℕ) → n ≤ first p n m
first_from p n m = (is_first p n m).from

-- The first is at most n + m.
pub first_le : (p : ℕ → Bool) (n m : ℕ) → first p n m ≤ n + m
first_le p n m = (is_first p n m).upto

-- No number before the first passes.
pub first_before : (p : ℕ → Bool) (n m : ℕ) → NoneFrom p n (first p n m)
first_before p n m = (is_first p n m).before

-- A first below n + m passes.
pub first_passes : (p : ℕ → Bool) (n m : ℕ) → first p n m < n + m → T (p (first p n m))
first_passes p n m = (is_first p n m).passes

-- Only the first has these four laws.
pub first_unique : (p : ℕ → Bool) (n m k : ℕ) → n ≤ k → k ≤ n + m → NoneFrom p n k → (k < n + m → T (p k)) → first p n m ≡ k
first_unique p n m k a b none passes = go (dec_lt (first p n m) k) (dec_lt k (first p n m)) (is_first p n m)
  where
    go : Dec (first p n m < k) → Dec (k < first p n m) → IsFirst p n m (first p n m) → first p n m ≡ k
    go (yes x) y f = absurd (none (first p n m) f.from x (f.passes (omega arith)))
    go (no x) (yes y) f = absurd (f.before k a y (passes (omega arith)))
    go (no x) (no y) f = omega arith

-- A number that passes is the first, if none before it passes.
pub first_is : (p : ℕ → Bool) (n m k : ℕ) → n ≤ k → k < n + m → T (p k) → NoneFrom p n k → first p n m ≡ k
first_is p n m k a b t none = first_unique p n m k a (omega arith) none (λ h. t)

-- The first is n + m, if none passes.
pub first_none : (p : ℕ → Bool) (n m : ℕ) → NoneFrom p n (n + m) → first p n m ≡ n + m
first_none p n m none = first_unique p n m (n + m) (omega arith) (omega arith) none (λ h. absurd (omega arith))

-- Two tests that agree have the same first.
pub first_eq : (p q : ℕ → Bool) (n m : ℕ) → ((k : ℕ) → n ≤ k → k < n + m → p k ≡ q k) → first p n m ≡ first q n m
first_eq p q n m e = go (is_first q n m)
  where
    go : IsFirst q n m (first q n m) → first p n m ≡ first q n m
    go f =
        first_unique p n m (first q n m) f.from f.upto
        (λ k a b t. f.before k a b (rw (e k a (omega arith)) at t))
        (λ h. rw (e (first q n m) f.from h) (f.passes h))

-- A search that begins one later is the same search with the numbers one lower.
pub first_shift : (p : ℕ → Bool) (n m : ℕ) → first p (suc n) m ≡ suc (first (λ k. p (suc k)) n m)
unfolding first
first_shift p n zero = refl
first_shift p n (suc m) = go (p (suc n)) (first_shift p (suc n) m)
  where
    go : (b : Bool) → first p (suc (suc n)) m ≡ suc (first (λ k. p (suc k)) (suc n) m)
        → elim b [ true ↦ suc n | false ↦ first p (suc (suc n)) m ] ≡ suc (elim b [ true ↦ n | false ↦ first (λ k. p (suc k)) (suc n) m ])
    go true e = refl
    go false e = e

-- What the last number below n that passes has to be.
record IsLast (p : ℕ → Bool) (n k : ℕ) : Type 0 where
  upto : k ≤ n - 1
  behind : NoneFrom p (suc k) n
  passes : (j : ℕ) → j < n → T (p j) → T (p k)

is_last : (p : ℕ → Bool) (n : ℕ) → IsLast p n (last p n)
unfolding last
is_last p zero = record { upto = omega arith; behind = omega arith; passes = λ j a. absurd (omega arith) }
is_last p (suc n) = go (p n) refl (is_last p n)
  where
    go : (b : Bool) → p n ≡ b → IsLast p n (last p n) → IsLast p (suc n) (elim b [ true ↦ n | false ↦ last p n ])
    go true e f = record { upto = omega arith; behind = omega arith; passes = λ j a t. rw e tt }
    go false e f =
        record {
          upto = omega arith;
          behind = λ j a b t. elim (ℕ_discrete j n) [ yes q ↦ rw (q, e) at t | no q ↦ f.behind j a (omega arith) t ];
          passes = λ j a t. elim (ℕ_discrete j n) [ yes q ↦ absurd (rw (q, e) at t) | no q ↦ f.passes j (omega arith) t ];
        }

-- The last is below n.
pub last_lt : (p : ℕ → Bool) (n : ℕ) → 0 < n → last p n < n
last_lt p n h = omega (arith, (is_last p n).upto)

-- No number behind the last passes.
pub last_behind : (p : ℕ → Bool) (n : ℕ) → NoneFrom p (suc (last p n)) n
last_behind p n = (is_last p n).behind

-- The last passes, if any number does.
pub last_passes : (p : ℕ → Bool) (n k : ℕ) → k < n → T (p k) → T (p (last p n))
last_passes p n = (is_last p n).passes

-- A number that passes is the last, if none behind it passes.
pub last_is : (p : ℕ → Bool) (n k : ℕ) → k < n → T (p k) → NoneFrom p (suc k) n → last p n ≡ k
last_is p n k a t none = go (dec_lt (last p n) k) (dec_lt k (last p n))
  where
    go : Dec (last p n < k) → Dec (k < last p n) → last p n ≡ k
    go (yes x) y = absurd (last_behind p n k x a t)
    go (no x) (yes y) = absurd (none (last p n) y (last_lt p n (omega arith)) (last_passes p n k a t))
    go (no x) (no y) = omega arith

-- Every value is at most the largest.
pub le_largest : (n : ℕ) (f : ℕ → ℕ) (i : ℕ) → i < n → f i ≤ largest n f
unfolding largest
le_largest zero f = λ i l. absurd (omega arith)
le_largest (suc n) f = below_suc (λ i. f i ≤ largest (suc n) f) n (λ i l. omega (arith, le_largest n f i l)) (omega arith)

-- A bound of every value is one of the largest.
pub largest_le : (n : ℕ) (f : ℕ → ℕ) (b : ℕ) → ((i : ℕ) → i < n → f i ≤ b) → largest n f ≤ b
unfolding largest
largest_le zero f b h = omega arith
largest_le (suc n) f b h = omega (arith, largest_le n f b (λ i l. h i (le_step l)), h n (le_refl (suc n)))

-- Equal values, one largest.
pub largest_eq : (n : ℕ) (f g : ℕ → ℕ) → ((i : ℕ) → i < n → f i ≡ g i) → largest n f ≡ largest n g
unfolding largest
largest_eq zero f g h = refl
largest_eq (suc n) f g h = omega (arith, largest_eq n f g (λ i l. h i (le_step l)), h n (le_refl (suc n)))

-- The largest is one of the values.
largest_attained : (n : ℕ) (f : ℕ → ℕ) → 0 < n → (i : ℕ) × (i < n) × (f i ≡ largest n f)
unfolding largest
largest_attained zero f h = absurd (omega arith)
largest_attained (suc zero) f h = (0, le_refl 1, omega arith)
largest_attained (suc (suc n)) f h = go (dec_le (largest (suc n) f) (f (suc n))) (largest_attained (suc n) f (omega arith))
  where
    go : Dec (largest (suc n) f ≤ f (suc n)) → (i : ℕ) × (i < suc n) × (f i ≡ largest (suc n) f) → (i : ℕ) × (i < suc (suc n)) × (f i ≡ largest (suc (suc n)) f)
    go (yes x) r = (suc n, le_refl (suc (suc n)), omega arith)
    go (no x) (i, l, e) = (i, le_step l, omega arith)

-- The start of a loop that finds the largest.
pub largest_none : (f : ℕ → ℕ) → 0 ≡ largest 0 f
unfolding largest
largest_none f = refl

-- A turn of that loop.
pub largest_more : (f : ℕ → ℕ) (i : ℕ) {s r : ℕ} → s ≡ largest i f → r ≡ max s (f i) → r ≡ largest (i + 1) f
unfolding largest
largest_more f i e q = rw add-one (omega arith)

-- Of the values up to n, one is the greatest.
pub greatest : (f : ℕ → ℕ) (n : ℕ) → (k : ℕ) × (k ≤ n) × ((j : ℕ) → j ≤ n → f j ≤ f k)
greatest f n = let (k, l, e) = largest_attained (suc n) f (omega arith) in (k, omega arith, λ j h. omega (arith, le_largest (suc n) f j (omega arith)))

-- Induction from all smaller numbers.
pub strong : {P : ℕ → Type 0} → ((n : ℕ) → ((m : ℕ) → m < n → P m) → P n) → (n : ℕ) → P n
strong {P} step = fix lt-wf_rel.wf step

-- A decidable property that holds at t holds first at some u up to t.
pub least : (P : ℕ → Type 0) → ((t : ℕ) → Dec (P t)) → (t : ℕ) → P t → (u : ℕ) × (u ≤ t) × Least P u
least P d zero h = (0, le_refl 0, (h, λ u l. absurd (omega arith)))
least P d (suc t) h = go (d 0) (least (λ k. P (suc k)) (λ k. d (suc k)) t h)
  where
    go : Dec (P 0) → (u : ℕ) × (u ≤ t) × Least (λ k. P (suc k)) u → (u : ℕ) × (u ≤ suc t) × Least P u
    go (yes x) r = (0, omega arith, (x, λ u l. absurd (omega arith)))
    go (no x) (u, l, q) = (suc u, omega arith, (q.0, λ v. elim v as (λ k. k < suc u → P k → ⊥) [ zero ↦ λ a. x | suc w ↦ λ a. q.1 w (omega arith) ]))

-- Two properties that hold together hold first together.
pub least_iff : (P Q : ℕ → Type 0) → ((t : ℕ) → P t ↔ Q t) → (t : ℕ) → Least P t ↔ Least Q t
least_iff P Q e t = (λ (p, f). ((e t).0 p, λ u l q. f u l ((e u).1 q)), λ (q, f). ((e t).1 q, λ u l p. f u l ((e u).0 p)))

-- Where a property holds first is at most where it holds.
pub least_le : (P : ℕ → Type 0) (t u : ℕ) → Least P t → P u → t ≤ u
least_le P t u a h = elim (dec_lt u t) [ yes l ↦ absurd (a.1 u l h) | no l ↦ omega arith ]

-- No property holds first at two numbers.
pub least_unique : (P : ℕ → Type 0) (t u : ℕ) → Least P t → Least P u → t ≡ u
least_unique P t u a b = omega (arith, least_le P t u a b.0, least_le P u t b a.0)

-- Of the values below n that pass a test one is the smallest, if one passes.
pub smallest_of : (p : ℕ → Bool) (n : ℕ) (f : ℕ → ℕ) → T (some p n) → (i : ℕ) × (i < n) × T (p i) × ((k : ℕ) → k < n → T (p k) → f i ≤ f k)
smallest_of p n f h =
    let (m, l, q) = (some_iff p n).0 h in
    let (u, b, at) = least Attained (λ v. dec_t (some (λ k. p k && eqb (f k) v) n)) (f m) (attained m l q) in
    let (i, a, x) = (some_iff _ n).0 at.0 in
    let (y, z) = (and_iff (p i) (eqb (f i) u)).0 x in
    (i, a, y, λ k c d. omega (arith, eqb→eq (f i) u z, least_le Attained u (f k) at (attained k c d)))
  where
    Attained : ℕ → Type 0
    Attained v = T (some (λ k. p k && eqb (f k) v) n)

    attained : (k : ℕ) → k < n → T (p k) → Attained (f k)
    attained k l t = (some_iff (λ m. p m && eqb (f m) (f k)) n).1 (k, l, (and_iff (p k) (eqb (f k) (f k))).1 (t, eqb_refl (f k)))
