-- How many j have f j < x, for an f that grows; closed forms; an f that repeats.
use Rattle.std.specs.Prelude.{◌≡◌, refl, ◌⊎◌, ◌≢◌, ◌↔◌, ◌&&◌, leb}
use Rattle.std.proofs.Common.{inl, inr, le_refl, le-div_iff_mul-le, mul-le-mul_left, div-lt_iff_lt-mul}
use Prim.Native.Nat.{ℕ, zero, suc, ◌+◌, ◌-◌, ◌*◌, ◌/◌, ◌≤◌, ◌<◌, min}
use Rattle.std.proofs.Math.Decide.{dec_lt, le_ind}
use native.Mathlib.Omega.{arith}
use Rattle.std.proofs.Math.Dec.{ltb}
use Rattle.model.specs.Notation.{count}
use Rattle.counting.specs.Count.{tests, and_iff, bit_yes, bit_no, count_all, count_from}

-- f grows by at least one at each step.
abbrev pub Grows : (ℕ → ℕ) → Type 0
Grows f = (j : ℕ) → f j < f (suc j)

-- How many j have f j < x. Those of a growing f are below x.
unfoldable pub below : (ℕ → ℕ) → ℕ → ℕ
below f x = count (λ j. ltb (f j) x) x

module _ (f : ℕ → ℕ) (g : Grows f) where
  pub grows_mono : (i j : ℕ) → i ≤ j → f i ≤ f j
  grows_mono i j h = le_ind (λ (m : ℕ). f i ≤ f m) (le_refl (f i)) (λ m l ih. omega (arith, g m)) j h

  grows_ge : (j : ℕ) → j ≤ f j
  grows_ge zero = omega arith
  grows_ge (suc j) = omega (arith, grows_ge j, g j)

  pub grows_lt : (i j : ℕ) → f i < f j → i < j
  grows_lt i j h = elim (dec_lt i j) [ yes p ↦ p | no p ↦ absurd (omega (arith, grows_mono j i (omega arith))) ]

  -- No value lies strictly between two that follow one another.
  pub between_none : (x j : ℕ) → f j < x → x < f (suc j) → (k : ℕ) → f k ≢ x
  between_none x j a b k e = absurd (omega (arith, grows_lt j k (omega arith), grows_lt k (suc j) (omega arith)))

  -- The law of the count: it has passed just the j with f j < x.
  upto : (x m j : ℕ) → (j < count (λ j. ltb (f j) x) m) ↔ ((j < m) × (f j < x))
  unfolding count
  upto x zero j = (λ h. absurd (omega arith), λ h. absurd (omega (arith, h.0)))
  upto x (suc m) j = at (dec_lt (f m) x) (upto x m j)
    where
      at : Dec (f m < x) → (j < count (λ j. ltb (f j) x) m) ↔ ((j < m) × (f j < x)) → (j < count (λ j. ltb (f j) x) (suc m)) ↔ ((j < suc m) × (f j < x))
      at (yes p) ih =
          let c = count_all (λ j. ltb (f j) x) m (λ k l. omega (tests, grows_mono k m (omega arith))) in
          let b = bit_yes (ltb (f m) x) (omega tests) in
          (λ h. (omega arith, omega (arith, grows_mono j m (omega arith))), λ h. omega (arith, h.0))
      at (no p) ih =
          let b = bit_no (ltb (f m) x) (λ t. p (omega tests)) in
          (λ h. let q = ih.0 (omega arith) in (omega arith, q.1), λ h. omega (arith, ih.1 (grows_lt j m (omega (arith, h.1)), h.1)))

  pub lt_below : (x j : ℕ) → (j < below f x) ↔ (f j < x)
  unfolding below
  lt_below x j = (λ h. ((upto x x j).0 h).1, λ h. (upto x x j).1 (omega (arith, grows_ge j), h))

  -- A bound from above, and one from below.
  pub below_most : (x k : ℕ) → ((j : ℕ) → f j < x → j < k) → below f x ≤ k
  below_most x k h = elim (dec_lt k (below f x)) [ yes p ↦ absurd (omega (arith, h k ((lt_below x k).0 p))) | no p ↦ omega arith ]

  pub below_least : (x k : ℕ) → ((j : ℕ) → j < k → f j < x) → k ≤ below f x
  below_least x k h = elim (dec_lt (below f x) k) [ yes p ↦ absurd (omega (arith, (lt_below x (below f x)).1 (h (below f x) p))) | no p ↦ omega arith ]

  -- The law determines the count.
  below_unique : (x k : ℕ) → ((j : ℕ) → (j < k) ↔ (f j < x)) → below f x ≡ k
  below_unique x k h = omega (arith, below_most x k (λ j. (h j).1), below_least x k (λ j. (h j).0))

-- What is passed by f at x is passed by g at y.
pub below_below : (f g : ℕ → ℕ) → Grows f → Grows g → (x y : ℕ) → ((j : ℕ) → f j < x → g j < y) → below f x ≤ below g y
below_below f g p q x y h = below_most f p x (below g y) (λ j l. (lt_below g q y j).1 (h j l))

-- Two sequences that agree have as many members below a bound.
pub below_eq : (f g : ℕ → ℕ) → Grows f → Grows g → ((j : ℕ) → f j ≡ g j) → (x : ℕ) → below f x ≡ below g x
below_eq f g F G e x = omega (arith, below_below f g F G x x (λ j h. omega (arith, e j)), below_below g f G F x x (λ j h. omega (arith, e j)))

module _ (f : ℕ → ℕ) (g : Grows f) where
  pub below_mono : (x y : ℕ) → x ≤ y → below f x ≤ below f y
  below_mono x y h = below_below f f g g x y (λ j l. omega arith)

  -- With c for each of them: all for j is there where f j is below x, and more than s where f is at the j that s is at.
  pub work_le : (c x j : ℕ) → f j < x → c * suc j ≤ c * below f x
  work_le c x j l = mul-le-mul_left c ((lt_below f g x j).1 l)

  pub work_lt : (c x s : ℕ) → 0 < c → (s < c * below f x) ↔ (f (s / c) < x)
  work_lt c x s pos = (
    λ h. (lt_below f g x (s / c)).0 ((div-lt_iff_lt-mul pos).1 (omega arith)),
    λ h. omega (arith, (div-lt_iff_lt-mul pos).0 ((lt_below f g x (s / c)).1 h)),
  )

  -- The first that is not below x.
  pub below_next : (x : ℕ) → x ≤ f (below f x)
  below_next x = elim (dec_lt (f (below f x)) x) [ yes p ↦ absurd (omega (arith, (lt_below f g x (below f x)).1 p)) | no p ↦ omega arith ]

  -- With no value from x up to y, as many lie below the one as below the other.
  pub below_same : (x y : ℕ) → x ≤ y → ((j : ℕ) → f j < y → f j < x) → below f x ≡ below f y
  below_same x y h none = omega (arith, below_mono x y h, below_below f f g g y x none)

  -- At its own value f has passed the j before; after it, and up to the next, j too.
  pub below_at : (j : ℕ) → below f (f j) ≡ j
  below_at j = below_unique f g (f j) j (λ k. (λ l. omega (arith, g k, grows_mono f g (suc k) j l), grows_lt f g k j))

  pub below_is : (x j : ℕ) → f j < x → x ≤ f (suc j) → below f x ≡ suc j
  below_is x j a b = below_unique f g x (suc j) (λ k. (λ l. omega (arith, grows_mono f g k j (omega arith)), λ l. grows_lt f g k (suc j) (omega arith)))

  pub below_after : (j : ℕ) → below f (suc (f j)) ≡ suc j
  below_after j = below_is (suc (f j)) j (omega arith) (g j)

-- No value lies below 0.
pub below_none : (f : ℕ → ℕ) → below f 0 ≡ 0
unfolding below count
below_none f = refl

-- How many of the first m have x ≤ f j and g j ≤ y.
count_between : (f g : ℕ → ℕ) → Grows f → Grows g → (x y m : ℕ) → count (λ j. leb x (f j) && leb (g j) y) m ≡ min (below g (suc y)) m - below f x
count_between f g p q x y m = count_from _ (below f x) (below g (suc y)) m (λ j l. (
  λ t.
      let h = simp and_iff at t in
      (below_most f p x j (λ k a. grows_lt f p k j (omega tests)), (lt_below g q (suc y) j).1 (omega tests)),
  λ h. simp and_iff (omega (tests, below_next f p x, grows_mono f p (below f x) j h.0), omega (tests, (lt_below g q (suc y) j).0 h.1)),
))

-- Where each g j is above f j, the j that count are below y, and so the first y are enough.
pub count_inside : (f g : ℕ → ℕ) → Grows f → Grows g → ((j : ℕ) → f j < g j) → (x y : ℕ)
    → count (λ j. leb x (f j) && leb (g j) y) y ≡ below g (suc y) - below f x
count_inside f g p q h x y = omega (arith, count_between f g p q x y y, below_most g q (suc y) y (λ j l. omega (arith, h j, grows_ge f p j)))

-- Closed forms for a period p from o on: how many lie below x; how many, moved on by d, lie up to x.
module _ (o p : ℕ) (pos : 0 < p) where
  pub below_period : (x : ℕ) → below (λ j. o + j * p) x ≡ (x - o + (p - 1)) / p
  below_period x =
      below_unique (λ j. o + j * p) (λ j. omega arith) x _ (λ j. (
        λ a. omega (arith, (le-div_iff_mul-le pos).0 a),
        λ a. (le-div_iff_mul-le pos).1
            (omega arith),
      ))

  pub upto_period : (d x : ℕ) → below (λ j. o + j * p + d) (suc x) ≡ (x + p - (o + d)) / p
  upto_period d x =
      below_unique (λ j. o + j * p + d) (λ j. omega arith) (suc x) _
      (λ j. (λ a. omega (arith, (le-div_iff_mul-le pos).0 a), λ a. (le-div_iff_mul-le pos).1 (omega arith)))

-- An f that is h higher m steps later.
module _ (f : ℕ → ℕ) (g : Grows f) (m h : ℕ) (later : (j : ℕ) → f (j + m) ≡ f j + h) where
  pub below_later_le : (x : ℕ) → below f (x + h) ≤ below f x + m
  below_later_le x = below_most f g (x + h) (below f x + m) (λ j l. grows_lt f g j (below f x + m) (omega (arith, later (below f x), below_next f g x)))

  pub below_later : (x : ℕ) → f 0 ≤ x → below f (x + h) ≡ below f x + m
  below_later x z = omega (arith, below_later_le x, below_least f g (x + h) (below f x + m) passed)
    where
      passed : (j : ℕ) → j < below f x + m → f j < x + h
      passed j l = go (below f x) refl
        where
          go : (b : ℕ) → below f x ≡ b → f j < x + h
          go zero e = omega (arith, later 0, grows_mono f g (suc j) (0 + m) (omega arith), g j)
          go (suc c) e = omega (arith, later c, (lt_below f g x c).0 (omega arith), grows_mono f g j (c + m) (omega arith))

  pub below_later_or : (x : ℕ) → (below f x ≡ 0) ⊎ (below f (x + h) ≡ below f x + m)
  below_later_or x = go (below f x) refl
    where
      go : (b : ℕ) → below f x ≡ b → (below f x ≡ 0) ⊎ (below f (x + h) ≡ below f x + m)
      go zero e = inl e
      go (suc b) e = inr (below_later x (omega (arith, (lt_below f g x 0).0 (omega arith))))
