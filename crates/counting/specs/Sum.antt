-- Laws of sums.
use Rattle.std.specs.Prelude.{◌≡◌, refl, ◌⊎◌, ◌≢◌, ℕ, zero, suc, ◌+◌, ◌*◌, ◌≤◌, ◌<◌}
use Rattle.std.proofs.Common.{ap₂, inl, inr, eq-zero-or-pos, le_refl, add-one, arith, below_more}
use Rattle.std.proofs.Math.Nat.{le_step}
use Rattle.std.proofs.Math.Decide.{ℕ_discrete, dec_lt, le_ind}
use Rattle.model.specs.Notation.{sum}

-- Equal terms, equal sums.
pub sum_eq : (n : ℕ) (f g : ℕ → ℕ) → ((i : ℕ) → i < n → f i ≡ g i) → sum n f ≡ sum n g
unfolding sum
sum_eq zero f g h = refl
sum_eq (suc n) f g h = ap₂ ◌+◌ (sum_eq n f g (λ i l. h i (le_step l))) (h n (le_refl (suc n)))

-- Smaller terms, a smaller sum.
pub sum_le : (n : ℕ) (f g : ℕ → ℕ) → ((i : ℕ) → i < n → f i ≤ g i) → sum n f ≤ sum n g
unfolding sum
sum_le zero f g h = omega arith
sum_le (suc n) f g h = omega (arith, sum_le n f g (λ i l. h i (le_step l)), h n (le_refl (suc n)))

-- A longer sum is no smaller.
pub sum_longer : (f : ℕ → ℕ) (a b : ℕ) → a ≤ b → sum a f ≤ sum b f
unfolding sum
sum_longer f a zero l = let e : a ≡ 0 = omega arith in rw e (omega arith)
sum_longer f a (suc b) l =
    elim (dec_lt b a) [ yes x ↦ (let e : a ≡ suc b = omega arith in rw e (omega arith)) | no x ↦ omega (arith, sum_longer f a b (omega arith)) ]

-- A sum of sums.
pub sum_add : (n : ℕ) (f g : ℕ → ℕ) → sum n (λ i. f i + g i) ≡ sum n f + sum n g
unfolding sum
sum_add zero f g = refl
sum_add (suc n) f g = omega (arith, sum_add n f g)

-- Term by term a + b ≤ c + d, and so the sums.
pub sum_le_add : (n : ℕ) (a b c d : ℕ → ℕ) → ((i : ℕ) → i < n → a i + b i ≤ c i + d i) → sum n a + sum n b ≤ sum n c + sum n d
sum_le_add n a b c d h = omega (arith, sum_le n (λ i. a i + b i) (λ i. c i + d i) h, sum_add n a b, sum_add n c d)

-- A common factor.
pub sum_mul : (n k : ℕ) (f : ℕ → ℕ) → sum n (λ i. k * f i) ≡ k * sum n f
unfolding sum
sum_mul zero k f = omega arith
sum_mul (suc n) k f = omega (arith, sum_mul n k f)

-- No term is above the sum.
pub sum_member : (n : ℕ) (f : ℕ → ℕ) (i : ℕ) → i < n → f i ≤ sum n f
unfolding sum
sum_member zero f i l = absurd (omega arith)
sum_member (suc n) f i l = below_more (λ i. f i ≤ sum (suc n) f) n (λ i l. omega (arith, sum_member n f i l)) (omega arith) i (omega arith)

-- A positive sum has a positive term.
pub sum_pos : (n : ℕ) (f : ℕ → ℕ) → 0 < sum n f → (i : ℕ) × (i < n) × (0 < f i)
unfolding sum
sum_pos zero f h = absurd (omega arith)
sum_pos (suc n) f h = go (eq-zero-or-pos (f n)) (sum_pos n f)
  where
    go : (f n ≡ 0) ⊎ (0 < f n) → (0 < sum n f → (i : ℕ) × (i < n) × (0 < f i)) → (i : ℕ) × (i < suc n) × (0 < f i)
    go (inl e) ih = let (i, l, p) = ih (omega arith) in (i, le_step l, p)
    go (inr p) ih = (n, le_refl (suc n), p)

-- Two sums whose terms differ by d at one place, and nowhere else.
pub sum_by : (n : ℕ) (f g : ℕ → ℕ) (k d : ℕ) → k < n → f k ≡ g k + d → ((i : ℕ) → i < n → i ≢ k → f i ≡ g i) → sum n f ≡ sum n g + d
unfolding sum
sum_by zero f g k d l e h = absurd (omega arith)
sum_by (suc n) f g k d l e h = go (ℕ_discrete n k) (λ m. sum_by n f g k d m e (λ i a. h i (le_step a)))
  where
    go : Dec (n ≡ k) → (k < n → sum n f ≡ sum n g + d) → sum (suc n) f ≡ sum (suc n) g + d
    go (yes q) ih =
        let a : sum n f ≡ sum n g = sum_eq n f g (λ i m. h i (le_step m) (omega arith)) in
        let b : f n ≡ g n + d = rw q e in
        omega arith
    go (no q) ih = omega (arith, ih (omega arith), h n (le_refl (suc n)) q)

-- A sum of n terms that are at most b.
pub sum_bound : (n : ℕ) (f : ℕ → ℕ) (b : ℕ) → ((i : ℕ) → i < n → f i ≤ b) → sum n f ≤ n * b
unfolding sum
sum_bound zero f b h = omega arith
sum_bound (suc n) f b h = omega (arith, sum_bound n f b (λ i l. h i (le_step l)), h n (le_refl (suc n)))

-- Terms that are all 0.
pub sum_zero : (n : ℕ) (f : ℕ → ℕ) → ((i : ℕ) → i < n → f i ≡ 0) → sum n f ≡ 0
sum_zero n f h = omega (arith, sum_bound n f 0 (λ i l. omega (arith, h i l)))

-- Some of the terms, each once and in their order, make no more than all of them.
pub sum_kept : (m n : ℕ) (f kept : ℕ → ℕ) → ((i k : ℕ) → i < k → k < m → kept i < kept k) → ((i : ℕ) → i < m → kept i < n) → sum m (λ i. f (kept i)) ≤ sum n f
unfolding sum
sum_kept zero n f kept up low = omega arith
sum_kept (suc m) n f kept up low =
    omega (
      arith,
      sum_kept m (kept m) f kept (λ i k a b. up i k a (le_step b)) (λ i l. up i m l (le_refl (suc m))),
      le_ind (λ (x : ℕ). sum (suc (kept m)) f ≤ sum x f) (omega arith) (λ x l ih. omega arith) n (low m (le_refl (suc m))),
    )

-- The start of a loop that adds up.
pub sum_none : (f : ℕ → ℕ) → 0 ≡ sum 0 f
unfolding sum
sum_none f = refl

-- A turn of that loop.
pub sum_more : (f : ℕ → ℕ) (i : ℕ) {s r : ℕ} → s ≡ sum i f → r ≡ s + f i → r ≡ sum (i + 1) f
unfolding sum
sum_more f i e q = rw add-one (omega arith)
