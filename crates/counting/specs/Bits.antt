-- Laws of a set of numbers as bits: `bits p n` has bit k set for each k below n that passes.
use Rattle.std.specs.Prelude.{◌≡◌, refl, Bool, true, false, ℕ, zero, suc, ◌+◌, ◌*◌, ◌/◌, ◌%◌, ◌^◌, ◌≤◌, ◌<◌, T, eqb}
use Rattle.std.proofs.Common.{ap, ◌∙◌, add_comm, pow-suc, le_refl, one-add, arith, lit<, shl_exact, shr-shr}
use Rattle.std.proofs.Math.Nat.{le_step}
use Rattle.std.proofs.Math.Decide.{le_ind}
use Rattle.std.specs.Int.Bits.{bit_or, or_shifted_r}
use Rattle.std.specs.Int.Count.{ones, count_trailing_zeros, under}
use Rattle.std.proofs.lemmas.Nat.{ones_cat}
use Rattle.model.specs.Notation.{bit, sum, count, first, bits, in_set}
use Rattle.counting.specs.Sum.{sum_eq, sum_none, sum_more}
use Rattle.counting.specs.Search.{NoneFrom, first_shift}

-- The start of a loop that sets the bits.
pub bits_none : (p : ℕ → Bool) → 0 ≡ bits p 0
unfolding bits
bits_none p = sum_none _

-- A turn of that loop.
pub bits_more : (p : ℕ → Bool) (i : ℕ) {s r : ℕ} → s ≡ bits p i → r ≡ s + bit (p i) * 2 ^ i → r ≡ bits p (i + 1)
unfolding bits
bits_more p i = sum_more (λ k. bit (p k) * 2 ^ k) i

-- `s | 1 << i` at 32 bits, where the members of s are below i.
pub set_bit : (s i : ℕ) → i < 32 → s < 2 ^ i → bit_or s (1 * 2 ^ i % 4294967296) ≡ s + 2 ^ i
set_bit s i h g = rw (shl_exact 1 i 32 (lit< tt) (omega arith), or_shifted_r 1 i s g) (omega arith)

-- A set of numbers below n is a number below 2 ^ n.
pub bits_lt : (p : ℕ → Bool) (n : ℕ) → bits p n < 2 ^ n
unfolding bits sum
bits_lt p zero = lit< tt
bits_lt p (suc n) = rw pow-suc (go (p n) (bits_lt p n))
  where
    go : (b : Bool) → bits p n < 2 ^ n → bits p n + bit b * 2 ^ n < 2 ^ n * 2
    go true h = omega arith
    go false h = omega arith

-- `count_ones` of the set is how many pass.
pub ones_bits : (p : ℕ → Bool) (n : ℕ) → ones (bits p n) ≡ count p n
unfolding bits sum count ones
ones_bits p zero = refl
ones_bits p (suc n) = rw (add_comm (bits p n) (bit (p n) * 2 ^ n)) (ones_cat n (bit (p n)) (bits p n) (bits_lt p n)) ∙ go (p n) (ones_bits p n)
  where
    go : (b : Bool) → ones (bits p n) ≡ count p n → ones (bit b) + ones (bits p n) ≡ count p n + bit b
    go true e = omega arith
    go false e = omega arith

-- The lowest bit, and the others.
bits_low : (p : ℕ → Bool) (n : ℕ) → bits p (suc n) ≡ bits (λ k. p (suc k)) n * 2 + bit (p 0)
unfolding bits sum
bits_low p zero = omega arith
bits_low p (suc n) = rw pow-suc (omega (arith, bits_low p n))

-- `trailing_zeros` of the set is the first that passes.
pub trailing_bits : (p : ℕ → Bool) (n : ℕ) → count_trailing_zeros n (bits p n) ≡ first p 0 n
unfolding first count_trailing_zeros
trailing_bits p zero = refl
trailing_bits p (suc n) = rw bits_low (go (p 0) (bits (λ k. p (suc k)) n) (trailing_bits (λ k. p (suc k)) n))
  where
    go : (b : Bool) (m : ℕ) → count_trailing_zeros n m ≡ first (λ k. p (suc k)) 0 n → under ((m * 2 + bit b) % 2)
        (count_trailing_zeros n ((m * 2 + bit b) / 2)) ≡ elim b [ true ↦ 0 | false ↦ first p 1 n ]
    go true m e = let r : (m * 2 + 1) % 2 ≡ 1 = omega arith in rw r
    go false m e =
        let r : (m * 2 + 0) % 2 ≡ 0 = omega arith in
        let h : (m * 2 + 0) / 2 ≡ m = omega arith in
        rw (r, h, e, first_shift)

-- Numbers that do not pass add nothing to the set.
pub bits_past : (p : ℕ → Bool) (n m : ℕ) → n ≤ m → NoneFrom p n m → bits p m ≡ bits p n
unfolding bits sum
bits_past p n m h =
    le_ind (λ (k : ℕ). NoneFrom p n k → bits p k ≡ bits p n) (λ f. refl) (λ k l e f. go k (p k) (f k l (le_refl (suc k))) (e (λ j a b. f j a (le_step b)))) m h
  where
    go : (k : ℕ) (b : Bool) → (T b → ⊥) → bits p k ≡ bits p n → bits p k + bit b * 2 ^ k ≡ bits p n
    go k true x e = absurd (x tt)
    go k false x e = omega arith

-- Two tests that agree below n have the same members.
pub bits_eq : (p q : ℕ → Bool) (n : ℕ) → ((i : ℕ) → i < n → p i ≡ q i) → bits p n ≡ bits q n
unfolding bits
bits_eq p q n h = sum_eq n (λ k. bit (p k) * 2 ^ k) (λ k. bit (q k) * 2 ^ k) (λ i l. rw (h i l))

-- Bit i of the set says whether i passes.
pub bits_at : (p : ℕ → Bool) (n i : ℕ) → i < n → bits p n / 2 ^ i % 2 ≡ bit (p i)
bits_at p zero i l = absurd (omega arith)
bits_at p (suc n) i l = rw bits_low (go i l (bits_at (λ k. p (suc k)) n))
  where
    rest : ℕ
    rest = bits (λ k. p (suc k)) n

    low : (b : Bool) → (rest * 2 + bit b) / 1 % 2 ≡ bit b
    low true = omega arith
    low false = omega arith

    half : (b : Bool) → (rest * 2 + bit b) / 2 ≡ rest
    half true = omega arith
    half false = omega arith

    go : (i : ℕ) → i < suc n → ((j : ℕ) → j < n → rest / 2 ^ j % 2 ≡ bit (p (suc j))) → (rest * 2 + bit (p 0)) / 2 ^ i % 2 ≡ bit (p i)
    go zero a h = low (p 0)
    go (suc j) a h =
        let e : (rest * 2 + bit (p 0)) / 2 ^ suc j ≡ rest / 2 ^ j = rw (← one-add j, ← shr-shr (rest * 2 + bit (p 0)) 1 j, half (p 0)) in
        rw e (h j (omega arith))

-- A member of the set of those that pass is one that passes.
pub in_bits : (p : ℕ → Bool) (n i : ℕ) → i < n → in_set (bits p n) i ≡ p i
in_bits p n i l = ap (λ (x : ℕ). eqb x 1) (bits_at p n i l) ∙ go (p i)
  where
    go : (b : Bool) → eqb (bit b) 1 ≡ b
    go true = refl
    go false = refl
