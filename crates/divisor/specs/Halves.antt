-- The common divisors of halves and of differences.
use Rattle.std.specs.Prelude.{◌≡◌, refl, ℕ, zero, suc, min, ◌+◌, ◌-◌, ◌*◌, ◌/◌, ◌%◌, ◌^◌, ◌≤◌, ◌<◌}
use Rattle.std.proofs.Common.{sym, ap, subst, ◌∙◌, div-one, le-mul_of_pos_right, mod-eq_of_lt, mul_assoc, one-mul, mul_comm, pow-suc, arith, pow-add, pow_pos}
use Rattle.std.specs.Int.{◌∣◌}
use Rattle.std.proofs.Math.Nat.{dvd_refl, dvd_trans, dvd-mul_left, dvd-mul_left_of_dvd, dvd_iff_mod-eq-zero, dvd_of_mul-dvd-mul_left, dvd-add}
use Rattle.std.proofs.Math.Nat.{dvd-add_iff_right, mul-dvd-mul_left, div-mul_cancel, div-div-eq-div-mul, le_of_dvd, min_comm, min-eq_left, pow-succ'}
use Rattle.std.proofs.Math.Decide.{ℕ_discrete, dec_le}
use Rattle.std.specs.Int.Count.{count_trailing_zeros, under}
use Rattle.counting.specs.Divisors.{IsGcd, gcd_zero}

-- The number is odd.
abbrev pub Odd : ℕ → Type 0
Odd n = n % 2 ≡ 1

-- How often a number of 64 bits can be halved.
abbrev pub twos : ℕ → ℕ
twos n = count_trailing_zeros 64 n

-- n is r, which is odd, doubled t times.
pub record OddPart (n r t : ℕ) : Type 0 where
  pub odd : Odd r
  pub whole : 2 ^ t * r ≡ n

-- An odd part is no larger than its number.
pub odd_part_le : {n r t : ℕ} → OddPart n r t → r ≤ n
odd_part_le {r = r} {t = t} p = omega (arith, p.whole, mul_comm (2 ^ t) r, le-mul_of_pos_right r (pow_pos t))

-- A number of d bits that is not 0 can be halved less than d times.
pub zeros_lt : (d n : ℕ) → 0 < n → n < 2 ^ d → count_trailing_zeros d n < d
unfolding count_trailing_zeros
zeros_lt zero n p h = absurd (omega arith)
zeros_lt (suc d) n p h = go (n % 2) refl (zeros_lt d (n / 2))
  where
    go : (r : ℕ) → n % 2 ≡ r → (0 < n / 2 → n / 2 < 2 ^ d → count_trailing_zeros d (n / 2) < d) → under r (count_trailing_zeros d (n / 2)) < suc d
    go zero e ih = omega (arith, ih (omega arith) (omega (arith, pow-suc 2 d)))
    go (suc r) e ih = omega arith

-- Twice a number has the same odd part.
odd_part_double : {n r t : ℕ} → OddPart n r t → OddPart (2 * n) r (suc t)
odd_part_double {n} {r} {t} p = record { odd = p.odd; whole = rw (pow-succ' 2 t) (omega (arith, p.whole)) }

-- The number without its lowest zeros is its odd part.
pub odd_part_shift : (d n : ℕ) → 0 < n → n < 2 ^ d → OddPart n (n / 2 ^ count_trailing_zeros d n) (count_trailing_zeros d n)
unfolding count_trailing_zeros
odd_part_shift zero n p h = absurd (omega arith)
odd_part_shift (suc d) n p h = go (n % 2) refl (odd_part_shift d (n / 2))
  where
    t : ℕ
    t = count_trailing_zeros d (n / 2)

    go : (r : ℕ) → n % 2 ≡ r → (0 < n / 2 → n / 2 < 2 ^ d → OddPart (n / 2) (n / 2 / 2 ^ t) t) → OddPart n (n / 2 ^ under r t) (under r t)
    go zero e ih =
        let s : n / 2 / 2 ^ t ≡ n / 2 ^ suc t = div-div-eq-div-mul n 2 (2 ^ t) ∙ ap (λ (x : ℕ). n / x) (sym (pow-succ' 2 t)) in
        let twice : 2 * (n / 2) ≡ n = omega arith in
        let half : OddPart (n / 2) (n / 2 ^ suc t) t = subst (λ (z : ℕ). OddPart (n / 2) z t) s (ih (omega arith) (omega (arith, pow-suc 2 d))) in
        subst (λ (z : ℕ). OddPart z (n / 2 ^ suc t) (suc t)) twice (odd_part_double half)
    go (suc r) e ih = rw div-one (record { odd = omega arith; whole = omega arith })

-- What divides an odd number is odd.
odd_divides : (d n : ℕ) → d ∣ n → Odd n → Odd d
odd_divides d n p o = elim (ℕ_discrete (d % 2) 0) [
  | yes e ↦ absurd (omega (arith, (dvd_iff_mod-eq-zero 2).0 (dvd_trans 2 ((dvd_iff_mod-eq-zero 2).1 e) p)))
  | no e ↦ omega arith
]

-- An odd divisor of twice a number divides the number.
odd_cancels : (d n : ℕ) → Odd d → d ∣ 2 * n → d ∣ n
odd_cancels d n o p = subst (λ (x : ℕ). d ∣ x) half (dvd-mul_left d (k / 2))
  where
    k : ℕ
    k = 2 * n / d

    whole : k * d ≡ 2 * n
    whole = div-mul_cancel d p

    even : k ≡ 2 * (k / 2)
    even = let e : d ≡ 2 * (d / 2) + 1 = omega arith in let f : k * (2 * (d / 2) + 1) ≡ 2 * n = rw (← e) whole in omega arith

    half : k / 2 * d ≡ n
    half = let f : 2 * (k / 2) * d ≡ 2 * n = rw (← even) whole in omega arith

-- So does one of the number doubled t times.
odd_cancels_all : (t d n : ℕ) → Odd d → d ∣ 2 ^ t * n → d ∣ n
odd_cancels_all zero d n o p = subst (λ (x : ℕ). d ∣ x) (omega arith) p
odd_cancels_all (suc t) d n o p = odd_cancels_all t d n o (odd_cancels d (2 ^ t * n) o (subst (λ (x : ℕ). d ∣ x) (rw (pow-succ' 2 t) (omega arith)) p))

-- The divisor of two doubles is the double of the divisor.
gcd_double : {x y g : ℕ} → IsGcd x y g → IsGcd (2 * x) (2 * y) (2 * g)
gcd_double {x} {y} {g} p = record {
  divides_left = mul-dvd-mul_left g 2 p.divides_left;
  divides_right = mul-dvd-mul_left g 2 p.divides_right;
  greatest = λ d u v. go d u v (ℕ_discrete (d % 2) 0);
}
  where
    go : (d : ℕ) → d ∣ 2 * x → d ∣ 2 * y → Dec (d % 2 ≡ 0) → d ∣ 2 * g
    go d u v (no o) = dvd-mul_left_of_dvd d (p.greatest d (odd_cancels d x (omega arith) u) (odd_cancels d y (omega arith) v)) 2
    go d u v (yes e) =
        let h : d ≡ 2 * (d / 2) = omega arith in
        let two : 0 < 2 = omega arith in
        let half = p.greatest (d / 2) (dvd_of_mul-dvd-mul_left (d / 2) two (rw h at u)) (dvd_of_mul-dvd-mul_left (d / 2) two (rw h at v)) in
        subst (λ (z : ℕ). z ∣ 2 * g) (sym h) (mul-dvd-mul_left (d / 2) 2 half)

-- The same of numbers that are both doubled t times.
gcd_doubled : (t : ℕ) {x y g : ℕ} → IsGcd x y g → IsGcd (2 ^ t * x) (2 ^ t * y) (2 ^ t * g)
gcd_doubled zero {x} {y} {g} p = rw (one-mul x, one-mul y, one-mul g) p
gcd_doubled (suc t) {x} {y} {g} p = rw (pow-succ' 2 t, mul_assoc 2 (2 ^ t) x, mul_assoc 2 (2 ^ t) y, mul_assoc 2 (2 ^ t) g) (gcd_double (gcd_doubled t p))

-- The order of two numbers does not matter.
gcd_turned : {x y g : ℕ} → IsGcd x y g → IsGcd y x g
gcd_turned p = record { divides_left = p.divides_right; divides_right = p.divides_left; greatest = λ d a b. p.greatest d b a }

-- An odd number and another have the divisor of the odd number and the other's odd part.
gcd_odd_part : {x n r t g : ℕ} → Odd x → OddPart n r t → IsGcd x r g → IsGcd x n g
gcd_odd_part {x} {n} {r} {t} {g} o q p = record {
  divides_left = p.divides_left;
  divides_right = subst (λ (z : ℕ). g ∣ z) q.whole (dvd-mul_left_of_dvd g p.divides_right (2 ^ t));
  greatest = λ d a b. p.greatest d a (odd_cancels_all t d r (odd_divides d x a o) (subst (λ (z : ℕ). d ∣ z) (sym q.whole) b));
}

-- The smaller of two numbers and their difference d have the divisor of the two.
gcd_difference : {x d y g : ℕ} → x + d ≡ y → IsGcd x d g → IsGcd x y g
gcd_difference {x} {d} {y} {g} e p = record {
  divides_left = p.divides_left;
  divides_right = subst (λ (z : ℕ). g ∣ z) e (dvd-add g p.divides_left p.divides_right);
  greatest = λ k a b. p.greatest k a ((dvd-add_iff_right k a).1 (subst (λ (z : ℕ). k ∣ z) (sym e) b));
}

-- Where both are doubled, and the first not more often, each of its doublings is one of the divisor too.
gcd_shared_left : {a b u v i j g : ℕ} → i ≤ j → OddPart a u i → OddPart b v j → IsGcd u v g → IsGcd a b (2 ^ i * g)
gcd_shared_left {a} {b} {u} {v} {i} {j} {g} l p q h =
    subst (λ (z : ℕ). IsGcd z b (2 ^ i * g)) p.whole (subst (λ (z : ℕ). IsGcd (2 ^ i * u) z (2 ^ i * g)) right (gcd_doubled i odd))
  where
    odd : IsGcd u (2 ^ (j - i) * v) g
    odd = gcd_odd_part p.odd (record { odd = q.odd; whole = refl }) h

    right : 2 ^ i * (2 ^ (j - i) * v) ≡ b
    right =
        let e : i + (j - i) ≡ j = omega arith in
        sym (mul_assoc (2 ^ i) (2 ^ (j - i)) v) ∙ ap (λ (x : ℕ). x * v) (sym (pow-add 2 i (j - i)) ∙ ap (λ (x : ℕ). 2 ^ x) e) ∙ q.whole

-- The divisor of two numbers is that of their odd parts, doubled as often as both are.
gcd_shared : {a b u v i j g : ℕ} → OddPart a u i → OddPart b v j → IsGcd u v g → IsGcd a b (2 ^ min i j * g)
gcd_shared {i = i} {j = j} p q h = elim (dec_le i j) [
  | yes l ↦ rw (min-eq_left l) (gcd_shared_left l p q h)
  | no l ↦ let m : j ≤ i = omega arith in rw (min_comm i j, min-eq_left m) (gcd_turned (gcd_shared_left m q p (gcd_turned h)))
]

-- The same by a shift to the left: nothing is shifted out, since what divides a number of 64 bits has no more.
pub gcd_shifted : {a b u v i j g k : ℕ} → a < 2 ^ 64 → OddPart a u i → OddPart b v j → IsGcd u v g → k ≡ min i j → IsGcd a b (g * 2 ^ k % 2 ^ 64)
gcd_shifted {a} {b} {i = i} {j = j} {g = g} fits p q h e =
    let both = gcd_shared p q h in
    let pos : 0 < a = omega (arith, p.odd, odd_part_le p) in
    let small : 2 ^ min i j * g < 2 ^ 64 = omega (arith, le_of_dvd pos both.divides_left) in
    rw (e, mul_comm g (2 ^ min i j), mod-eq_of_lt small) both

-- While two odd numbers are brought down to x and y: both stay odd, and their divisor stays.
pub record Odds (a b x y : ℕ) : Type 0 where
  pub left : Odd x
  pub right : Odd y
  pub same : (g : ℕ) → IsGcd x y g → IsGcd a b g

pub odds_start : {a b : ℕ} → Odd a → Odd b → Odds a b a b
odds_start p q = record { left = p; right = q; same = λ g h. h }

-- A turn: the odd part of the difference takes the place of the larger.
pub odds_right : {a b x y d v t : ℕ} → Odds a b x y → OddPart d v t → x + d ≡ y → Odds a b x v
odds_right s q e = record { left = s.left; right = q.odd; same = λ g h. s.same g (gcd_difference e (gcd_odd_part s.left q h)) }

pub odds_left : {a b x y d u t : ℕ} → Odds a b x y → OddPart d u t → y + d ≡ x → Odds a b u y
odds_left s q e = record { left = q.odd; right = s.right; same = λ g h. s.same g (gcd_turned (gcd_difference e (gcd_odd_part s.right q (gcd_turned h)))) }

-- Where both are equal, the divisor is found.
pub odds_end : {a b x y : ℕ} → Odds a b x y → x ≡ y → IsGcd a b x
odds_end {x = x} s e = s.same x (subst (λ (z : ℕ). IsGcd x z x) e (record { divides_left = dvd_refl x; divides_right = dvd_refl x; greatest = λ d a b. a }))

-- 0 and a number have the number as their divisor.
pub gcd_none : {a b r : ℕ} → a ≡ 0 → r ≡ b → IsGcd a b r
gcd_none {b = b} e f = rw (e, f) (gcd_turned (gcd_zero b))
