-- The greatest common divisor of two numbers, by Euclid's recursion, and the least common multiple of f 0 to f (n - 1).
use Rattle.std.specs.Prelude.{◌≡◌, refl, ◌↔◌, ◌⊎◌, Bool, ◌&&◌, ℕ, zero, suc, ◌+◌, ◌-◌, ◌*◌, ◌/◌, ◌%◌, ◌^◌, ◌≤◌, ◌<◌, T, ltb, eqb}
use Rattle.std.proofs.Common.{sym, ap, ◌∙◌, inl, inr, arith, add-one, eq-zero-or-pos, mod-lt, mul_comm}
use Rattle.std.proofs.Common.{mul_right_comm, zero-lt-suc, le_refl, mul-pos, mul-le-mul, mul-le-mul_left, pow-suc, ltb→lt, lt→ltb, eqb→eq}
use Rattle.std.specs.Int.{◌∣◌}
use Rattle.std.proofs.Math.Nat.{dvd_refl, dvd-zero, dvd_trans, dvd_antisymm, dvd-mod_iff, dvd_iff_mod-eq-zero, dvd-mul_left, dvd-mul_right}
use Rattle.std.proofs.Math.Nat.{dvd-mul_right_of_dvd, mul-dvd-mul_left, mul-dvd-mul_right}
use Rattle.std.proofs.Math.Nat.{mul-div_cancel', div-mul_cancel, dvd_of_mul-dvd-mul_left, dvd_of_mul-dvd-mul_right}
use Rattle.std.proofs.Math.Nat.{mul-div_assoc, le_of_dvd, pos_of_dvd_of_pos, le_step, one-dvd, mod-add-div', pow-zero}
use Rattle.model.specs.Notation.{every, first}
use Rattle.counting.specs.Count.{and_iff, every_iff}
use Rattle.counting.specs.Search.{first_unique, below_suc}

-- g divides a and b, and every number that divides both divides g.
pub record IsGcd (a b g : ℕ) : Type 0 where
  pub divides_left : g ∣ a
  pub divides_right : g ∣ b
  pub greatest : (d : ℕ) → d ∣ a → d ∣ b → d ∣ g

-- There is only one such number.
pub gcd_unique : {a b g h : ℕ} → IsGcd a b g → IsGcd a b h → g ≡ h
gcd_unique {g = g} {h = h} p q = dvd_antisymm (q.greatest g p.divides_left p.divides_right) (p.greatest h q.divides_left q.divides_right)

-- The divisor of a number that is not 0 is not 0.
pub gcd_pos : {a b g : ℕ} → IsGcd a b g → 0 < b → 0 < g
gcd_pos p = pos_of_dvd_of_pos p.divides_right

-- The end of Euclid's recursion.
pub gcd_zero : (a : ℕ) → IsGcd a 0 a
gcd_zero a = record { divides_left = dvd_refl a; divides_right = dvd-zero a; greatest = λ d p q. p }

-- A step of Euclid's recursion.
pub gcd_step : {a b g : ℕ} → IsGcd b (a % b) g → IsGcd a b g
gcd_step {a} {b} {g} p =
    record {
      divides_left = (dvd-mod_iff g {m = a} {n = b} p.divides_left).0 p.divides_right;
      divides_right = p.divides_left;
      greatest = λ d x y. p.greatest d y ((dvd-mod_iff d {m = a} {n = b} y).1 x);
    }

-- The second number falls at each step, so n steps are enough for one up to n.
unfoldable pub euclid : ℕ → ℕ → ℕ → ℕ
euclid zero a b = a
euclid (suc n) a zero = a
euclid (suc n) a (suc b) = euclid n (suc b) (a % suc b)

-- The greatest common divisor.
unfoldable pub gcd : ℕ → ℕ → ℕ
unfolding euclid
gcd a b = euclid b a b

-- Enough steps give the greatest common divisor.
euclid_is : (n a b : ℕ) → b ≤ n → IsGcd a b (euclid n a b)
unfolding euclid
euclid_is zero a zero l = gcd_zero a
euclid_is zero a (suc b) l = absurd (omega arith)
euclid_is (suc n) a zero l = gcd_zero a
euclid_is (suc n) a (suc b) l = gcd_step (euclid_is n (suc b) (a % suc b) (omega (arith, mod-lt a (zero-lt-suc b))))

-- `gcd` makes enough steps.
pub gcd_is : (a b : ℕ) → IsGcd a b (gcd a b)
unfolding gcd
gcd_is a b = euclid_is b a b (le_refl b)

-- Multiples of a and b that differ by g.
abbrev Ahead : ℕ → ℕ → ℕ → Type 0
Ahead a b g = (x : ℕ) × (y : ℕ) × (x * a ≡ y * b + g)

-- Of two such numbers that are not 0 either may be the larger.
ahead_turn : (a b g : ℕ) → 0 < a → 0 < b → Ahead a b g → Ahead b a g
ahead_turn a b g p q (x, y, e) =
    let u = (x + y) * a - y in
    let v = (x + y) * b - x in
    let c : (u + y) * b ≡ (x + y) * a * b = ap (λ (z : ℕ). z * b) (omega (arith, mul-le-mul_left (x + y) p)) in
    let d : (v + x) * a ≡ (x + y) * b * a = ap (λ (z : ℕ). z * a) (omega (arith, mul-le-mul_left (x + y) q)) in
    (u, v, omega arith)

-- Euclid's recursion finds such multiples of the greatest common divisor.
euclid_ahead : (n a b : ℕ) → b ≤ n → Ahead a b (euclid n a b) ⊎ Ahead b a (euclid n a b)
unfolding euclid
euclid_ahead zero a b l = inl (1, 0, omega arith)
euclid_ahead (suc n) a zero l = inl (1, 0, omega arith)
euclid_ahead (suc n) a (suc b) l = go (euclid_ahead n (suc b) (a % suc b) (omega (arith, mod-lt a (zero-lt-suc b))))
  where
    go : Ahead (suc b) (a % suc b) (euclid n (suc b) (a % suc b)) ⊎ Ahead (a % suc b) (suc b) (euclid n (suc b) (a % suc b))
        → Ahead a (suc b) (euclid n (suc b) (a % suc b)) ⊎ Ahead (suc b) a (euclid n (suc b) (a % suc b))
    go (inl (x, y, e)) = inr (y * (a / suc b) + x, y, omega (arith, ap (λ (z : ℕ). y * z) (mod-add-div' a (suc b))))
    go (inr (x, y, e)) = inl (x, x * (a / suc b) + y, omega (arith, ap (λ (z : ℕ). x * z) (mod-add-div' a (suc b))))

pub gcd_ahead : (a b : ℕ) → 0 < a → 0 < b → (x : ℕ) × (y : ℕ) × (x * a ≡ y * b + gcd a b)
unfolding gcd
gcd_ahead a b p q = elim (euclid_ahead b a b (le_refl b)) [ inl h ↦ h | inr h ↦ ahead_turn b a (gcd a b) q p h ]

-- The least common multiple of two numbers.
unfoldable pub lcm : ℕ → ℕ → ℕ
lcm a b = a / gcd a b * b

-- By any way to the greatest common divisor; and of a multiple it is that one.
pub lcm_by : {a b g : ℕ} → IsGcd a b g → a / g * b ≡ lcm a b
unfolding lcm
lcm_by {a} {b} d = rw (gcd_unique d (gcd_is a b))

pub lcm_multiple : (a b : ℕ) → a % b ≡ 0 → a ≡ lcm a b
lcm_multiple a b e = sym (div-mul_cancel b ((dvd_iff_mod-eq-zero b).1 e)) ∙ lcm_by (gcd_step (rw e (gcd_zero b)))

-- A factor of both numbers can be taken out.
gcd_mul : (m a b : ℕ) → 0 < m → gcd (m * a) (m * b) ∣ m * gcd a b
gcd_mul m a b pos =
    let d = gcd_is (m * a) (m * b) in
    let c = gcd (m * a) (m * b) / m in
    let e : m * c ≡ gcd (m * a) (m * b) = mul-div_cancel' m (d.greatest m (dvd-mul_right m a) (dvd-mul_right m b)) in
    let p : c ∣ a = dvd_of_mul-dvd-mul_left c pos (rw e d.divides_left) in
    let q : c ∣ b = dvd_of_mul-dvd-mul_left c pos (rw e d.divides_right) in
    rw e at (mul-dvd-mul_left c m ((gcd_is a b).greatest c p q))

-- The least common multiple times the greatest common divisor is the product.
lcm_mul_gcd : (a b : ℕ) → lcm a b * gcd a b ≡ a * b
unfolding lcm
lcm_mul_gcd a b = mul_right_comm (a / gcd a b) b (gcd a b) ∙ ap (λ (x : ℕ). x * b) (div-mul_cancel (gcd a b) (gcd_is a b).divides_left)

-- Both numbers divide their least common multiple.
divides_lcm : (a b : ℕ) → (a ∣ lcm a b) × (b ∣ lcm a b)
unfolding lcm
divides_lcm a b =
    let g = gcd a b in
    let d = gcd_is a b in
    let e : a / g * b ≡ a * (b / g) = mul_comm (a / g) b ∙ sym (mul-div_assoc g b d.divides_left) ∙ ap (λ (x : ℕ). x / g) (mul_comm b a)
    ∙ mul-div_assoc g a d.divides_right in
    (rw e (dvd-mul_right a (b / g)), dvd-mul_left b (a / g))

-- It divides every number that both divide.
lcm_least : (a b x : ℕ) → 0 < x → a ∣ x → b ∣ x → lcm a b ∣ x
lcm_least a b x pos p q =
    let d = gcd_is a b in
    let positive : 0 < gcd a b = pos_of_dvd_of_pos d.divides_left (pos_of_dvd_of_pos p pos) in
    let y : a * b ∣ x * a = rw (mul_comm x a) (mul-dvd-mul_left b a q) in
    let z : a * b ∣ x * b = mul-dvd-mul_right a p b in
    dvd_of_mul-dvd-mul_right (lcm a b) positive (rw lcm_mul_gcd (dvd_trans (a * b) ((gcd_is (x * a) (x * b)).greatest (a * b) y z) (gcd_mul x a b pos)))

-- The least common multiple divides exactly what both numbers divide.
lcm_iff : (a b x : ℕ) → (lcm a b ∣ x) ↔ ((a ∣ x) × (b ∣ x))
lcm_iff a b x = (λ h. (dvd_trans a (divides_lcm a b).0 h, dvd_trans b (divides_lcm a b).1 h), λ h. go (eq-zero-or-pos x) h)
  where
    go : (x ≡ 0) ⊎ (0 < x) → (a ∣ x) × (b ∣ x) → lcm a b ∣ x
    go (inl e) h = rw e (dvd-zero (lcm a b))
    go (inr pos) h = lcm_least a b x pos h.0 h.1

-- The least common multiple of f 0 to f (n - 1); 1 of no numbers.
unfoldable pub lcm_all : ℕ → (ℕ → ℕ) → ℕ
lcm_all zero f = 1
lcm_all (suc n) f = lcm (lcm_all n f) (f n)

-- It divides exactly what all of the numbers divide.
lcm_all_iff : (n : ℕ) (f : ℕ → ℕ) (x : ℕ) → (lcm_all n f ∣ x) ↔ ((i : ℕ) → i < n → f i ∣ x)
unfolding lcm_all
lcm_all_iff zero f x = (λ h i l. absurd (omega arith), λ h. one-dvd x)
lcm_all_iff (suc n) f x = go (lcm_iff (lcm_all n f) (f n) x) (lcm_all_iff n f x)
  where
    go : (lcm (lcm_all n f) (f n) ∣ x) ↔ ((lcm_all n f ∣ x) × (f n ∣ x)) → (lcm_all n f ∣ x) ↔ ((i : ℕ) → i < n → f i ∣ x) → (lcm (lcm_all n f) (f n) ∣ x)
        ↔ ((i : ℕ) → i < suc n → f i ∣ x)
    go s r = (
      λ h. below_suc (λ i. f i ∣ x) n (r.0 (s.0 h).0) (s.0 h).1,
      λ h. s.1 (r.1 (λ i l. h i (le_step l)), h n (le_refl (suc n))),
    )

-- Each of the numbers divides it.
pub divides_lcm_all : (n : ℕ) (f : ℕ → ℕ) (i : ℕ) → i < n → f i ∣ lcm_all n f
divides_lcm_all n f = (lcm_all_iff n f (lcm_all n f)).0 (dvd_refl (lcm_all n f))

-- The least common multiple of fewer numbers divides that of more.
lcm_all_divides : (n m : ℕ) (f : ℕ → ℕ) → n ≤ m → lcm_all n f ∣ lcm_all m f
lcm_all_divides n m f h = (lcm_all_iff n f (lcm_all m f)).1 (λ i l. divides_lcm_all m f i (omega arith))

-- The start of a loop that finds the least common multiple.
pub lcm_all_none : (f : ℕ → ℕ) → 1 ≡ lcm_all 0 f
unfolding lcm_all
lcm_all_none f = refl

-- A turn of a loop over the numbers.
pub lcm_all_next : (f : ℕ → ℕ) (i : ℕ) {l : ℕ} → l ≡ lcm_all i f → lcm l (f i) ≡ lcm_all (i + 1) f
unfolding lcm_all
lcm_all_next f i e = rw (add-one, e)

-- f 0 · f 1 · .. · f (n - 1).
unfoldable pub product : ℕ → (ℕ → ℕ) → ℕ
product zero f = 1
product (suc n) f = product n f * f n

-- Each of the numbers divides their product.
divides_product : (n : ℕ) (f : ℕ → ℕ) (i : ℕ) → i < n → f i ∣ product n f
unfolding product
divides_product zero f = λ i l. absurd (omega arith)
divides_product (suc n) f =
    below_suc (λ i. f i ∣ product (suc n) f) n (λ i l. dvd-mul_right_of_dvd (f i) (divides_product n f i l) (f n)) (dvd-mul_left (f n) (product n f))

-- The least common multiple divides the product.
lcm_all_product : (n : ℕ) (f : ℕ → ℕ) → lcm_all n f ∣ product n f
lcm_all_product n f = (lcm_all_iff n f (product n f)).1 (divides_product n f)

-- A product of numbers that are not 0 is not 0.
product_pos : (n : ℕ) (f : ℕ → ℕ) → ((i : ℕ) → i < n → 0 < f i) → 0 < product n f
unfolding product
product_pos zero f h = omega arith
product_pos (suc n) f h = mul-pos (product_pos n f (λ i l. h i (le_step l))) (h n (le_refl (suc n)))

-- A product of n numbers that are each at most b is at most b to the power of n.
pub product_le : (n : ℕ) (f : ℕ → ℕ) (b : ℕ) → ((i : ℕ) → i < n → f i ≤ b) → product n f ≤ b ^ n
unfolding product
product_le zero f b h = rw pow-zero (le_refl 1)
product_le (suc n) f b h = rw pow-suc (mul-le-mul (product_le n f b (λ i l. h i (le_step l))) (h n (le_refl (suc n))))

-- The least common multiple of numbers that are not 0 is not 0.
pub lcm_all_pos : (n : ℕ) (f : ℕ → ℕ) → ((i : ℕ) → i < n → 0 < f i) → 0 < lcm_all n f
lcm_all_pos n f h = pos_of_dvd_of_pos (lcm_all_product n f) (product_pos n f h)

-- It is at most their product.
pub lcm_all_le_product : (n : ℕ) (f : ℕ → ℕ) → ((i : ℕ) → i < n → 0 < f i) → lcm_all n f ≤ product n f
lcm_all_le_product n f h = le_of_dvd (product_pos n f h) (lcm_all_product n f)

-- No number above 0 that all of them divide is smaller.
pub lcm_all_least : (n : ℕ) (f : ℕ → ℕ) (x : ℕ) → 0 < x → ((i : ℕ) → i < n → f i ∣ x) → lcm_all n f ≤ x
lcm_all_least n f x pos h = le_of_dvd pos ((lcm_all_iff n f x).1 h)

-- With more such numbers it does not fall.
pub lcm_all_mono : (n m : ℕ) (f : ℕ → ℕ) → n ≤ m → ((i : ℕ) → i < m → 0 < f i) → lcm_all n f ≤ lcm_all m f
lcm_all_mono n m f l h = le_of_dvd (lcm_all_pos m f h) (lcm_all_divides n m f l)

-- The test by which the model searches: h is not 0, and each of the numbers divides it.
abbrev pub is_multiple : ℕ → (ℕ → ℕ) → ℕ → Bool
is_multiple n f h = ltb 0 h && every (λ i. eqb (h % f i) 0) n

-- The numbers that pass are the multiples of the least common multiple, but 0.
multiple_iff : (n : ℕ) (f : ℕ → ℕ) (h : ℕ) → T (is_multiple n f h) ↔ ((0 < h) × (lcm_all n f ∣ h))
multiple_iff n f h =
    let both = and_iff (ltb 0 h) (every (λ i. eqb (h % f i) 0) n) in
    let each = every_iff (λ i. eqb (h % f i) 0) n in (
      λ t. (ltb→lt 0 h (both.0 t).0, (lcm_all_iff n f h).1 (λ i l. (dvd_iff_mod-eq-zero (f i)).1 (eqb→eq (h % f i) 0 (each.0 (both.0 t).1 i l)))),
      λ r. both.1 (lt→ltb 0 h r.0, each.1 (λ i l. rw ((dvd_iff_mod-eq-zero (f i)).0 ((lcm_all_iff n f h).0 r.1 i l)) tt)),
    )

-- The first such number, looked for up to any bound that it keeps, is the least common multiple.
pub first_multiple : (n : ℕ) (f : ℕ → ℕ) (m : ℕ) → ((i : ℕ) → i < n → 0 < f i) → lcm_all n f ≤ m → first (is_multiple n f) 0 m ≡ lcm_all n f
first_multiple n f m pos le =
    first_unique (is_multiple n f) 0 m (lcm_all n f) (omega arith) (omega arith)
    (λ h a b t. let (c, d) = (multiple_iff n f h).0 t in omega (arith, le_of_dvd c d))
    (λ l. (multiple_iff n f (lcm_all n f)).1 (lcm_all_pos n f pos, dvd_refl (lcm_all n f)))
