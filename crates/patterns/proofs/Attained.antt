-- SMALLEST INDEED (`distance_attained`): at some release of the one task a release of the other, which is periodic, follows at just their distance.
use Rattle.std.specs.Prelude.{◌≡◌, false, ℕ, ◌+◌, ◌-◌, ◌*◌, ◌/◌, ◌%◌, ◌≤◌, ◌<◌}
use Rattle.std.proofs.Common.{ap, arith}
use Rattle.std.proofs.Math.Nat.{mod-add-div}
use Rattle.std.proofs.Math.Decide.{dec_le}
use Rattle.values.specs.declared.Task.{Task}
use Rattle.model.specs.Tasks.{is_button, offset, release}
use Rattle.model.specs.Patterns.{common_divisor, distance}
use Rattle.counting.specs.Divisors.{gcd, gcd_is, gcd_unique, gcd_pos, gcd_ahead}
use Rattle.patterns.specs.Reduced.{reduced_leads}
use Rattle.patterns.proofs.Distance.{divisor_is, distance_periodic}

-- Two numbers with the same remainder by g: multiples of p and q close the gap between them, if such differ by g either way.
closed : (g p q : ℕ) → (x : ℕ) × (y : ℕ) × (x * p ≡ y * q + g) → (x : ℕ) × (y : ℕ) × (x * q ≡ y * p + g) → (a b : ℕ) → a % g ≡ b % g → (j : ℕ)
    × (m : ℕ) × (b + m * q ≡ a + j * p)
closed g p q (x, y, e) (x', y', e') a b same = go (dec_le (b / g) (a / g))
  where
    go : Dec (b / g ≤ a / g) → (j : ℕ) × (m : ℕ) × (b + m * q ≡ a + j * p)
    go (yes l) =
        let k = a / g - b / g in
        let r : a / g ≡ b / g + k = omega arith in
        (k * y', k * x', omega (arith, mod-add-div a g, mod-add-div b g, ap (λ (z : ℕ). g * z) r, ap (λ (z : ℕ). k * z) e'))
    go (no l) =
        let k = b / g - a / g in
        let r : b / g ≡ a / g + k = omega arith in
        (k * x, k * y, omega (arith, mod-add-div a g, mod-add-div b g, ap (λ (z : ℕ). g * z) r, ap (λ (z : ℕ). k * z) e))

pub distance_attained : (one other : Task) → is_button other ≡ false → 0 < one.period → 0 < other.period → (j : ℕ) × (m : ℕ)
    × (release other m ≡ release one j + distance one other)
distance_attained one other periodic p q =
    let (j, m, e) = closed g one.period other.period (rw (← same) at (gcd_ahead one.period other.period p q))
    (rw (← same') at (gcd_ahead other.period one.period q p)) (offset one + distance one other) (offset other) leads in
    (j, m, omega arith)
  where
    g : ℕ
    g = common_divisor one.period other.period

    same : g ≡ gcd one.period other.period
    same = gcd_unique (divisor_is one.period other.period p) (gcd_is one.period other.period)

    same' : g ≡ gcd other.period one.period
    same' =
        let d = gcd_is other.period one.period in
        gcd_unique (divisor_is one.period other.period p)
        (record { divides_left = d.divides_right; divides_right = d.divides_left; greatest = λ x u v. d.greatest x v u })

    leads : (offset one + distance one other) % g ≡ offset other % g
    leads = rw (distance_periodic one other periodic) (reduced_leads (offset one) (offset other) g (gcd_pos (divisor_is one.period other.period p) q))
