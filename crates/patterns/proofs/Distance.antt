-- A BUTTON IS AT DISTANCE 0 (`distance_button`), and two periodic tasks at what their common divisor leaves.
use Rattle.std.specs.Prelude.{◌≡◌, refl, Bool, true, false, ◌&&◌, ℕ, suc, ◌-◌, ◌%◌, ◌<◌, eqb, ◌-ℤ◌, pos as int}
use Rattle.std.proofs.Common.{arith, eqb→eq}
use Rattle.std.proofs.Math.Nat.{dvd_iff_mod-eq-zero, le_of_dvd, pos_of_dvd_of_pos}
use Rattle.values.specs.declared.Task.{Task}
use Rattle.model.specs.Tasks.{is_button, offset}
use Rattle.model.specs.Patterns.{common_divisor, reduced, distance}
use Rattle.counting.specs.Count.{and_iff, eq→eqb}
use Rattle.counting.specs.Search.{last_is}
use Rattle.counting.specs.Divisors.{IsGcd, gcd, gcd_is}

-- The model's common divisor of two numbers, of which the first is not 0, is the greatest in both senses.
pub divisor_is : (a b : ℕ) → 0 < a → IsGcd a b (common_divisor a b)
unfolding common_divisor
divisor_is a b pos = rw found (gcd_is a b)
  where
    divides : ℕ → Bool
    divides g = eqb (a % g) 0 && eqb (b % g) 0

    both : IsGcd a b (gcd a b)
    both = gcd_is a b

    found : common_divisor a b ≡ gcd a b
    found =
        last_is divides (suc a) (gcd a b) (omega (arith, le_of_dvd pos both.divides_left))
        ((and_iff (eqb (a % gcd a b) 0) (eqb (b % gcd a b) 0)).1
        (eq→eqb _ 0 ((dvd_iff_mod-eq-zero (gcd a b)).0 both.divides_left), eq→eqb _ 0 ((dvd_iff_mod-eq-zero (gcd a b)).0 both.divides_right)))
        (λ d l m h.
        let (x, y) = (and_iff (eqb (a % d) 0) (eqb (b % d) 0)).0 h in
        absurd (omega (
          arith,
          le_of_dvd (pos_of_dvd_of_pos both.divides_left pos)
              (both.greatest d ((dvd_iff_mod-eq-zero d).1 (eqb→eq (a % d) 0 x)) ((dvd_iff_mod-eq-zero d).1 (eqb→eq (b % d) 0 y))),
        )))

-- A button is at distance 0, and a periodic task at the difference of the offsets, reduced.
pub distance_button : (one other : Task) → is_button other ≡ true → distance one other ≡ 0
unfolding distance
distance_button one other e = rw e refl

pub distance_periodic : (one other : Task) → is_button other ≡ false → distance one other ≡ reduced (int (offset other) -ℤ int (offset one))
    (common_divisor one.period other.period)
unfolding distance
distance_periodic one other e = rw e refl
