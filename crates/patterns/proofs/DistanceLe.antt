-- THE SMALLEST DISTANCE (`distance_le`): no release of the one task is followed, then or later, by one of the other at less than their distance.
use Rattle.std.specs.Prelude.{◌≡◌, refl, Bool, true, false, ℕ, ◌+◌, ◌-◌, ◌*◌, ◌/◌, ◌%◌, ◌≤◌, ◌<◌, ◌-ℤ◌, pos as int}
use Rattle.std.proofs.Common.{sym, ap, ◌∙◌, mul_assoc, mod-lt, arith}
use Rattle.std.specs.Int.{◌∣◌}
use Rattle.std.proofs.Math.Nat.{div-mul_cancel, add-mul-mod_self_right, add-mod-mod, mod-le, le_of_dvd, pos_of_dvd_of_pos}
use Rattle.values.specs.declared.Task.{Task}
use Rattle.model.specs.Tasks.{is_button, offset, release}
use Rattle.model.specs.Patterns.{common_divisor, distance}
use Rattle.counting.specs.Divisors.{IsGcd}
use Rattle.patterns.specs.Reduced.{reduced_lt, reduced_is}
use Rattle.patterns.proofs.Distance.{divisor_is, distance_button, distance_periodic}

-- Multiples of what g divides do not change a remainder by g.
mod_multiple : (x j p g : ℕ) → g ∣ p → (x + j * p) % g ≡ x % g
mod_multiple x j p g d =
    ap (λ (y : ℕ). (x + j * y) % g) (sym (div-mul_cancel g d)) ∙ ap (λ (y : ℕ). (x + y) % g) (sym (mul_assoc j (p / g) g))
    ∙ add-mul-mod_self_right x (j * (p / g)) g

module _ (one other : Task) (pos : 0 < one.period) where
  abbrev g : ℕ
  g = common_divisor one.period other.period

  abbrev d : IsGcd one.period other.period g
  d = divisor_is one.period other.period pos

  positive : 0 < g
  positive = pos_of_dvd_of_pos d.divides_left pos

  -- It is at most the period of the one.
  pub distance_low : distance one other ≤ one.period
  distance_low = go (is_button other) refl
    where
      go : (b : Bool) → is_button other ≡ b → distance one other ≤ one.period
      go true e = omega (arith, distance_button one other e)
      go false e = omega (arith, distance_periodic one other e, reduced_lt (int (offset other) -ℤ int (offset one)) g positive, le_of_dvd pos d.divides_left)

  pub distance_le : (j m : ℕ) → release one j ≤ release other m → release one j + distance one other ≤ release other m
  distance_le j m h = go (is_button other) refl
    where
      w : ℕ
      w = release other m - release one j

      sums : offset one + w + j * one.period ≡ offset other + m * other.period
      sums = omega arith

      leads : (offset one + w % g) % g ≡ offset other % g
      leads =
          add-mod-mod (offset one) w g ∙ sym (mod_multiple (offset one + w) j one.period g d.divides_left)
          ∙ ap (λ (x : ℕ). x % g) sums ∙ mod_multiple (offset other) m other.period g d.divides_right

      go : (b : Bool) → is_button other ≡ b → release one j + distance one other ≤ release other m
      go true e = omega (arith, distance_button one other e)
      go false e = omega (arith, distance_periodic one other e, reduced_is (offset one) (offset other) g (w % g) (mod-lt w positive) leads, mod-le w g)
