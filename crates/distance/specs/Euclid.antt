-- An integer reduced upward is its Euclidean remainder (`euclid_is`), which the library has by cases of its own.
use Rattle.std.specs.Prelude.{◌≡◌, refl, ℕ, suc, ◌+◌, ◌-◌, ◌*◌, ◌/◌, ◌%◌, ◌<◌, ℤ, pos, negsuc}
use Rattle.std.proofs.Common.{sym, ap, ◌∙◌, mod-lt, mod-eq_of_lt, arith}
use Rattle.std.proofs.Math.Nat.{mod_self, mod-add-div', add-mul-mod_self_right, mul-mod_left}
use Rattle.std.proofs.Math.Decide.{dec_lt}
use Rattle.std.specs.Int.{int_rem_euclid}
use Rattle.model.specs.Patterns.{reduced}

next_rem : (n g : ℕ) → 0 < g → g - 1 - n % g ≡ (g - suc n % g) % g
next_rem n g h = elim (dec_lt (suc (n % g)) g) [
  | yes l ↦
      let e : suc n ≡ suc (n % g) + n / g * g = omega (arith, mod-add-div' n g) in
      let f : suc n % g ≡ suc (n % g) = ap (λ (x : ℕ). x % g) e ∙ add-mul-mod_self_right (suc (n % g)) (n / g) g ∙ mod-eq_of_lt l in
      rw f (omega arith ∙ sym (mod-eq_of_lt (less g (n % g) l)))
  | no l ↦
      let e : suc n ≡ suc (n / g) * g = omega (arith, mod-add-div' n g, mod-lt n h) in
      let f : suc n % g ≡ 0 = ap (λ (x : ℕ). x % g) e ∙ mul-mod_left (suc (n / g)) g in
      rw f (omega (arith, mod-lt n h) ∙ sym (ap (λ (x : ℕ). x % g) (whole g) ∙ mod_self g))
]
  where
    less : (g r : ℕ) → suc r < g → g - suc r < g
    less g r l = omega arith

    whole : (g : ℕ) → g - 0 ≡ g
    whole g = omega arith

pub euclid_is : (z : ℤ) (g : ℕ) → 0 < g → int_rem_euclid z (pos g) ≡ pos (reduced z g)
euclid_is (pos n) g h = refl
euclid_is (negsuc n) g h = ap pos (next_rem n g h)
