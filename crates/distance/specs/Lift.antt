-- A remainder as `%` gives it, with the dividend's sign, lifted by g where it is negative: an integer reduced upward.
use Rattle.std.specs.Prelude.{◌≡◌, refl, true, false, ℕ, zero, suc, ◌-◌, ◌%◌, ◌<◌, ℤ, pos, negsuc, nat_abs, neg_ℤ, ◌+ℤ◌}
use Rattle.std.proofs.Common.{sym, ap, ◌∙◌, true≢false, mod-lt, mod-eq_of_lt, not-suc-le-zero, arith, le-ltb, ltb-true}
use Rattle.std.proofs.Math.Nat.{mod_self}
use Rattle.std.specs.Int.Signed.{rem_z, lt_z}
use Rattle.model.specs.Patterns.{reduced}

-- A remainder, lifted.
abbrev lift_of : ℤ → ℕ → ℕ
lift_of (pos k) g = k
lift_of (negsuc k) g = g - suc k

lift_neg : (r g : ℕ) → r < g → lift_of (neg_ℤ (pos r)) g ≡ (g - r) % g
lift_neg zero g h = let e : g - 0 ≡ g = omega arith in sym (ap (λ (x : ℕ). x % g) e ∙ mod_self g)
lift_neg (suc r) g h = sym (mod-eq_of_lt (omega arith))

lift_rem : (z : ℤ) (g : ℕ) → 0 < g → lift_of (rem_z z (pos g)) g ≡ reduced z g
lift_rem (pos n) g h = refl
lift_rem (negsuc n) g h = lift_neg (suc n % g) g (mod-lt (suc n) h)

neg_abs : (r : ℕ) → nat_abs (neg_ℤ (pos r)) ≡ r
neg_abs zero = refl
neg_abs (suc r) = refl

-- A remainder is smaller than g, whatever its sign.
rem_small : (z : ℤ) (g : ℕ) → 0 < g → nat_abs (rem_z z (pos g)) < g
rem_small (pos n) g h = mod-lt n h
rem_small (negsuc n) g h = rw neg_abs (mod-lt (suc n) h)

lift_less : (m : ℤ) (g : ℕ) → nat_abs m < g → lt_z m (pos 0) ≡ true → m +ℤ pos g ≡ pos (lift_of m g)
lift_less (pos k) g h t = let x : k < 0 = ltb-true k 0 t in absurd (not-suc-le-zero x)
lift_less (negsuc k) g h t = simp (le-ltb g (suc k) (omega arith))

lift_kept : (m : ℤ) (g : ℕ) → lt_z m (pos 0) ≡ false → m ≡ pos (lift_of m g)
lift_kept (pos k) g t = refl
lift_kept (negsuc k) g t = let z : true ≡ false = t in absurd (true≢false z)

-- A negative one is lifted by g, and another kept.
pub rem_lifted : (z : ℤ) (g : ℕ) → 0 < g → lt_z (rem_z z (pos g)) (pos 0) ≡ true → rem_z z (pos g) +ℤ pos g ≡ pos (reduced z g)
rem_lifted z g h t = lift_less (rem_z z (pos g)) g (rem_small z g h) t ∙ ap pos (lift_rem z g h)

pub rem_kept : (z : ℤ) (g : ℕ) → 0 < g → lt_z (rem_z z (pos g)) (pos 0) ≡ false → rem_z z (pos g) ≡ pos (reduced z g)
rem_kept z g h t = lift_kept (rem_z z (pos g)) g t ∙ ap pos (lift_rem z g h)
