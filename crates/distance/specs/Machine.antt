-- What the machine's signed numbers of 64 bits are, at the numbers of this crate.
use Rattle.std.specs.Prelude.{◌≡◌, ℕ, zero, suc, ◌-◌, ◌/◌, ◌≤◌, ◌<◌, ◌^◌, Bool, true, false, cond, T, ltb, ℤ, pos, negsuc, neg_ℤ, nat_abs, ◌-ℤ◌}
use Rattle.std.proofs.Common.{ap, ◌∙◌, zero-le, le_of_suc-le-suc, div-le_self, arith, SFits, Fits, to_z, of_z}
use Rattle.std.specs.Int.Signed.{mag, rem_z, quot_z, mag_rem, non_neg}
use Rattle.std.specs.Int.{w64, w32}
use Rattle.std.proofs.Math.Facts.{to_z_pos}
use mir.ValLaws.{sfits_le}

-- A small number, as the machine reads it back.
pub seen : (z : ℤ) (n : ℕ) → z ≡ pos n → n < 2 ^ 32 → to_z w64 (of_z w64 z) ≡ pos n
seen z n e h = ap (λ (y : ℤ). to_z w64 (of_z w64 y)) e ∙ to_z_pos w64 (omega arith)

-- Differences, quotients and remainders fit.
pick_fits : (t : Bool) (m n : ℕ) → m < 2 ^ 32 → n < 2 ^ 32 → SFits w64 (cond t (negsuc m) (pos n))
pick_fits true m n h g = record { sfits = omega arith }
pick_fits false m n h g = record { sfits = omega arith }

pub diff_fits : (a b : ℕ) → a < 2 ^ 32 → b < 2 ^ 32 → SFits w64 (pos a -ℤ pos b)
diff_fits a zero h g = record { sfits = omega arith }
diff_fits a (suc b) h g = pick_fits (ltb a (suc b)) (suc b - suc a) (a - suc b) (omega arith) (omega arith)

mag_neg : (r : ℕ) {a : ℕ} → r ≤ suc a → mag (neg_ℤ (pos r)) ≤ a
mag_neg zero h = zero-le
mag_neg (suc r) h = le_of_suc-le-suc h

mag_quot : (z : ℤ) (g : ℕ) → mag (quot_z z (pos g)) ≤ mag z
mag_quot (pos n) g = div-le_self n g
mag_quot (negsuc n) g = mag_neg (suc n / g) (div-le_self (suc n) g)

pub quot_fits : (z : ℤ) (g : ℕ) → SFits w64 z → SFits w64 (quot_z z (pos g))
quot_fits z g h = sfits_le (mag_quot z g) h

pub rem_fits : (z : ℤ) (g : ℕ) → SFits w64 z → SFits w64 (rem_z z (pos g))
rem_fits z g h = sfits_le (mag_rem z (pos g)) h

-- A number that is not negative and small is cast to 32 bits.
pub cast_of : (z : ℤ) (n : ℕ) → z ≡ pos n → n < 2 ^ 32 → T (non_neg (to_z w64 (of_z w64 z))) × Fits w32 (nat_abs (to_z w64 (of_z w64 z)))
cast_of z n e h = rw (seen z n e h) (tt, record { fits = h })

pub cast_is : (z : ℤ) (n : ℕ) → z ≡ pos n → n < 2 ^ 32 → nat_abs (to_z w64 (of_z w64 z)) ≡ n
cast_is z n e h = ap nat_abs (seen z n e h)

pub pos_fits : (z : ℤ) (n : ℕ) → z ≡ pos n → n < 2 ^ 32 → SFits w64 z
pos_fits z n e h = rw e (record { sfits = omega arith })
