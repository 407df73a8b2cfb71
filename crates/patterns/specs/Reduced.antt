-- A DIFFERENCE REDUCED (`reduced_is`): of b and a, it is the one number below g that leads from a to b, but for a multiple of g.
use Rattle.std.specs.Prelude.{◌≡◌, ℕ, zero, suc, ◌+◌, ◌-◌, ◌*◌, ◌/◌, ◌%◌, ◌≤◌, ◌<◌, ℤ, pos, negsuc, ◌-ℤ◌}
use Rattle.std.proofs.Common.{sym, ap, ◌∙◌, not-suc-le-zero, mod-lt, mul-le-mul_left, arith, lt-ltb, le-ltb}
use Rattle.std.proofs.Math.Nat.{add-mod-mod, mod-add-div, mod-add-div', add-mul-mod_self_right}
use Rattle.std.proofs.Math.Decide.{dec_lt}
use Rattle.model.specs.Patterns.{reduced}

pub reduced_lt : (z : ℤ) (g : ℕ) → 0 < g → reduced z g < g
reduced_lt (pos n) g h = mod-lt n h
reduced_lt (negsuc n) g h = mod-lt (g - suc n % g) h

-- A difference of two numbers, by their order.
difference_up : (a b : ℕ) → b ≤ a → pos a -ℤ pos b ≡ pos (a - b)
difference_up a zero h = let e : a + 0 ≡ a - 0 = omega arith in ap pos e
difference_up a (suc b) h = simp (le-ltb a (suc b) h)

difference_down : (a b : ℕ) → a < b → pos a -ℤ pos b ≡ negsuc (b - suc a)
difference_down a zero h = absurd (not-suc-le-zero h)
difference_down a (suc b) h = simp (lt-ltb a (suc b) h)

-- It leads from a to b, but for a multiple of g.
pub reduced_leads : (a b g : ℕ) → 0 < g → (a + reduced (pos b -ℤ pos a) g) % g ≡ b % g
reduced_leads a b g h = elim (dec_lt b a) [
  | yes l ↦ rw (difference_down b a l) (down l)
  | no l ↦ rw (difference_up b a (omega arith)) (add-mod-mod a (b - a) g ∙ ap (λ (x : ℕ). x % g) (up (omega arith)))
]
  where
    up : a ≤ b → a + (b - a) ≡ b
    up l = omega arith

    down : b < a → (a + (g - suc (a - suc b) % g) % g) % g ≡ b % g
    down l =
        let k = suc (a - suc b) in
        let e : a + (g - k % g) ≡ b + (k / g + 1) * g = omega (arith, mod-lt k h, mod-add-div' k g) in
        add-mod-mod a (g - k % g) g ∙ ap (λ (x : ℕ). x % g) e ∙ add-mul-mod_self_right b (k / g + 1) g

-- Two numbers below g that lead from a to the same remainder are equal.
same_step : (a d e g : ℕ) → d < g → e < g → (a + d) % g ≡ (a + e) % g → d ≡ e
same_step a d e g l m h = go (dec_lt ((a + d) / g) ((a + e) / g)) (dec_lt ((a + e) / g) ((a + d) / g))
  where
    go : Dec ((a + d) / g < (a + e) / g) → Dec ((a + e) / g < (a + d) / g) → d ≡ e
    go (yes x) y = absurd (omega (arith, mod-add-div (a + d) g, mod-add-div (a + e) g, mul-le-mul_left g x))
    go (no x) (yes y) = absurd (omega (arith, mod-add-div (a + d) g, mod-add-div (a + e) g, mul-le-mul_left g y))
    go (no x) (no y) = let q : (a + d) / g ≡ (a + e) / g = omega arith in omega (arith, mod-add-div (a + d) g, mod-add-div (a + e) g, ap (λ (x : ℕ). g * x) q)

pub reduced_is : (a b g d : ℕ) → d < g → (a + d) % g ≡ b % g → reduced (pos b -ℤ pos a) g ≡ d
reduced_is a b g d l e =
    let pos-g : 0 < g = omega arith in
    same_step a (reduced (pos b -ℤ pos a) g) d g (reduced_lt (pos b -ℤ pos a) g pos-g) l (reduced_leads a b g pos-g ∙ sym e)
