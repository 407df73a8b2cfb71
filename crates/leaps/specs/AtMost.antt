-- NO MORE THAN THAT (`at_most`): of numbers below n there are no more than n that differ.
use Rattle.std.specs.Prelude.{◌≡◌, ◌⊎◌, cond, ℕ, zero, suc, ◌-◌, ◌≤◌, ◌<◌, ltb, eqb}
use Rattle.std.proofs.Common.{sym, ◌∙◌, inl, inr, arith, lt-ltb, le-ltb, eqb→eq}
use Rattle.std.proofs.Math.Nat.{le_step}
use Rattle.std.proofs.Math.Decide.{dec_lt}
use Rattle.model.specs.Notation.{first}
use Rattle.counting.specs.Count.{eq→eqb}
use Rattle.counting.specs.Search.{first_before, first_passes}

pub at_most : (n m : ℕ) (f : ℕ → ℕ) → ((a : ℕ) → a < m → f a < n) → ((a b : ℕ) → a < b → b < m → f a ≡ f b → ⊥) → m ≤ n
at_most zero m f low apart = elim (dec_lt 0 m) [ yes h ↦ absurd (omega (arith, low 0 h)) | no h ↦ omega arith ]
at_most (suc n) m f low apart = go (dec_lt place m) (at_most n)
  where
    place : ℕ
    place = first (λ a. eqb (f a) n) 0 m

    -- All but the place.
    skip : ℕ → ℕ
    skip b = cond (ltb b place) b (suc b)

    skipped : (b : ℕ) → ((b < place) × (skip b ≡ b)) ⊎ ((place ≤ b) × (skip b ≡ suc b))
    skipped b = elim (dec_lt b place) [ yes h ↦ inl (h, rw (lt-ltb b place h)) | no h ↦ inr (omega arith, rw (le-ltb b place (omega arith))) ]

    less : (a : ℕ) → a < m → (f a ≡ n → ⊥) → f a < n
    less a l h = omega (arith, low a l, h)

    grows : (a b : ℕ) → a < b → skip a < skip b
    grows a b h = elim (skipped a) [
      | inl (x, e) ↦ elim (skipped b) [ inl (y, g) ↦ omega arith | inr (y, g) ↦ omega arith ]
      | inr (x, e) ↦ elim (skipped b) [ inl (y, g) ↦ absurd (omega arith) | inr (y, g) ↦ omega arith ]
    ]

    go : Dec (place < m) → ((k : ℕ) (g : ℕ → ℕ) → ((a : ℕ) → a < k → g a < n) → ((a b : ℕ) → a < b → b < k → g a ≡ g b → ⊥) → k ≤ n) → m ≤ suc n
    go (no h) fewer = le_step (fewer m f (λ a l. less a l (λ e. first_before (λ a. eqb (f a) n) 0 m a (omega arith) (omega arith) (eq→eqb (f a) n e))) apart)
    go (yes h) fewer = omega (arith, fewer (m - 1) (λ b. f (skip b)) lower (λ a b k l. apart (skip a) (skip b) (grows a b k) (skip_lt b l)))
      where
        here : f place ≡ n
        here = eqb→eq (f place) n (first_passes (λ a. eqb (f a) n) 0 m (omega arith))

        skip_lt : (b : ℕ) → b < m - 1 → skip b < m
        skip_lt b l = elim (skipped b) [ inl (x, e) ↦ omega arith | inr (x, e) ↦ omega arith ]

        lower : (b : ℕ) → b < m - 1 → f (skip b) < n
        lower b l = elim (skipped b) [
          | inl (x, e) ↦ less (skip b) (skip_lt b l) (λ g. apart (skip b) place (omega arith) h (g ∙ sym here))
          | inr (x, e) ↦ less (skip b) (skip_lt b l) (λ g. apart place (skip b) (omega arith) (skip_lt b l) (here ∙ sym g))
        ]
