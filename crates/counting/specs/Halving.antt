-- Laws of a search by halving: between a number that passes and a larger one that does not, or is past the last.
use Rattle.std.specs.Prelude.{◌≡◌, Bool, true, false, ℕ, suc, ◌≤◌, ◌<◌, T}
use Rattle.std.proofs.Common.{arith}
use Rattle.model.specs.Notation.{last}
use Rattle.counting.specs.Search.{last_is}

-- The number x, from 1 to n, passes, and the next one up to n does not.
pub record Edge (p : ℕ → Bool) (n x : ℕ) : Type 0 where
  pub some : 1 ≤ x
  pub upto : x ≤ n
  pub here : T (p x)
  pub next : suc x ≤ n → T (p (suc x)) → ⊥

-- What holds of the range before each trial.
pub record Halving (p : ℕ → Bool) (n passes fails : ℕ) : Type 0 where
  pub some : 1 ≤ passes
  pub apart : passes < fails
  pub upto : fails ≤ suc n
  pub passed : T (p passes)
  pub failed : fails ≤ n → T (p fails) → ⊥

module _ (p : ℕ → Bool) (n : ℕ) where
  -- At the start: a number that passes, and the first past the last.
  pub halving_start : (passes fails : ℕ) → 1 ≤ passes → passes ≤ n → fails ≡ suc n → T (p passes) → Halving p n passes fails
  halving_start passes fails a b e h =
      record { some = a; apart = omega arith; upto = omega arith; passed = h; failed = λ l. absurd (omega arith) }

  -- A trial that passes raises the one, and one that does not lowers the other.
  module _ (passes fails middle : ℕ) (h : Halving p n passes fails) (a : passes < middle) (b : middle < fails) where
    pub halving_up : p middle ≡ true → Halving p n middle fails
    halving_up e = record { some = omega (arith, h.some); apart = b; upto = h.upto; passed = rw e tt; failed = h.failed }

    pub halving_down : p middle ≡ false → Halving p n passes middle
    halving_down e = record { some = h.some; apart = a; upto = omega (arith, h.upto); passed = h.passed; failed = λ l w. rw e at w }

  -- At the end: the number that passes is the edge.
  pub halving_end : (passes fails : ℕ) → Halving p n passes fails → fails ≤ suc passes → Edge p n passes
  halving_end passes fails h l =
      let next : fails ≡ suc passes = omega (arith, h.apart) in
      record { some = h.some; upto = omega (arith, h.upto, h.apart); here = h.passed; next = rw next at h.failed }

  -- Where what passes goes down from any number to 1, the edge is the last that passes.
  pub edge_last : ((x y : ℕ) → 1 ≤ x → x ≤ y → T (p y) → T (p x)) → (x : ℕ) → Edge p n x → last p (suc n) ≡ x
  edge_last falls x e =
      last_is p (suc n) x (omega (arith, e.upto)) e.here
      (λ k a b h. e.next (omega arith) (falls (suc x) k (omega arith) a h))
