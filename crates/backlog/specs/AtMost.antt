-- NONE GETS TOO MUCH, IN ANY HISTORY (`at_most`): until the next release, what a job was given and what is left make no more than its cost.
use Rattle.std.specs.Prelude.{◌≡◌}
use Rattle.std.proofs.Math.Path.{refl, ap}
use Rattle.std.proofs.Common.{sym, inl, inr, add-zero, add-suc, add-one}
use Prim.Native.Nat.{ℕ, zero, suc, ◌+◌, ◌≤◌, ◌<◌}
use native.Mathlib.Omega.{arith}
use Rattle.model.specs.Notation.{sum}
use Rattle.backlog.specs.Streams.{Jobs}
use Rattle.backlog.specs.Criterion.{Dues}
use Rattle.backlog.specs.History.{Keeps, History, given_to}
use Rattle.counting.specs.Below.{between_none}

module _ (J : Jobs) (D : Dues J) (told : ℕ → ℕ → Type 0) (open' ready gave : ℕ → ℕ → ℕ) (P : History J D told open' ready gave) where
  -- After its first slot, what a job was given and what is left make its cost.
  pub first_slot : (i j : ℕ) → i < J.n → given_to gave i (J.rel i j) 1 + open' (J.rel i j + 1) i ≡ J.cost i
  unfolding sum
  first_slot i j l =
      omega (
        arith,
        P.fresh (J.rel i j) i j l refl,
        P.spent (J.rel i j) i l,
        ap (λ (y : ℕ). open' y i) (add-one (J.rel i j)),
        ap (λ (y : ℕ). gave y i) (add-zero (J.rel i j)),
      )

  pub at_most : (i j d : ℕ) → i < J.n → J.rel i j + d < J.rel i (suc j) → given_to gave i (J.rel i j) (suc d) + open' (J.rel i j + suc d) i ≤ J.cost i
  unfolding sum
  at_most i j zero l h = omega (arith, first_slot i j l)
  at_most i j (suc d) l h =
      go (at_most i j d l (omega arith))
      (P.kept (J.rel i j + suc d) i l (between_none (J.rel i) (J.rel_grows i l) (J.rel i j + suc d) j (omega arith) (omega arith)))
    where
      go : given_to gave i (J.rel i j) (suc d) + open' (J.rel i j + suc d) i ≤ J.cost i
          → Keeps J D told open' ready (J.rel i j + suc d) i
          → given_to gave i (J.rel i j) (suc (suc d)) + open' (J.rel i j + suc (suc d)) i ≤ J.cost i
      go q (inl e) = omega (arith, P.spent (J.rel i j + suc d) i l, ap (λ (y : ℕ). open' y i) (sym (add-suc (J.rel i j) (suc d))))
      go q (inr (e, c)) = omega (arith, P.spent (J.rel i j + suc d) i l, ap (λ (y : ℕ). open' y i) (sym (add-suc (J.rel i j) (suc d))))
