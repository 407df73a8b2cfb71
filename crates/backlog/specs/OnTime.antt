-- EVERY JOB IN TIME, IN ANY HISTORY (`on_time`): where each job is due by the next release, the run at full cost meets every deadline and no response
-- of a stream is above w, a job of that stream is reported or has been given its cost within w of its release, if its next release is no earlier.
use Rattle.std.specs.Prelude.{◌≡◌, refl, ◌⊎◌}
use Rattle.std.proofs.Math.Path.{ap}
use Rattle.std.proofs.Common.{sym, inl, le_refl, add-suc, arith}
use Rattle.std.proofs.Math.Logic.{inr}
use Prim.Native.Nat.{ℕ, zero, suc, ◌+◌, ◌-◌, ◌≤◌, ◌<◌}
use Rattle.std.proofs.Math.Nat.{le_step}
use Rattle.model.specs.Notation.{sum}
use Rattle.counting.specs.Below.{below_is, between_none}
use Rattle.backlog.specs.Streams.{Jobs, Run}
use Rattle.backlog.specs.Left.{served_mono}
use Rattle.backlog.specs.Finish.{DoneFirst}
use Rattle.backlog.specs.Criterion.{Dues, Met, finishes, Constrained}
use Rattle.backlog.specs.Domination.{not_open}
use Rattle.backlog.specs.History.{Keeps, History, given_to, dispatches}
use Rattle.backlog.specs.AtMost.{first_slot}
use Rattle.backlog.specs.NoneLate.{none_late}

module _ (J : Jobs) (D : Dues J) (told : ℕ → ℕ → Type 0) (open' ready gave : ℕ → ℕ → ℕ) (P : History J D told open' ready gave)
    (constrained : Constrained J D) (s : ℕ → ℕ → ℕ) (R : Run J s) (met : Met J D s) where
  -- As long as a job is not reported, what it was given and what is left make its cost.
  pub account : (i j d : ℕ) → i < J.n → J.rel i j + d < J.rel i (suc j) → ((u : ℕ) × (0 < u) × (u ≤ d) × told (J.rel i j + u) i)
      ⊎ (given_to gave i (J.rel i j) (suc d) + open' (J.rel i j + suc d) i ≡ J.cost i)
  unfolding sum
  account i j zero l h = inr (first_slot J D told open' ready gave P i j l)
  account i j (suc d) l h =
      go (account i j d l (omega arith))
      (P.kept (J.rel i j + suc d) i l (between_none (J.rel i) (J.rel_grows i l) (J.rel i j + suc d) j (omega arith) (omega arith)))
    where
      more : ready (J.rel i j + suc d) i ≡ open' (J.rel i j + suc d) i → given_to gave i (J.rel i j) (suc d) + open'
          (J.rel i j + suc d) i ≡ J.cost i → given_to gave i (J.rel i j) (suc (suc d)) + open' (J.rel i j + suc (suc d)) i ≡ J.cost i
      more e q = omega (arith, P.spent (J.rel i j + suc d) i l, ap (λ (y : ℕ). open' y i) (sym (add-suc (J.rel i j) (suc d))))

      go : ((u : ℕ) × (0 < u) × (u ≤ d) × told (J.rel i j + u) i) ⊎ (given_to gave i (J.rel i j) (suc d) + open' (J.rel i j + suc d) i ≡ J.cost i)
          → Keeps J D told open' ready (J.rel i j + suc d) i
          → ((u : ℕ) × (0 < u) × (u ≤ suc d) × told (J.rel i j + u) i)
          ⊎ (given_to gave i (J.rel i j) (suc (suc d)) + open' (J.rel i j + suc (suc d)) i ≡ J.cost i)
      go (inl (u, a, b, c)) y = inl (u, a, le_step b, c)
      go (inr q) (inl e) = inr (more e q)
      go (inr q) (inr (e, inl c)) = inl (suc d, omega arith, le_refl _, c)
      go (inr q) (inr (e, inr (k, f))) =
          inr (more (omega (arith, none_late J D told open' ready gave P constrained s R met i k l, ap (λ (y : ℕ). open' y i) f)) q)

  pub on_time : (i w : ℕ) → i < J.n → ((j f : ℕ) → DoneFirst J s i j f → f - J.rel i j ≤ w) → (j : ℕ) → J.rel i j + w ≤ J.rel i (suc j)
      → ((u : ℕ) × (0 < u) × (u < w) × told (J.rel i j + u) i) ⊎ (given_to gave i (J.rel i j) w ≡ J.cost i)
  on_time i w l worst j h = go w refl
    where
      go : (v : ℕ) → v ≡ w → ((u : ℕ) × (0 < u) × (u < v) × told (J.rel i j + u) i) ⊎ (given_to gave i (J.rel i j) v ≡ J.cost i)
      go zero e = let (g, q, a, b) = finishes J D s R met i j l in absurd (omega (arith, worst j g q))
      go (suc d) e = at (account i j d l (omega arith))
        where
          nothing : open' (J.rel i j + suc d) i ≡ 0
          nothing =
              let (g, q, a, b) = finishes J D s R met i j l in
              let t = J.rel i j + suc d in
              not_open J open' (dispatches J D told open' ready gave P) s R i j t l
              (omega (arith, q.0, served_mono J s R i l g t (omega (arith, worst j g q))))
              (below_is (J.rel i) (J.rel_grows i l) t j (omega arith) (omega arith))

          at : ((u : ℕ) × (0 < u) × (u ≤ d) × told (J.rel i j + u) i)
              ⊎ (given_to gave i (J.rel i j) (suc d) + open' (J.rel i j + suc d) i ≡ J.cost i)
              → ((u : ℕ) × (0 < u) × (u < suc d) × told (J.rel i j + u) i) ⊎ (given_to gave i (J.rel i j) (suc d) ≡ J.cost i)
          at (inl (u, a, b, c)) = inl (u, a, omega arith, c)
          at (inr q) = inr (omega (arith, nothing))
