-- ALL THAT WAITS (`waiting_is`): the work that is released and not served is the backlog of all releases, whatever the order of the jobs.
use Rattle.std.specs.Prelude.{◌≡◌, ◌↔◌}
use Rattle.std.proofs.Math.Path.{sym}
use Rattle.std.proofs.Common.{◌∙◌, inl, inr}
use Prim.Native.Nat.{ℕ, zero, suc, ◌+◌, ◌-◌, ◌≤◌, ◌<◌}
use native.Mathlib.Omega.{arith}
use Rattle.model.specs.Notation.{sum}
use Rattle.counting.specs.Sum.{sum_eq, sum_add, sum_zero, sum_by, sum_member}
use Rattle.counting.specs.Below.{below_none}
use Rattle.backlog.specs.Queue.{backlog}
use Rattle.backlog.specs.Streams.{Jobs, Run, SlotOf, released, released_mono}
use Rattle.backlog.specs.Left.{served_le}

-- The work that is released before t; what of it is released at t; what of it is not served.
abbrev pub all_released : Jobs → ℕ → ℕ
all_released J t = sum J.n (released J t)

unfoldable pub released_at : Jobs → ℕ → ℕ
released_at J t = sum J.n (λ i. released J (suc t) i - released J t i)

unfoldable pub waiting : Jobs → (ℕ → ℕ → ℕ) → ℕ → ℕ
waiting J s t = sum J.n (λ i. released J t i - s t i)

-- At t all that is released before t is served.
abbrev pub Idle : Jobs → (ℕ → ℕ → ℕ) → ℕ → Type 0
Idle J s t = (i : ℕ) → i < J.n → released J t i ≤ s t i

-- Nothing waits exactly then, whatever was served.
pub idle_waiting : (J : Jobs) (s : ℕ → ℕ → ℕ) (t : ℕ) → Idle J s t ↔ (waiting J s t ≡ 0)
unfolding waiting
idle_waiting J s t = (λ h. sum_zero J.n _ (λ i l. omega (arith, h i l)), λ e i l. omega (arith, sum_member J.n (λ i. released J t i - s t i) i l))

module _ (J : Jobs) where
  -- All that is released before t came in the slots up to there.
  pub released_sum : (t : ℕ) → sum t (released_at J) ≡ all_released J t
  unfolding sum released_at
  released_sum zero = sym (sum_zero J.n (released J 0) (λ i l. rw (below_none (J.rel i)) (omega arith)))
  released_sum (suc t) =
      rw (released_sum t) (sym (sum_add J.n (released J t) _) ∙ sum_eq J.n _ _ (λ i l. omega (arith, released_mono J i l t (suc t) (omega arith))))

module _ (J : Jobs) (s : ℕ → ℕ → ℕ) (R : Run J s) where
  -- What waits once the releases of slot t are in.
  waiting_more : (t : ℕ) → waiting J s t + released_at J t ≡ sum J.n (λ i. released J (suc t) i - s t i)
  unfolding waiting released_at
  waiting_more t = sym (sum_add J.n _ _) ∙ sum_eq J.n _ _ (λ i l. omega (arith, served_le J s R t i l, released_mono J i l t (suc t) (omega arith)))

  waiting_step : (t : ℕ) → waiting J s (suc t) ≡ (waiting J s t + released_at J t) - 1
  unfolding waiting
  waiting_step t = go (R.slot t)
    where
      go : SlotOf J t (s t) (s (suc t)) → waiting J s (suc t) ≡ (waiting J s t + released_at J t) - 1
      go (inl d) =
          omega (
            arith,
            waiting_more t,
            sum_zero J.n (λ i. released J (suc t) i - s t i) (λ i l. omega (arith, d.none i l)),
            sum_zero J.n (λ i. released J (suc t) i - s (suc t) i) (λ i l. omega (arith, d.none i l, d.rest i l)),
          )
      go (inr (k, d)) =
          omega (
            arith,
            waiting_more t,
            sum_by J.n (λ i. released J (suc t) i - s t i) (λ i. released J (suc t) i - s (suc t) i) k 1 d.bound
                (omega (arith, d.one, d.ready)) (λ i l e. rw (d.rest i l e)),
          )

  pub waiting_is : (t : ℕ) → waiting J s t ≡ backlog (released_at J) t
  unfolding backlog waiting
  waiting_is zero = sum_zero J.n _ (λ i l. rw (below_none (J.rel i)) (omega arith))
  waiting_is (suc t) = rw (← waiting_is t) (waiting_step t)
