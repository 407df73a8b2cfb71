-- ONE QUEUE (`busy_from`): a backlog began in a busy period, in which it arrived, and one unit more for each slot.
use Rattle.std.specs.Prelude.{◌≡◌, ◌⊎◌, ℕ, zero, suc, ◌+◌, ◌-◌, ◌≤◌, ◌<◌}
use Rattle.std.proofs.Common.{inl, inr, eq-zero-or-pos, arith}
use Rattle.std.proofs.Math.Nat.{le-suc_iff}
use Rattle.std.proofs.Math.Decide.{le_ind}
use Rattle.model.specs.Notation.{sum}

-- What waits before slot t, where a t arrives in slot t and one unit goes in each slot.
unfoldable pub backlog : (ℕ → ℕ) → ℕ → ℕ
backlog a zero = 0
backlog a (suc t) = (backlog a t + a t) - 1

-- From s to t no more arrives than is left at t and the slots between can take.
pub sum_backlog : (a : ℕ → ℕ) (s t : ℕ) → s ≤ t → sum t a ≤ sum s a + backlog a t + (t - s)
unfolding sum backlog
sum_backlog a s zero h = let e : s ≡ 0 = omega arith in rw e (omega arith)
sum_backlog a s (suc t) h = go (le-suc_iff.0 h) (sum_backlog a s t)
  where
    go : (s ≤ t) ⊎ (s ≡ suc t) → (s ≤ t → sum t a ≤ sum s a + backlog a t + (t - s)) → sum (suc t) a ≤ sum s a + backlog a (suc t) + (suc t - s)
    go (inl l) ih = omega (arith, ih l)
    go (inr e) ih = rw e (omega arith)

-- The busy period of the backlog at t: at s there was none, and from there to t always one, so in it arrived what is left, and one unit more for each slot.
pub record Busy (a : ℕ → ℕ) (t s : ℕ) : Type 0 where
  pub early : s < t
  pub empty : backlog a s ≡ 0
  pub exact : sum t a ≡ sum s a + backlog a t + (t - s)
  pub busy : (u : ℕ) → s < u → u ≤ t → 0 < backlog a u

pub busy_from : (a : ℕ → ℕ) (t : ℕ) → 0 < backlog a t → (s : ℕ) × Busy a t s
unfolding sum backlog
busy_from a zero h = absurd (omega arith)
busy_from a (suc t) h = go (eq-zero-or-pos (backlog a t)) (busy_from a t)
  where
    last : (u : ℕ) → (u ≤ t → 0 < backlog a u) → u ≤ suc t → 0 < backlog a u
    last u f m = elim (le-suc_iff.0 m) [ inl l ↦ f l | inr e ↦ rw e h ]

    go : (backlog a t ≡ 0) ⊎ (0 < backlog a t) → (0 < backlog a t → (s : ℕ) × Busy a t s) → (s : ℕ) × Busy a (suc t) s
    go (inl e) ih = (t, record { early = omega arith; empty = e; exact = omega arith; busy = λ u l m. last u (λ k. absurd (omega arith)) m })
    go (inr p) ih =
        let (s, b) = ih p in
        (s, record { early = omega arith; empty = b.empty; exact = omega arith; busy = λ u l m. last u (b.busy u l) m })

-- So up to each instant of it arrived what is left then, and one unit more for each slot.
pub busy_exact : (a : ℕ → ℕ) (t s : ℕ) → Busy a t s → (u : ℕ) → s ≤ u → u ≤ t → sum u a ≡ sum s a + backlog a u + (u - s)
unfolding sum backlog
busy_exact a t s b u h =
    le_ind (λ (v : ℕ). v ≤ t → sum v a ≡ sum s a + backlog a v + (v - s)) (λ l. omega (arith, b.empty))
    (λ v k ih l. omega (arith, ih (omega arith), b.busy (suc v) (omega arith) l)) u h

-- Whatever starts no higher and grows no faster stays no higher.
pub backlog_bounds : (a r : ℕ → ℕ) → r 0 ≤ backlog a 0 → ((t : ℕ) → r (suc t) ≤ (r t + a t) - 1) → (t : ℕ) → r t ≤ backlog a t
unfolding backlog
backlog_bounds a r z s zero = z
backlog_bounds a r z s (suc t) = omega (arith, s t, backlog_bounds a r z s t)

-- More work, no smaller backlog.
pub backlog_mono : (a b : ℕ → ℕ) → ((t : ℕ) → a t ≤ b t) → (t : ℕ) → backlog a t ≤ backlog b t
unfolding backlog
backlog_mono a b h = backlog_bounds b (backlog a) (omega arith) (λ t. omega (arith, h t))
