-- CAUGHT UP (`idle_soon`): where no more is released in the first h slots than these, all that is released is served at some instant after 0 and up to h.
use Rattle.std.specs.Prelude.{◌≡◌, ◌⊎◌, ℕ, ◌≤◌, ◌<◌}
use Rattle.std.proofs.Common.{◌∙◌, inl, inr, eq-zero-or-pos, le_refl, arith}
use Rattle.model.specs.Notation.{sum}
use Rattle.counting.specs.Sum.{sum_none}
use Rattle.backlog.specs.Queue.{backlog, Busy, busy_from}
use Rattle.backlog.specs.Streams.{Jobs, Run}
use Rattle.patterns.specs.Waiting.{all_released, released_at, released_sum, waiting_is, Idle, idle_waiting}

pub idle_soon : (J : Jobs) (s : ℕ → ℕ → ℕ) → Run J s → (h : ℕ) → 0 < h → all_released J h ≤ h → (t : ℕ) × (0 < t) × (t ≤ h) × Idle J s t
idle_soon J s R h pos fits = go (eq-zero-or-pos (backlog (released_at J) h))
  where
    from : (u : ℕ) → Busy (released_at J) h u → (u ≡ 0) ⊎ (0 < u) → (t : ℕ) × (0 < t) × (t ≤ h) × Idle J s t
    from u b (inl e) =
        let z : 0 ≡ sum u (released_at J) = rw e (sum_none (released_at J)) in
        absurd (omega (arith, b.exact, b.busy h b.early (le_refl h), released_sum J h))
    from u b (inr p) = (u, p, omega (arith, b.early), (idle_waiting J s u).1 (waiting_is J s R u ∙ b.empty))

    go : (backlog (released_at J) h ≡ 0) ⊎ (0 < backlog (released_at J) h) → (t : ℕ) × (0 < t) × (t ≤ h) × Idle J s t
    go (inl e) = (h, pos, le_refl h, (idle_waiting J s h).1 (waiting_is J s R h ∙ e))
    go (inr p) = let (u, b) = busy_from (released_at J) h p in from u b (eq-zero-or-pos u)
