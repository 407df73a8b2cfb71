-- THE NEEDED COUNT (`needed_is`) is the smallest late deadline, if one lies within the horizon, and else the horizon.
use Rattle.std.specs.Prelude.{◌≡◌, ℕ, ◌≤◌, ◌<◌, T}
use Rattle.std.proofs.Math.Decide.{dec_lt}
use Rattle.std.proofs.Common.{arith}
use Rattle.values.specs.declared.Table.{Table}
use Rattle.model.specs.Tasks.{horizon}
use Rattle.model.specs.Demand.{late_at}
use Rattle.model.specs.Verdict.{needed}
use Rattle.counting.specs.Search.{first_le, first_before, first_passes, first_unique}

module _ (t : Table) where
  -- The needed count is at most the horizon, no deadline before it is late, and if it is below the horizon it is late itself.
  pub needed_le : needed t ≤ horizon t
  unfolding needed
  needed_le = omega (arith, first_le (late_at t) 0 (horizon t))

  pub none_before : (u : ℕ) → u < needed t → T (late_at t u) → ⊥
  unfolding needed
  none_before u l = first_before (late_at t) 0 (horizon t) u (omega arith) l

  needed_late : needed t < horizon t → T (late_at t (needed t))
  unfolding needed
  needed_late l = first_passes (late_at t) 0 (horizon t) (omega arith)

  pub needed_is : (u : ℕ) → u ≤ horizon t → ((v : ℕ) → v < u → T (late_at t v) → ⊥) → (u < horizon t → T (late_at t u)) → needed t ≡ u
  unfolding needed
  needed_is u l none late = first_unique (late_at t) 0 (horizon t) u (omega arith) (omega arith) (λ v a b. none v b) (λ m. late (omega arith))

  -- Where the needed count is not late, nothing up to the horizon is.
  pub none_within : (T (late_at t (needed t)) → ⊥) → (needed t ≡ horizon t) × ((u : ℕ) → u ≤ horizon t → T (late_at t u) → ⊥)
  none_within h = (same, λ u l w. elim (dec_lt u (needed t)) [ yes p ↦ none_before u p w | no p ↦ h (rw (at_end_lem u l p) at w) ])
    where
      same : needed t ≡ horizon t
      same = elim (dec_lt (needed t) (horizon t)) [ yes p ↦ absurd (h (needed_late p)) | no p ↦ omega (arith, needed_le) ]

      at_end_lem : (u : ℕ) → u ≤ horizon t → ¬ (u < needed t) → u ≡ needed t
      at_end_lem u l p = omega (arith, same)
