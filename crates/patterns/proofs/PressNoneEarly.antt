-- NO SLOT IS EARLY OR LATE, UNDER PRESSES (`owned_arrived`): a task that owns a slot has a job that arrived by then and whose deadline is later. Of
-- any table that keeps its ranges.
use Rattle.std.specs.Prelude.{◌≡◌, refl, Bool, ℕ, suc, ◌+◌, ◌≤◌, ◌<◌, T}
use Rattle.std.proofs.Common.{sym, ◌∙◌, le_refl, arith}
use Rattle.values.specs.declared.Table.{Table}
use Rattle.model.specs.Tasks.{task}
use Rattle.model.specs.Presses.{arrivals, owner_under}
use Rattle.wellformed.specs.Ranges.{Ranged}
use Rattle.backlog.proofs.ComingHistory.{owned_for}
use Rattle.patterns.proofs.Arrivals.{comes_apart, comes_enumerates}
use Rattle.patterns.specs.TakenArrivals.{taken_respects}
use Rattle.patterns.proofs.PressHistory.{rel, onward, exactly, same_owner}

module _ (t : Table) (r : Ranged t) (done : ℕ → Bool) (pressed : ℕ → ℕ) where
  pub owned_arrived : (n i : ℕ) → i < t.count → owner_under t done pressed n ≡ i → (u : ℕ) × T (arrivals t done pressed i u) × (u ≤ n)
      × (n < u + (task t i).deadline)
  owned_arrived n i l e =
      let k = taken_respects t r done pressed in
      let (j, came, due) = owned_for t r done (onward t r done pressed (suc n)) (rel t r done pressed (suc n))
      (comes_apart t (arrivals t done pressed) k (suc n)) (exactly t r done pressed (suc n)) n i l
      (sym (same_owner t r done pressed (suc n) n (le_refl (suc n))) ∙ e) in (
        rel t r done pressed (suc n) i j,
        (comes_enumerates t (arrivals t done pressed) k (suc n) i l (rel t r done pressed (suc n) i j)
            (omega arith)).1 (j, refl),
        came,
        due,
      )
