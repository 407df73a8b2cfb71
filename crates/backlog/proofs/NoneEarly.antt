-- NO SLOT IS EARLY OR LATE (`owned_ready`): a task that owns a slot has a job that is released by then and whose deadline is later. Of any table that
-- keeps its ranges.
use Rattle.std.specs.Prelude.{◌≡◌, Bool, ℕ, suc, ◌≤◌, ◌<◌}
use Rattle.std.proofs.Common.{arith}
use Rattle.values.specs.declared.Table.{Table}
use Rattle.model.specs.Run.{Order}
use Rattle.model.specs.History.{state_at_by, owner_at_by}
use Rattle.counting.specs.Below.{lt_below}
use Rattle.wellformed.specs.Ranges.{Ranged}
use Rattle.backlog.specs.System.{System, release_of, due_of}
use Rattle.backlog.proofs.System.{jobs}
use Rattle.backlog.proofs.TableSystem.{system_of}
use Rattle.backlog.specs.Taken.{owner_ready}
use Rattle.backlog.proofs.Stepping.{ready_is, sound}

module _ (t : Table) (r : Ranged t) (rank : Order) (done : ℕ → Bool) where
  abbrev S : System
  S = system_of t r rank

  pub owned_ready : (n i : ℕ) → i < t.count → owner_at_by t rank done n ≡ i → (j : ℕ) × (release_of S i j ≤ n) × (n < due_of S i j)
  owned_ready n i l e =
      let (j, b, d, early) = ready_is t r rank done n i (sound t r rank done n) l (owner_ready t rank (state_at_by t rank done n) (done n) r.few i l e) in
      let first : release_of S i j < suc n = (lt_below (release_of S i) ((jobs S).rel_grows i l) (suc n) j).0 (omega arith) in
      (j, omega arith, early)
