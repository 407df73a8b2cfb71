-- IDLE INSTANTS BY A WALK (`walk_idle_at`): with no late deadline before it, an instant is idle exactly if a walk without done reports has no slot
-- left before its releases.
use Rattle.std.specs.Prelude.{◌≡◌, Bool, ℕ, eqb}
use Rattle.std.proofs.Common.{arith}
use Rattle.values.specs.declared.Table.{Table}
use Rattle.model.specs.Notation.{every}
use Rattle.model.specs.Run.{tie_order}
use Rattle.model.specs.Dispatcher.{left_of}
use Rattle.model.specs.Idle.{idle_at}
use Rattle.counting.specs.Count.{tests, every_iff, eq→eqb, same_test}
use Rattle.wellformed.specs.Ranges.{Ranged}
use Rattle.backlog.specs.System.{System}
use Rattle.backlog.proofs.TableSystem.{tie_system}
use Rattle.backlog.specs.Walk.{walked, Clear}
use Rattle.backlog.proofs.Walk.{agrees}
use Rattle.patterns.specs.IdleInstants.{idle_streams}

-- Before the releases of slot n the walk has no slot left to give.
abbrev pub none_left : Table → ℕ → Bool
none_left t n = every (λ i. eqb (left_of (walked t n) i) 0) t.count

module _ (t : Table) (r : Ranged t) where
  abbrev S : System
  S = tie_system t r

  pub walk_idle_at : (n : ℕ) → Clear t n → none_left t n ≡ idle_at t (tie_order t) n
  walk_idle_at n c =
      same_test _ _
      (λ h. (idle_streams S n).1 (λ i l. omega (tests, (every_iff _ _).0 h i l, agrees t r (tie_order t) n c i l)))
      (λ h. (every_iff _ _).1 (λ i l. eq→eqb (left_of (walked t n) i) 0 (omega (arith, agrees t r (tie_order t) n c i l, (idle_streams S n).0 h i l))))
