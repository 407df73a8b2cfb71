-- CALM BY A WALK (`walk_calm`): a table without overload is calm if a walk gets to its first idle instant and has met no late deadline before.
use Rattle.std.specs.Prelude.{◌≡◌, ℕ, ◌≤◌, ◌<◌, T}
use Rattle.std.proofs.Math.Decide.{dec_lt}
use Rattle.std.proofs.Common.{arith}
use Rattle.values.specs.declared.Table.{Table}
use Rattle.model.specs.Tasks.{round, load}
use Rattle.model.specs.Demand.{late_at}
use Rattle.model.specs.Run.{tie_order}
use Rattle.model.specs.Idle.{idle_at, first_idle}
use Rattle.model.specs.Patterns.{calm}
use Rattle.wellformed.specs.Ranges.{Ranged}
use Rattle.backlog.specs.System.{System}
use Rattle.backlog.proofs.TableSystem.{tie_system}
use Rattle.backlog.proofs.EveryInstant.{missed_iff}
use Rattle.backlog.specs.Walk.{Clear}
use Rattle.patterns.specs.IdleInstants.{idle_iff}
use Rattle.patterns.specs.FirstIdle.{first_idle_lem}
use Rattle.patterns.specs.Calm.{calm_iff}

-- At an idle instant nothing is late: what is due by then was released before, and so is finished.
idle_not_late : (S : System) (u : ℕ) → T (idle_at S.table S.rank u) → T (late_at S.table u) → ⊥
idle_not_late S u h late = let (i, j, l, d, g) = (missed_iff S u).1 late in absurd (omega (arith, (idle_iff S u).0 h i j l (omega (arith, S.deadline_pos i l))))

pub walk_calm : (t : Table) → Ranged t → load t ≤ round t → (n : ℕ) → Clear t n → first_idle t (tie_order t) ≤ n → T (calm t)
walk_calm t r light n c soon =
    (calm_iff t r).1 (λ u l late. elim (dec_lt u n) [
      | yes p ↦ c u p late
      | no p ↦ idle_not_late (tie_system t r) (first_idle t (tie_order t))
          (first_idle_lem t r _ light).0.0.1 (rw (at_end_lem u l p) at late)
    ])
  where
    at_end_lem : (u : ℕ) → u ≤ first_idle t (tie_order t) → ¬ (u < n) → u ≡ first_idle t (tie_order t)
    at_end_lem u l p = omega arith
