-- NEVER LATE (`clear_ever`): a walk that rests so, with no deadline late before, has none late ever.
use Rattle.std.specs.Prelude.{◌≡◌, ℕ, zero, suc, ◌+◌, ◌-◌, ◌≤◌, T}
use Rattle.std.proofs.Common.{sym, subst, arith}
use Rattle.std.proofs.Math.Decide.{dec_lt}
use Rattle.values.specs.declared.Table.{Table}
use Rattle.model.specs.Demand.{late_at}
use Rattle.model.specs.Run.{tie_order}
use Rattle.counting.specs.Search.{below_suc}
use Rattle.wellformed.specs.Ranges.{Ranged}
use Rattle.backlog.specs.Shift.{Cycle}
use Rattle.backlog.proofs.TableSystem.{tie_system}
use Rattle.backlog.specs.Walk.{Clear}
use Rattle.backlog.proofs.WalkLate.{late_iff}
use Rattle.patterns.specs.RoundAgain.{Rests, late_same, again}

module _ (t : Table) (r : Ranged t) (Y : Cycle (tie_system t r)) (u : ℕ) (rests : Rests t r Y u) where
  -- The first late deadline would have been late a round before.
  late_back : (n : ℕ) → u ≤ n → Clear t (n + Y.round) → T (late_at t (n + Y.round)) → ⊥
  late_back n m clear h =
      let (i, l, x) = (late_iff t r (tie_order t) (n + Y.round) clear).1 h in
      clear n (omega (arith, Y.round_pos)) ((late_iff t r (tie_order t) n (λ v k. clear v (omega arith))).0 (
        i,
        l,
        subst T (sym (late_same t (again t r Y u rests n m) i)) x,
      ))

  late_never : (n : ℕ) → Clear t n → T (late_at t n) → ⊥
  late_never n before h = elim (dec_lt n (u + Y.round)) [
    | yes p ↦ rests.clear n p h
    | no p ↦
        (let e : n ≡ n - Y.round + Y.round = omega arith in late_back (n - Y.round) (omega arith) (subst (Clear t) e before)
        (subst (λ (x : ℕ). T (late_at t x)) e h))
  ]

  pub clear_ever : (n : ℕ) → Clear t n
  clear_ever zero = λ v l. absurd (omega arith)
  clear_ever (suc n) = below_suc (λ v. T (late_at t v) → ⊥) n (clear_ever n) (late_never n (clear_ever n))
