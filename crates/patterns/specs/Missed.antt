-- MISSED IS LATE (`missed_late`): by u the run has missed a deadline, in any order of the tasks, exactly if some interval that ends at u asks too much.
use Rattle.std.specs.Prelude.{◌≡◌, T}
use Rattle.std.proofs.Common.{sym, ◌∙◌, div-lt_iff_lt-mul, arith}
use Prim.Native.Nat.{ℕ, suc, ◌<◌}
use Rattle.std.proofs.Math.Nat.{lt-mul-div-succ}
use Rattle.values.specs.declared.Table.{Table}
use Rattle.model.specs.Demand.{late_at}
use Rattle.model.specs.Run.{Order}
use Rattle.model.specs.Idle.{missed_at}
use Rattle.counting.specs.Count.{tests, some_iff, same_test}
use Rattle.counting.specs.Below.{grows_mono}
use Rattle.wellformed.specs.Ranges.{Ranged}
use Rattle.backlog.specs.System.{System, size, due_of}
use Rattle.backlog.proofs.System.{dues}
use Rattle.backlog.proofs.ModelRun.{served_of, at}
use Rattle.backlog.proofs.RunSchedule.{undone_iff}
use Rattle.backlog.proofs.TableSystem.{system_of}
use Rattle.backlog.proofs.EveryInstant.{Missed, missed_iff}

module _ (S : System) where
  missed_job : (u : ℕ) → T (missed_at S.table S.rank u) → Missed S u
  unfolding missed_at
  missed_job u h =
      let (i, l, d) = (some_iff _ (size S)).0 h in
      (i, at S u i, l, omega tests, (undone_iff S i (at S u i) u l).1 (omega (arith, lt-mul-div-succ (served_of S u i) (S.cost_pos i l))))

  job_missed : (u : ℕ) → Missed S u → T (missed_at S.table S.rank u)
  unfolding missed_at
  job_missed u (i, j, l, d, g) =
      let m : at S u i < suc j = (div-lt_iff_lt-mul (S.cost_pos i l)).1 (omega (arith, (undone_iff S i j u l).0 g)) in
      (some_iff _ (size S)).1 (i, l, omega (tests, grows_mono (due_of S i) ((dues S).due_grows i l) (at S u i) j (omega arith)))

  pub missed_late : (u : ℕ) → missed_at S.table S.rank u ≡ late_at S.table u
  missed_late u = same_test _ _ (λ h. (missed_iff S u).0 (missed_job u h)) (λ h. job_missed u ((missed_iff S u).1 h))

-- The order of the tasks does not matter.
pub missed_any_order : (t : Table) (r : Ranged t) (rank rank' : Order) (u : ℕ) → missed_at t rank u ≡ missed_at t rank' u
missed_any_order t r rank rank' u = missed_late (system_of t r rank) u ∙ sym (missed_late (system_of t r rank') u)
