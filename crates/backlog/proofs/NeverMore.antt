-- NONE GETS TOO MUCH (`never_more`): from its release to the next one a task has no more slots than its cost. Of any table that keeps its ranges.
use Rattle.std.specs.Prelude.{◌≡◌, Bool, ℕ, suc, ◌+◌, ◌-◌, min, ◌≤◌, ◌<◌}
use Rattle.std.proofs.Common.{inl, inr, le_antisymm, arith}
use Rattle.std.proofs.Math.Decide.{dec_lt}
use Rattle.values.specs.declared.Table.{Table}
use Rattle.model.specs.Tasks.{task, release}
use Rattle.model.specs.Run.{Order}
use Rattle.model.specs.History.{had_by, FinishedBy}
use Rattle.wellformed.specs.Ranges.{Ranged}
use Rattle.backlog.specs.AtMost.{at_most}
use Rattle.backlog.proofs.System.{jobs, dues}
use Rattle.backlog.proofs.TableSystem.{system_of}
use Rattle.backlog.proofs.StepHistory.{open', ready, gave, told, step_history}
use Rattle.backlog.proofs.Had.{had_early, had_sum, had_grows}

module _ (t : Table) (r : Ranged t) (rank : Order) (done : ℕ → Bool) where
  pub never_more : (i j n : ℕ) → i < t.count → n ≤ release (task t i) (suc j) → had_by t rank done i (release (task t i) j) n ≤ (task t i).cost
  never_more i j n l h = go (dec_lt (release (task t i) j) n)
    where
      more : (d : ℕ) → release (task t i) j + suc d ≡ n → had_by t rank done i (release (task t i) j) n ≤ (task t i).cost
      more d e =
          rw (← e) (omega (
            arith,
            had_sum t rank done i (release (task t i) j) (suc d),
            at_most (jobs (system_of t r rank)) (dues (system_of t r rank)) (told t rank done) (open' t rank done) (ready t rank done)
                (gave t rank done) (step_history t r rank done) i j d l (omega arith),
          ))

      go : Dec (release (task t i) j < n) → had_by t rank done i (release (task t i) j) n ≤ (task t i).cost
      go (yes p) = more (n - release (task t i) j - 1) (omega arith)
      go (no p) = omega (arith, had_early t rank done i (release (task t i) j) n (omega arith))

  -- So what is finished stays so.
  pub finished_stays : (i j n m : ℕ) → i < t.count → n ≤ m → FinishedBy t rank done i j n → FinishedBy t rank done i j m
  finished_stays i j n m l h (inl e) =
      inl (le_antisymm (never_more i j (min m (release (task t i) (suc j))) l (omega arith))
      (omega (
        arith,
        had_grows t rank done i (release (task t i) j) (min n (release (task t i) (suc j))) (min m (release (task t i) (suc j)))
            (omega arith),
      )))
  finished_stays i j n m l h (inr (u, a, b, c)) = inr (u, a, omega arith, c)
