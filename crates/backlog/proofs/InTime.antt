-- EVERY JOB IN TIME (`in_time`): on a passed table, in any order of the tasks, by its worst response in that order each job had its whole cost, or
-- was reported done.
use Rattle.std.specs.Prelude.{◌≡◌, ◌⊎◌, Bool, ℕ, suc, ◌+◌, ◌≤◌, ◌<◌, T}
use Rattle.std.proofs.Common.{◌∙◌, inl, inr, arith}
use Rattle.values.specs.declared.Table.{Table}
use Rattle.model.specs.Notation.{sum}
use Rattle.values.specs.declared.Verdict.{Verdict}
use Rattle.model.specs.Tasks.{task, release}
use Rattle.model.specs.Verdict.{verdict}
use Rattle.model.specs.Run.{Order, Worst}
use Rattle.model.specs.History.{said_done_by, had_by, FinishedBy}
use Rattle.wellformed.specs.Ranges.{Ranged}
use Rattle.backlog.specs.Criterion.{Met}
use Rattle.backlog.specs.OnTime.{on_time}
use Rattle.backlog.specs.System.{System}
use Rattle.backlog.proofs.System.{jobs, dues, constrained}
use Rattle.backlog.proofs.ModelRun.{served_of, model_run}
use Rattle.backlog.proofs.RunSchedule.{finishes_iff}
use Rattle.backlog.proofs.Worst.{worst_range}
use Rattle.backlog.proofs.TableSystem.{system_of}
use Rattle.backlog.proofs.PassedWorst.{met_of_passed}
use Rattle.backlog.proofs.StepHistory.{open', ready, gave, told, step_history}
use Rattle.backlog.proofs.Had.{had_sum, finished_iff}

module _ (t : Table) (r : Ranged t) (rank : Order) (done : ℕ → Bool) (budget : ℕ) (pass : verdict t budget ≡ Verdict.Passes) where
  abbrev S : System
  S = system_of t r rank

  abbrev met : Met (jobs S) (dues S) (served_of S)
  met = met_of_passed t r budget pass rank

  pub in_time : (i w : ℕ) → i < t.count → Worst t rank i w → (j : ℕ) → FinishedBy t rank done i j (release (task t i) j + w)
  in_time i w l v j =
      let (p, q) = worst_range S met i l w v in
      let k : release (task t i) j + w ≤ release (task t i) (suc j) = omega (arith, (r.each i l).deadline_le) in
      (finished_iff t rank done i j (release (task t i) j + w) k).1
      (go (on_time (jobs S) (dues S) (told t rank done) (open' t rank done) (ready t rank done) (gave t rank done) (step_history t r rank done)
      (constrained S) (served_of S) (model_run S) met i w l (λ j f d. v.bound j f ((finishes_iff S i j f l).1 d)) j k))
    where
      go : ((u : ℕ) × (0 < u) × (u < w) × T (said_done_by t rank done i (release (task t i) j + u)))
          ⊎ (sum w (λ u. gave t rank done (release (task t i) j + u) i) ≡ (task t i).cost)
          → (had_by t rank done i (release (task t i) j) (release (task t i) j + w) ≡ (task t i).cost)
          ⊎ ((u : ℕ) × (release (task t i) j < u) × (u ≤ release (task t i) j + w) × T (said_done_by t rank done i u))
      go (inl (u, a, b, c)) = inr (release (task t i) j + u, omega arith, omega arith, c)
      go (inr e) = inl (had_sum t rank done i (release (task t i) j) w ∙ e)
