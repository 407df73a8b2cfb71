-- NO SLOT IS EMPTY WHILE A JOB WAITS (`none_waits`): on a passed table, where slot n goes to none, every job released by then is finished.
use Rattle.std.specs.Prelude.{◌≡◌, ◌⊎◌, ◌≢◌, Bool, ℕ, suc, ◌+◌, ◌-◌, ◌≤◌, ◌<◌, T}
use Rattle.std.proofs.Common.{ap, inl, inr, arith, ne_eqb}
use Rattle.std.proofs.Math.Decide.{ℕ_discrete, dec_lt}
use Rattle.values.specs.declared.Table.{Table}
use Rattle.model.specs.Notation.{sum}
use Rattle.model.specs.Limits.{task_limit}
use Rattle.values.specs.declared.Verdict.{Verdict}
use Rattle.model.specs.Tasks.{task, release}
use Rattle.model.specs.Verdict.{verdict}
use Rattle.model.specs.Run.{Order, Worst}
use Rattle.model.specs.History.{owner_at_by, said_done_by, FinishedBy}
use Rattle.wellformed.specs.Ranges.{Ranged}
use Rattle.backlog.specs.Criterion.{Met}
use Rattle.backlog.specs.History.{Goes}
use Rattle.backlog.specs.OnTime.{account}
use Rattle.backlog.specs.System.{System, release_of}
use Rattle.backlog.proofs.System.{jobs, dues, constrained}
use Rattle.backlog.proofs.ModelRun.{served_of, model_run}
use Rattle.backlog.proofs.Worst.{worst_range}
use Rattle.backlog.proofs.TableSystem.{system_of}
use Rattle.backlog.proofs.PassedWorst.{met_of_passed, worst_of}
use Rattle.backlog.proofs.StepHistory.{open', ready, gave, told, step_history, Closing}
use Rattle.backlog.proofs.Had.{had_sum, finished_iff}
use Rattle.backlog.proofs.NeverMore.{finished_stays}
use Rattle.backlog.proofs.NoneCut.{nothing_left}
use Rattle.backlog.proofs.InTime.{in_time}
use Rattle.counting.specs.Below.{between_none}

module _ (t : Table) (r : Ranged t) (rank : Order) (done : ℕ → Bool) (budget : ℕ) (pass : verdict t budget ≡ Verdict.Passes) where
  abbrev S : System
  S = system_of t r rank

  abbrev met : Met (jobs S) (dues S) (served_of S)
  met = met_of_passed t r budget pass rank

  -- Where slot n goes to none, the last released job of each task is finished.
  last_waits : (n : ℕ) → owner_at_by t rank done n ≡ task_limit → (i j : ℕ) → i < t.count → release (task t i) j ≤ n → n < release (task t i) (suc j)
      → FinishedBy t rank done i j n
  last_waits n e i j l a b = go ((step_history t r rank done).slot n)
    where
      finished : (d : ℕ) → release (task t i) j + suc d ≡ n → open' t rank done n i ≡ 0 → FinishedBy t rank done i j n
      finished d q z =
          at (account (jobs S) (dues S) (told t rank done) (open' t rank done) (ready t rank done) (gave t rank done) (step_history t r rank done)
          (constrained S) (served_of S) (model_run S) met i j d l (omega arith))
        where
          at : ((u : ℕ) × (0 < u) × (u ≤ d) × T (said_done_by t rank done i (release (task t i) j + u)))
              ⊎ (sum (suc d) (λ u. gave t rank done (release (task t i) j + u) i) + open' t rank done (release (task t i) j + suc d) i
              ≡ (task t i).cost) → FinishedBy t rank done i j n
          at (inl (u, x, y, c)) = (finished_iff t rank done i j n (omega arith)).1 (inr (release (task t i) j + u, omega arith, omega arith, c))
          at (inr x) =
              (finished_iff t rank done i j n (omega arith)).1
              (inl (rw (← q) (omega (arith, had_sum t rank done i (release (task t i) j) (suc d), ap (λ (m : ℕ). open' t rank done m i) q))))

      idle : ready t rank done n i ≡ 0 → FinishedBy t rank done i j n
      idle z = elim (ℕ_discrete (release (task t i) j) n) [
        | yes q ↦ absurd (omega (arith, (step_history t r rank done).fresh n i j l q, (r.each i l).cost_pos))
        | no q ↦ closed q ((step_history t r rank done).kept n i l (between_none (release_of S i) ((jobs S).rel_grows i l) n j (omega arith) b))
      ]
        where
          closed : release (task t i) j ≢ n → Closing t r rank done n i → FinishedBy t rank done i j n
          closed q (inl x) = finished (n - release (task t i) j - 1) (omega arith) (omega arith)
          closed q (inr (x, inl c)) = (finished_iff t rank done i j n (omega arith)).1 (inr (n, omega arith, omega arith, c))
          closed q (inr (x, inr (k, c))) =
              finished (n - release (task t i) j - 1) (omega arith)
              (omega (arith, nothing_left t r rank done budget pass i k l, ap (λ (m : ℕ). open' t rank done m i) c))

      go : Goes (jobs S) (ready t rank done) (gave t rank done) n → FinishedBy t rank done i j n
      go (inl z) = idle (z i l)
      go (inr (k, m, p, o, g, x)) = absurd (omega (arith, one k g))
        where
          one : (k : ℕ) → gave t rank done n k ≡ 1 → owner_at_by t rank done n ≡ k
          one k g =
              elim (ℕ_discrete (owner_at_by t rank done n) k) [
                | yes q ↦ q
                | no q ↦ absurd
                    (let z : gave t rank done n k ≡ 0 = rw (ne_eqb (owner_at_by t rank done n) k q) in omega arith)
              ]

  pub none_waits : (n : ℕ) → owner_at_by t rank done n ≡ task_limit → (i j : ℕ) → i < t.count → release (task t i) j ≤ n → FinishedBy t rank done i j n
  none_waits n e i j l a = elim (dec_lt n (release (task t i) (suc j))) [
    | yes b ↦ last_waits n e i j l a b
    | no b ↦ earlier b (worst_of t r budget pass rank i l)
  ]
    where
      earlier : ¬ (n < release (task t i) (suc j)) → (w : ℕ) × Worst t rank i w → FinishedBy t rank done i j n
      earlier b (w, v) =
          let (p, q) = worst_range S met i l w v in
          finished_stays t r rank done i j (release (task t i) j + w) n l (omega (arith, (r.each i l).deadline_le))
          (in_time t r rank done budget pass i w l v j)
