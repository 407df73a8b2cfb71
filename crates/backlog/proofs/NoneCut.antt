-- NONE IS CUT OFF (`none_cut`): no step on a passed table closes a job as late, so the set of tasks closed late is empty, their count 0 and the lowest none.
use Rattle.std.specs.Prelude.{◌≡◌, Bool, ℕ, ◌<◌, T}
use Rattle.std.proofs.Math.Path.{sym}
use Rattle.std.proofs.Common.{ap, ◌∙◌, arith}
use Rattle.values.specs.declared.Table.{Table}
use Rattle.model.specs.Limits.{task_limit}
use Rattle.values.specs.declared.Verdict.{Verdict}
use Rattle.model.specs.Verdict.{verdict}
use Rattle.model.specs.Run.{Order}
use Rattle.model.specs.Dispatcher.{is_late, turn_by}
use Rattle.model.specs.History.{state_at_by}
use Rattle.counting.specs.Count.{count_none}
use Rattle.counting.specs.Search.{NoneFrom, first_none}
use Rattle.counting.specs.Bits.{bits_none, bits_past}
use Rattle.wellformed.specs.Ranges.{Ranged}
use Rattle.backlog.specs.NoneLate.{none_late}
use Rattle.backlog.specs.System.{System, due_of}
use Rattle.backlog.proofs.System.{jobs, dues, constrained}
use Rattle.backlog.proofs.ModelRun.{served_of, model_run}
use Rattle.backlog.proofs.TableSystem.{system_of}
use Rattle.backlog.proofs.PassedWorst.{met_of_passed}
use Rattle.backlog.specs.Taken.{closed_late_iff}
use Rattle.backlog.proofs.Stepping.{late_is, sound}
use Rattle.backlog.proofs.StepHistory.{open', ready, gave, told, step_history}

module _ (t : Table) (r : Ranged t) (rank : Order) (done : ℕ → Bool) (budget : ℕ) (pass : verdict t budget ≡ Verdict.Passes) where
  abbrev S : System
  S = system_of t r rank

  -- At its deadline a job has nothing left.
  pub nothing_left : (i j : ℕ) → i < t.count → open' t rank done (due_of S i j) i ≡ 0
  nothing_left =
      none_late (jobs S) (dues S) (told t rank done) (open' t rank done) (ready t rank done) (gave t rank done) (step_history t r rank done)
      (constrained S) (served_of S) (model_run S) (met_of_passed t r budget pass rank)

  -- No step closes a job as late.
  none_closed : (n i : ℕ) → T (is_late t (state_at_by t rank done n) (done n) i) → ⊥
  none_closed n i h =
      let l : i < t.count = ((closed_late_iff t (state_at_by t rank done n) (done n) i).0 h).0 in
      let (p, (j, e, b)) = late_is t r rank done n i (sound t r rank done n) h in
      omega (arith, nothing_left i j l, ap (λ (m : ℕ). open' t rank done m i) e)

  pub none_cut : (n : ℕ) → ((turn_by t rank (state_at_by t rank done n) (done n)).late ≡ 0)
      × ((turn_by t rank (state_at_by t rank done n) (done n)).closed ≡ 0) × ((turn_by t rank (state_at_by t rank done n) (done n)).lowest ≡ task_limit)
  unfolding turn_by
  none_cut n =
      let late = is_late t (state_at_by t rank done n) (done n) in
      let none : NoneFrom late 0 task_limit = λ i a b. none_closed n i in (
        bits_past late 0 task_limit (omega arith) none ∙ sym (bits_none late),
        count_none late task_limit (λ i l. none_closed n i),
        first_none late 0 task_limit none,
      )
