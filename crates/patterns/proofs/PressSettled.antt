-- NOTHING LEFT, FINISHED (`settled`): on a table that passes the distance test, a job that has nothing left, before another can come, had its whole
-- cost or was reported done.
use Rattle.std.specs.Prelude.{◌≡◌, ◌⊎◌, ◌↔◌, Bool, ℕ, suc, ◌+◌, ◌-◌, ◌≤◌, ◌<◌, T}
use Rattle.std.proofs.Common.{sym, ap, ◌∙◌, inl, inr, arith}
use Rattle.std.proofs.Math.Nat.{min-eq_left}
use Rattle.values.specs.declared.Table.{Table}
use Rattle.model.specs.Notation.{count}
use Rattle.model.specs.Tasks.{task}
use Rattle.model.specs.Patterns.{distance_pass}
use Rattle.model.specs.Dispatcher.{State, left_of}
use Rattle.model.specs.Presses.{state_under, arrivals, done_under, had_under, FinishedUnder}
use Rattle.wellformed.specs.Ranges.{Ranged}
use Rattle.backlog.specs.StreamRun.{run_of, stream_run}
use Rattle.backlog.specs.History.{given_to}
use Rattle.backlog.specs.NoneLate.{none_late}
use Rattle.backlog.specs.OnTime.{account}
use Rattle.backlog.proofs.ComingHistory.{open_for, ready_for, gave_for, told_for}
use Rattle.patterns.proofs.Arrivals.{comes_apart}
use Rattle.patterns.specs.TakenArrivals.{taken_respects}
use Rattle.patterns.proofs.PressHistory.{J, D, onward, press_history, same_state, same_had, same_told, arrives_at, due_first, passed_met}

-- Until another can come, a job is finished exactly if it had its cost or was reported since it arrived.
pub finished_iff : (t : Table) (done : ℕ → Bool) (pressed : ℕ → ℕ) (i u n : ℕ) → n ≤ u + (task t i).period
    → FinishedUnder t done pressed i u n ↔
    ((had_under t done pressed i u n ≡ (task t i).cost) ⊎ ((v : ℕ) × (u < v) × (v ≤ n) × T (done_under t done pressed i v)))
finished_iff t done pressed i u n h = rw (min-eq_left h) (λ x. x, λ x. x)

module _ (t : Table) (r : Ranged t) (done : ℕ → Bool) (pressed : ℕ → ℕ) (pass : T (distance_pass t)) where
  -- At its deadline a job of the streams up to m has nothing left.
  pub gone : (m i j : ℕ) → i < t.count → open_for t done (onward t r done pressed m) ((D t r done pressed m).due i j) i ≡ 0
  gone m =
      none_late (J t r done pressed m) (D t r done pressed m) (told_for t done (onward t r done pressed m))
      (open_for t done (onward t r done pressed m)) (ready_for t done (onward t r done pressed m)) (gave_for t done (onward t r done pressed m))
      (press_history t r done pressed m) (due_first t r done pressed m) (run_of (J t r done pressed m)) (stream_run (J t r done pressed m))
      (passed_met t r done pressed m pass)

  module _ (i u : ℕ) (l : i < t.count) (x : T (arrivals t done pressed i u)) where
    pub settled : (n : ℕ) → u < n → n ≤ u + (task t i).period → left_of (state_under t done pressed n) i ≡ 0 → FinishedUnder t done pressed i u n
    settled n p h z = go (n - u - 1) (omega arith)
      where
        m : ℕ
        m = u + (task t i).period

        j : ℕ
        j = count (arrivals t done pressed i) u

        told : ℕ → ℕ → Type 0
        told = told_for t done (onward t r done pressed m)

        open' : ℕ → ℕ → ℕ
        open' = open_for t done (onward t r done pressed m)

        gave : ℕ → ℕ → ℕ
        gave = gave_for t done (onward t r done pressed m)

        none : open' n i ≡ 0
        none = ap (λ (d : State). left_of d i) (sym (same_state t r done pressed m n h)) ∙ z

        go : (d : ℕ) → u + suc d ≡ n → FinishedUnder t done pressed i u n
        go d e = (finished_iff t done pressed i u n h).1 (at (rw here at told_or_given))
          where
            here : (J t r done pressed m).rel i j ≡ u
            here = arrives_at t r done pressed m i u l (omega (arith, (r.each i l).period_pos)) x

            told_or_given : ((v : ℕ) × (0 < v) × (v ≤ d) × told ((J t r done pressed m).rel i j + v) i)
                ⊎ (given_to gave i ((J t r done pressed m).rel i j) (suc d) + open' ((J t r done pressed m).rel i j + suc d) i ≡ (task t i).cost)
            told_or_given =
                account (J t r done pressed m) (D t r done pressed m) told open' (ready_for t done (onward t r done pressed m)) gave
                (press_history t r done pressed m) (due_first t r done pressed m) (run_of (J t r done pressed m))
                (stream_run (J t r done pressed m)) (passed_met t r done pressed m pass) i j d l
                (omega (arith, here, comes_apart t (arrivals t done pressed) (taken_respects t r done pressed) m i j l))

            at : ((v : ℕ) × (0 < v) × (v ≤ d) × told (u + v) i) ⊎ (given_to gave i u (suc d) + open' (u + suc d) i ≡ (task t i).cost)
                → (had_under t done pressed i u n ≡ (task t i).cost) ⊎ ((v : ℕ) × (u < v) × (v ≤ n) × T (done_under t done pressed i v))
            at (inl (v, a, b, c)) = inr (u + v, omega arith, omega arith, same_told t r done pressed m (u + v) i (omega arith) c)
            at (inr q) = inl (rw (← e) (omega (arith, same_had t r done pressed m i u (suc d) (omega arith), ap (λ (w : ℕ). open' w i) e, none)))
