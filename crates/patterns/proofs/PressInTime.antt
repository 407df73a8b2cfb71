-- EVERY JOB IN TIME, UNDER PRESSES (`in_time`): on a table that passes the distance test, by its deadline each job that arrived had its whole cost,
-- or was reported done.
use Rattle.std.specs.Prelude.{◌≡◌, Bool, ℕ, ◌+◌, ◌<◌, T}
use Rattle.std.proofs.Common.{ap, ◌∙◌, arith}
use Rattle.values.specs.declared.Table.{Table}
use Rattle.model.specs.Notation.{count}
use Rattle.model.specs.Tasks.{task}
use Rattle.model.specs.Patterns.{distance_pass}
use Rattle.model.specs.Dispatcher.{State, left_of}
use Rattle.model.specs.Presses.{arrivals, FinishedUnder}
use Rattle.wellformed.specs.Ranges.{Ranged}
use Rattle.patterns.proofs.PressHistory.{rel, same_state, arrives_at}
use Rattle.patterns.proofs.PressSettled.{gone, settled}

module _ (t : Table) (r : Ranged t) (done : ℕ → Bool) (pressed : ℕ → ℕ) (pass : T (distance_pass t)) where
  pub in_time : (i u : ℕ) → i < t.count → T (arrivals t done pressed i u) → FinishedUnder t done pressed i u (u + (task t i).deadline)
  in_time i u l x =
      let k = r.each i l in
      settled t r done pressed pass i u l x (u + (task t i).deadline) (omega (arith, k.deadline_pos)) (omega (arith, k.deadline_le))
      (ap (λ (d : State). left_of d i) (same_state t r done pressed m (u + (task t i).deadline) (omega (arith, k.deadline_le)))
      ∙ rw here at (gone t r done pressed pass m i (count (arrivals t done pressed i) u) l))
    where
      m : ℕ
      m = u + (task t i).period

      here : rel t r done pressed m i (count (arrivals t done pressed i) u) ≡ u
      here = arrives_at t r done pressed m i u l (omega (arith, (r.each i l).period_pos)) x
