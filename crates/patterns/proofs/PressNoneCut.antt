-- NONE IS CUT OFF, UNDER PRESSES (`none_cut`): no step on a table that passes the distance test closes a job as late, so the set of tasks closed late
-- is empty, their count 0 and the lowest none.
use Rattle.std.specs.Prelude.{◌≡◌, Bool, ℕ, T}
use Rattle.std.proofs.Common.{sym, ap, ◌∙◌, le_refl, arith}
use Rattle.values.specs.declared.Table.{Table}
use Rattle.model.specs.Limits.{task_limit}
use Rattle.model.specs.Patterns.{distance_pass}
use Rattle.model.specs.Dispatcher.{is_late}
use Rattle.model.specs.Presses.{state_under, arrivals, turn_under}
use Rattle.counting.specs.Count.{count_none}
use Rattle.counting.specs.Search.{NoneFrom, first_none}
use Rattle.counting.specs.Bits.{bits_none, bits_past}
use Rattle.wellformed.specs.Ranges.{Ranged}
use Rattle.backlog.proofs.ComingHistory.{open_for, late_for}
use Rattle.patterns.proofs.Arrivals.{comes_apart}
use Rattle.patterns.specs.TakenArrivals.{taken_respects}
use Rattle.patterns.proofs.PressHistory.{rel, onward, exactly, same_state}
use Rattle.patterns.proofs.PressSettled.{gone}

module _ (t : Table) (r : Ranged t) (done : ℕ → Bool) (pressed : ℕ → ℕ) (pass : T (distance_pass t)) (n : ℕ) where
  none_closed : (i : ℕ) → T (is_late t (state_under t done pressed n) (done n) i) → ⊥
  none_closed i h =
      let (l, some, (j, e)) = late_for t r done (onward t r done pressed n) (rel t r done pressed n)
      (comes_apart t (arrivals t done pressed) (taken_respects t r done pressed) n) (exactly t r done pressed n) n i
      (rw (same_state t r done pressed n n (le_refl n)) at h) in
      omega (arith, some, gone t r done pressed pass n i j l, ap (λ (m : ℕ). open_for t done (onward t r done pressed n) m i) e)

  pub none_cut : ((turn_under t done pressed n).late ≡ 0) × ((turn_under t done pressed n).closed ≡ 0) × ((turn_under t done pressed n).lowest ≡ task_limit)
  none_cut =
      let late = is_late t (state_under t done pressed n) (done n) in
      let none : NoneFrom late 0 task_limit = λ i a b. none_closed i in (
        bits_past late 0 task_limit (omega arith) none ∙ sym (bits_none late),
        count_none late task_limit (λ i l. none_closed i),
        first_none late 0 task_limit none,
      )
