-- NONE GETS TOO MUCH, UNDER PRESSES (`never_more`): from an arrival until another can come a task has no more slots than its cost. Of any table that
-- keeps its ranges.
use Rattle.std.specs.Prelude.{◌≡◌, Bool, ◌&&◌, T}
use Rattle.std.proofs.Math.Logic.{inl, inr}
use Prim.Native.Nat.{ℕ, suc, ◌+◌, ◌-◌, min, ◌≤◌, ◌<◌}
use Rattle.std.proofs.Common.{le_antisymm}
use Rattle.std.proofs.Math.Decide.{dec_lt}
use native.Mathlib.Omega.{arith}
use Rattle.std.proofs.Math.Dec.{leb, eqb}
use Rattle.values.specs.declared.Table.{Table}
use Rattle.model.specs.Notation.{count}
use Rattle.model.specs.Tasks.{task}
use Rattle.model.specs.Presses.{arrivals, owner_under, had_under, FinishedUnder}
use Rattle.counting.specs.Count.{count_more}
use Rattle.wellformed.specs.Ranges.{Ranged}
use Rattle.backlog.specs.AtMost.{at_most}
use Rattle.backlog.proofs.Had.{since_early}
use Rattle.backlog.proofs.ComingHistory.{open_for, ready_for, gave_for, told_for}
use Rattle.patterns.proofs.Arrivals.{comes_apart}
use Rattle.patterns.specs.TakenArrivals.{taken_respects}
use Rattle.patterns.proofs.PressHistory.{J, D, onward, press_history, same_had, arrives_at}

module _ (t : Table) (r : Ranged t) (done : ℕ → Bool) (pressed : ℕ → ℕ) (i u : ℕ) (l : i < t.count) (x : T (arrivals t done pressed i u)) where
  pub never_more : (n : ℕ) → n ≤ u + (task t i).period → had_under t done pressed i u n ≤ (task t i).cost
  unfolding had_under
  never_more n h = go (dec_lt u n)
    where
      m : ℕ
      m = u + (task t i).period

      j : ℕ
      j = count (arrivals t done pressed i) u

      more : (d : ℕ) → u + suc d ≡ n → had_under t done pressed i u n ≤ (task t i).cost
      more d e =
          let at = arrives_at t r done pressed m i u l (omega (arith, (r.each i l).period_pos)) x in
          let next = comes_apart t (arrivals t done pressed) (taken_respects t r done pressed) m i j l in
          let most = at_most (J t r done pressed m) (D t r done pressed m) (told_for t done (onward t r done pressed m))
          (open_for t done (onward t r done pressed m)) (ready_for t done (onward t r done pressed m)) (gave_for t done (onward t r done pressed m))
          (press_history t r done pressed m) i j d l (omega arith) in
          rw (← e) (omega (arith, rw at at most, same_had t r done pressed m i u (suc d) (omega arith)))

      go : Dec (u < n) → had_under t done pressed i u n ≤ (task t i).cost
      go (yes p) = more (n - u - 1) (omega arith)
      go (no p) = omega (arith, since_early (λ k. eqb (owner_under t done pressed k) i) u n (omega arith))

  -- So what is finished stays so.
  pub finished_stays : (n m : ℕ) → n ≤ m → FinishedUnder t done pressed i u n → FinishedUnder t done pressed i u m
  unfolding had_under
  finished_stays n m h (inl e) =
      inl (le_antisymm (never_more (min m (u + (task t i).period)) (omega arith))
      (omega (
        arith,
        count_more (λ k. leb u k && eqb (owner_under t done pressed k) i) (min n (u + (task t i).period))
            (min m (u + (task t i).period)) (omega arith),
      )))
  finished_stays n m h (inr (v, a, b, c)) = inr (v, a, omega arith, c)
