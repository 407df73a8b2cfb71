-- THE SLOTS THAT A TASK HAD (`had_sum`): the sum of what each slot gave it.
use Rattle.std.specs.Prelude.{◌≡◌, ◌⊎◌, ◌↔◌, Bool, ◌&&◌, T, leb}
use Prim.Native.Nat.{ℕ, zero, suc, ◌+◌, ◌≤◌, ◌<◌}
use Rattle.std.proofs.Common.{add-suc, arith, le-leb}
use Rattle.std.proofs.Math.Nat.{min-eq_left}
use Rattle.std.proofs.Math.Dec.{eqb}
use Rattle.values.specs.declared.Table.{Table}
use Rattle.model.specs.Notation.{bit, sum, count}
use Rattle.model.specs.Tasks.{task, release}
use Rattle.model.specs.Run.{Order}
use Rattle.model.specs.History.{owner_at_by, said_done_by, had_by, FinishedBy}
use Rattle.counting.specs.Count.{tests, and_iff, count_more, count_none}
use Rattle.backlog.proofs.StepHistory.{gave}

-- The count of the numbers from `from` on that pass: it is 0 up to `from`, and then grows one by one.
module _ (p : ℕ → Bool) (from : ℕ) where
  abbrev since : ℕ → ℕ
  since m = count (λ n. leb from n && p n) m

  pub since_early : (m : ℕ) → m ≤ from → since m ≡ 0
  since_early m l = count_none _ m (λ k b h. let w = (and_iff (leb from k) (p k)).0 h in omega (tests, w.0))

  pub since_next : (n : ℕ) → from ≤ n → since (suc n) ≡ since n + bit (p n)
  unfolding count
  since_next n h = rw (le-leb from n h)

  pub since_sum : (d : ℕ) → since (from + d) ≡ sum d (λ u. bit (p (from + u)))
  unfolding sum
  since_sum zero = since_early (from + 0) (omega arith)
  since_sum (suc d) = rw (add-suc from d, since_next (from + d) (omega arith)) (omega (arith, since_sum d))

module _ (t : Table) (rank : Order) (done : ℕ → Bool) where
  pub had_early : (i from m : ℕ) → m ≤ from → had_by t rank done i from m ≡ 0
  unfolding had_by
  had_early i = since_early (λ n. eqb (owner_at_by t rank done n) i)

  pub had_grows : (i from m n : ℕ) → m ≤ n → had_by t rank done i from m ≤ had_by t rank done i from n
  unfolding had_by
  had_grows i from m n l = count_more _ m n l

  pub had_next : (i from n : ℕ) → from ≤ n → had_by t rank done i from (suc n) ≡ had_by t rank done i from n + gave t rank done n i
  unfolding had_by
  had_next i = since_next (λ n. eqb (owner_at_by t rank done n) i)

  pub had_sum : (i from d : ℕ) → had_by t rank done i from (from + d) ≡ sum d (λ u. gave t rank done (from + u) i)
  unfolding had_by
  had_sum i = since_sum (λ n. eqb (owner_at_by t rank done n) i)

  -- Up to the next release of its task, a job is finished exactly if it had its cost or was reported since its release.
  pub finished_iff : (i j n : ℕ) → n ≤ release (task t i) (suc j)
      → FinishedBy t rank done i j n ↔ ((had_by t rank done i (release (task t i) j) n ≡ (task t i).cost)
      ⊎ ((u : ℕ) × (release (task t i) j < u) × (u ≤ n) × T (said_done_by t rank done i u)))
  finished_iff i j n l = rw (min-eq_left l) (λ h. h, λ h. h)
