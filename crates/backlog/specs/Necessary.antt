-- NECESSARY (`necessary`): a good schedule of a table that keeps its ranges leaves no interval that asks too much.
use Rattle.std.proofs.Math.Path.{ap}
use Rattle.std.proofs.Math.Bool.{Bool, true, false}
use Rattle.std.specs.Prelude.{◌&&◌, T, ltb, eqb}
use Prim.Native.Nat.{ℕ, zero, suc, ◌+◌, ◌-◌, ◌*◌, ◌≤◌, ◌<◌}
use native.Mathlib.Omega.{arith}
use Rattle.std.proofs.Math.Dec.{leb}
use Rattle.model.specs.Notation.{bit, sum, count}
use Rattle.values.specs.declared.Table.{Table}
use Rattle.model.specs.Tasks.{task, release, due}
use Rattle.model.specs.Demand.{jobs_in, demand}
use Rattle.model.specs.Schedule.{Slot, none, job, Schedule, belongs, given, Good}
use Rattle.wellformed.specs.Ranges.{Ranged}
use Rattle.wellformed.specs.Demand.{jobs_numbered}
use Rattle.counting.specs.Sum.{sum_eq}
use Rattle.counting.specs.Count.{tests, and_iff, bit_add, count_le, count_add, count_more, count_from, bit_and}

-- The slot is a job below m of task i; it is a job of a task below n.
abbrev early : ℕ → ℕ → Slot → Bool
early i m none = false
early i m (job a b) = eqb a i && ltb b m

abbrev under : ℕ → Slot → Bool
under n none = false
under n (job a b) = ltb a n

early_belongs : (i m : ℕ) (s : Slot) → bit (early i m s) + bit (belongs i m s) ≤ bit (early i (suc m) s)
early_belongs i m none = omega arith
early_belongs i m (job a b) = bit_add (eqb a i && ltb b m) (eqb a i && eqb b m) (eqb a i && ltb b (suc m))
    (λ p q. let x = simp and_iff at p in let y = simp and_iff at q in omega tests)
    (λ p. let x = simp and_iff at p in simp and_iff (x.0, omega tests))
    (λ q. let y = simp and_iff at q in simp and_iff (y.0, omega tests))

under_early : (n m : ℕ) (s : Slot) → bit (under n s) + bit (early n m s) ≤ bit (under (suc n) s)
under_early n m none = omega arith
under_early n m (job a b) = bit_add (ltb a n) (eqb a n && ltb b m) (ltb a (suc n))
    (λ p q. let x = simp and_iff at q in omega tests)
    (λ p. omega tests)
    (λ q. let x = simp and_iff at q in omega tests)

module _ (σ : Schedule) (t1 t2 : ℕ) where
  -- The slots from t1 up to t2 that pass a test; each passes for one job at most.
  unfoldable pub used : (Slot → Bool) → ℕ
  used p = count (λ u. leb t1 u && p (σ u)) t2

  used_add : (p q r : Slot → Bool) → ((s : Slot) → bit (p s) + bit (q s) ≤ bit (r s)) → used p + used q ≤ used r
  unfolding used
  used_add p q r h =
      count_add (λ u. leb t1 u && p (σ u)) (λ u. leb t1 u && q (σ u)) (λ u. leb t1 u && r (σ u)) t2
      (λ u l. bit_and (leb t1 u) (p (σ u)) (q (σ u)) (r (σ u)) (h (σ u)))

  used_all : (p : Slot → Bool) → used p ≤ t2 - t1
  unfolding used
  used_all p =
      omega (
        arith,
        count_le (λ u. leb t1 u && p (σ u)) (leb t1) t2 (λ u l. λ h. ((and_iff (leb t1 u) (p (σ u))).0 h).0),
        count_from (leb t1) t1 t2 t2 (λ u l. (λ h. (omega tests, l), λ h. omega tests)),
      )

  -- If each job that passes a test has had the cost of its task in slots of the interval, their costs fit it.
  module _ (n : ℕ) (cost : ℕ → ℕ) (p : ℕ → ℕ → Bool) (has : (i j : ℕ) → i < n → T (p i j) → cost i ≤ used (belongs i j)) where
    jobs_used : (i m : ℕ) → i < n → cost i * count (p i) m ≤ used (early i m)
    unfolding count
    jobs_used i zero l = omega arith
    jobs_used i (suc m) l = go (p i m) (has i m l) (jobs_used i m l) (used_add (early i m) (belongs i m) (early i (suc m)) (early_belongs i m))
      where
        go : (b : Bool) → (T b → cost i ≤ used (belongs i m)) → cost i * count (p i) m ≤ used (early i m)
            → used (early i m) + used (belongs i m) ≤ used (early i (suc m)) → cost i * (count (p i) m + bit b) ≤ used (early i (suc m))
        go true h ih e = omega (arith, h tt)
        go false h ih e = omega arith

    tasks_used : (m k : ℕ) → k ≤ n → sum k (λ i. cost i * count (p i) m) ≤ used (under k)
    unfolding sum
    tasks_used m zero l = omega arith
    tasks_used m (suc k) l = omega (arith, tasks_used m k (omega arith), jobs_used k m l, used_add (under k) (early k m) (under (suc k)) (under_early k m))

    pub costs_fit : (m : ℕ) → sum n (λ i. cost i * count (p i) m) ≤ t2 - t1
    costs_fit m = omega (arith, tasks_used m n (omega arith), used_all (under n))

  -- A job that has its slots between two instants of the interval has them in the interval.
  pub given_used : (i j from to : ℕ) → t1 ≤ from → to ≤ t2 → given σ i j from to ≤ used (belongs i j)
  unfolding used given
  given_used i j from to a b =
      let p : ℕ → Bool = λ u. leb from u && belongs i j (σ u) in
      omega (
        arith,
        count_more p to t2 b,
        count_le p (λ u. leb t1 u && belongs i j (σ u)) t2
            (λ u m x. let y = simp and_iff at x in simp and_iff (omega tests, y.1)),
      )

  pub necessary : (t : Table) → Ranged t → Good t σ → demand t t1 t2 ≤ t2 - t1
  unfolding demand Good
  necessary t r good =
      omega (
        arith,
        sum_eq t.count (λ i. (task t i).cost * jobs_in (task t i) t1 t2) (λ i. (task t i).cost * count (inside i) t2)
            (λ i l. ap (λ (n : ℕ). (task t i).cost * n) (jobs_numbered (task t i) (r.each i l).period_pos (r.each i l).deadline_pos t1 t2)),
        costs_fit t.count (λ i. (task t i).cost) inside
            (λ i j l h. let w = simp and_iff at h in omega
            (arith, good i j l, given_used i j (release (task t i) j) (due (task t i) j) (omega tests) (omega tests))) t2,
      )
    where
      inside : ℕ → ℕ → Bool
      inside i j = leb t1 (release (task t i) j) && leb (due (task t i) j) t2
