-- EASING IS SAFE (`eased_passes`): if a table passes, so does every eased one, with any budget that reaches the eased horizon.
use Rattle.std.specs.Prelude.{◌≡◌, ℕ, ◌*◌, ◌≤◌}
use Rattle.std.proofs.Common.{◌∙◌}
use Rattle.std.proofs.Math.Nat.{mul-le-mul}
use native.Mathlib.Omega.{arith}
use Rattle.values.specs.declared.Task.{Task}
use Rattle.values.specs.declared.Table.{Table}
use Rattle.values.specs.declared.Verdict.{Verdict}
use Rattle.model.specs.Tasks.{task, horizon, release}
use Rattle.model.specs.Demand.{arrived_in, jobs_in, demand}
use Rattle.model.specs.Verdict.{verdict}
use Rattle.model.specs.Easing.{EasedTask, Eased, Lowered}
use Rattle.counting.specs.Count.{tests, and_iff, count_le}
use Rattle.counting.specs.Sum.{sum_le, sum_kept}
use Rattle.wellformed.specs.Ranges.{Ranged}
use Rattle.backlog.specs.TooMuch.{NeverTooMuch, too_much_iff}
use Rattle.backlog.proofs.Feasible.{feasible_iff}
use Rattle.backlog.proofs.Passes.{never_of_passed, passes_iff}

-- An eased task eased again, and so a table: easings may follow one another.
task_again : (a b c : Task) → EasedTask a b → EasedTask b c → EasedTask a c
task_again a b c p q = record {
  same_sort = q.same_sort ∙ p.same_sort;
  same_offset = q.same_offset ∙ p.same_offset;
  same_period = q.same_period ∙ p.same_period;
  lower_cost = omega (arith, p.lower_cost, q.lower_cost);
  longer_deadline = omega (arith, p.longer_deadline, q.longer_deadline);
}

pub eased_again : (a b c : Table) → Eased a b → Eased b c → Eased a c
eased_again a b c p q = record {
  kept = λ i. p.kept (q.kept i);
  in_order = λ i k l m. p.in_order (q.kept i) (q.kept k) (q.in_order i k l m) (q.of_before k m);
  of_before = λ i l. p.of_before (q.kept i) (q.of_before i l);
  each = λ i l. task_again _ _ _ (p.each (q.kept i) (q.of_before i l)) (q.each i l);
}

-- Lowering costs alone is an easing.
pub eased_of_lowered : (t t' : Table) → Lowered t t' → Eased t t'
eased_of_lowered t t' e = record {
  kept = λ i. i;
  in_order = λ i k l m. l;
  of_before = λ i l. omega (arith, e.same_count);
  each = λ i l. e.each i (omega (arith, e.same_count));
}

-- The job of an eased task is released as before.
pub released_same : (k k' : Task) → EasedTask k k' → (j : ℕ) → release k' j ≡ release k j
released_same k k' e j = rw (e.same_offset, e.same_period)

-- No more of its jobs are inside an interval.
jobs_fall : (k k' : Task) → EasedTask k k' → (from to : ℕ) → jobs_in k' from to ≤ jobs_in k from to
unfolding arrived_in
jobs_fall k k' e from to =
    rw (e.same_offset, e.same_period) (count_le _ _ to (λ u l h. let w = simp and_iff at h in simp and_iff (
      w.0,
      (w.1.0, omega (tests, e.longer_deadline)),
    )))

module _ (t t' : Table) (e : Eased t t') where
  -- No interval asks for more.
  pub demand_falls : (from to : ℕ) → demand t' from to ≤ demand t from to
  unfolding demand
  demand_falls from to =
      omega (
        arith,
        sum_le t'.count _ (λ i. (task t (e.kept i)).cost * jobs_in (task t (e.kept i)) from to)
            (λ i l. mul-le-mul (e.each i l).lower_cost (jobs_fall _ _ (e.each i l) from to)),
        sum_kept t'.count t.count (λ i. (task t i).cost * jobs_in (task t i) from to) e.kept e.in_order e.of_before,
      )

  never_eased : NeverTooMuch t → NeverTooMuch t'
  never_eased h from to w = let (l, d) = (too_much_iff t' from to).0 w in h from to ((too_much_iff t from to).1 (l, omega (arith, demand_falls from to)))

  pub eased_passes : Ranged t → Ranged t' → (budget budget' : ℕ) → verdict t budget ≡ Verdict.Passes → horizon t' ≤ budget'
      → verdict t' budget' ≡ Verdict.Passes
  eased_passes r r' budget budget' pass enough =
      (passes_iff t' r' budget' enough).1 ((feasible_iff t' r').1 (never_eased (never_of_passed t r budget pass).1))
