-- NO BUTTON (`no_button`): without one, distance pass is no overload and every task's pattern calm.
use Rattle.std.specs.Prelude.{◌≡◌, not, ◌&&◌, ℕ, ◌<◌, T, eqb}
use Rattle.std.proofs.Common.{ap}
use Rattle.values.specs.declared.Table.{Table}
use Rattle.model.specs.Notation.{some, every}
use Rattle.model.specs.Tasks.{task, is_button}
use Rattle.model.specs.Patterns.{light, calm, pattern, distance_pass}
use Rattle.counting.specs.Count.{count_eq, is_true, some_iff}
use Rattle.wellformed.specs.WellFormed.{Buttonless}

pub no_button : (t : Table) → 0 < t.count → Buttonless t → distance_pass t ≡ (light t && every (λ i. calm (pattern t i)) t.count)
unfolding distance_pass
no_button t pos none =
    rw (is_true (some (λ i. not (is_button (task t i))) t.count) one)
    (ap (λ (n : ℕ). light t && eqb n t.count) (count_eq _ _ t.count (λ i l. rw (none i l))))
  where
    one : T (some (λ i. not (is_button (task t i))) t.count)
    one = (some_iff (λ i. not (is_button (task t i))) t.count).1 (0, pos, rw (none 0 pos) tt)
