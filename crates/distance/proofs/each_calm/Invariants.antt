-- The patterns of the periodic tasks that the loop has passed are calm.
use mathlib.Core.Path.{◌≡◌}
use mathlib.Core.Bool.{Bool, ◌||◌}
use Prim.Native.Nat.{ℕ, ◌-◌, ◌≤◌, ◌<◌}
use lib.Dec.{T}
use Rattle.values.specs.declared.Table.{Table}
use Rattle.model.specs.Tasks.{task, is_button}
use Rattle.model.specs.Patterns.{calm, pattern}
use Rattle.distance.proofs.each_calm.Given as goal

abbrev pub stands : Table → ℕ → Bool
stands t k = is_button (task t k) || calm (pattern t k)

abbrev pub invariant-loop-i : goal.invariant-loop-i
invariant-loop-i l = (l.n ≡ l.t.count) × (l.i ≤ l.n) × ((k : ℕ) → k < l.i → T (stands l.t k))

abbrev pub decreases-loop-i : goal.decreases-loop-i
decreases-loop-i l = l.n - l.i
