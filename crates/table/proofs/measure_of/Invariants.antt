-- The load so far is the sum over the tasks read, and at most a whole round for each; the latest offset so far is the largest.
use mathlib.Core.Path.{◌≡◌}
use Prim.Native.Nat.{ℕ, ◌*◌, ◌≤◌}
use Rattle.values.specs.declared.Table.{Table}
use Rattle.model.specs.Limits.{slot_limit, round_limit}
use Rattle.model.specs.Notation.{sum, largest}
use Rattle.model.specs.Tasks.{task, offset}
use Rattle.wellformed.specs.Round.{share}
use Rattle.table.proofs.measure_of.Given as goal

abbrev pub start : Table → ℕ → ℕ
start t i = offset (task t i)

abbrev pub invariant-loop-task : goal.invariant-loop-task
invariant-loop-task l =
    let t = l.fn.t in
    let i = l.task-index in
    (l.load ≤ i * round_limit) × (l.load ≡ sum i (share t l.round)) × (l.latest ≤ slot_limit) × (l.latest ≡ largest i (start t))
