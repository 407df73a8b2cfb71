-- The loop has unpacked the tasks that it has passed.
use mathlib.Core.Path.{◌≡◌}
use Rattle.model.specs.Tasks.{task}
use Rattle.slots.specs.Columns.{column}
use Rattle.leaps.specs.Entry.{mark_of, entry}
use Rattle.leaps.proofs.unpack.Given as goal

abbrev pub invariant-loop-i : goal.invariant-loop-i
invariant-loop-i l =
    (l.period ≡ column l.i (λ k. entry l.fn.t (task l.fn.t k).period k)) × (l.cost ≡ column l.i (λ k. (task l.fn.t k).cost))
    × (l.deadline ≡ column l.i (λ k. entry l.fn.t (task l.fn.t k).deadline k)) × (l.mark ≡ column l.i (mark_of l.fn.t))
