-- The loop has unpacked the tasks that it has passed.
use mathlib.Core.Path.{◌≡◌}
use Prim.Native.Nat.{◌-◌}
use Rattle.model.specs.Tasks.{task}
use Rattle.model.specs.Run.{tie_order}
use Rattle.slots.specs.Columns.{column}
use Rattle.slots.proofs.unpack.Given as goal

abbrev pub invariant-loop-i : goal.invariant-loop-i
invariant-loop-i l = record {
  periods : l.period ≡ column l.i (λ k. (task l.fn.t k).period);
  costs : l.cost ≡ column l.i (λ k. (task l.fn.t k).cost);
  slacks : l.slack ≡ column l.i (λ k. (task l.fn.t k).period - (task l.fn.t k).deadline);
  ranks : l.rank ≡ column l.i (tie_order l.fn.t);
}
