-- The start so far is the latest of the releases of the tasks passed that are not too light.
use Prim.Native.Nat.{ℕ, ◌<◌}
use Rattle.intervals.specs.Starts.{PassedOver}
use Rattle.intervals.proofs.start_before.Given as goal

abbrev pub invariant-loop-task : goal.invariant-loop-task
invariant-loop-task l = (0 < l.from → l.start < l.from) × ((k : ℕ) → k < l.task-index → PassedOver l.fn.t l.spare l.start l.from k)
