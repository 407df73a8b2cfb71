-- The bytes so far are those of the budget, of the end and of the tasks read.
use mathlib.Core.Path.{◌≡◌}
use Prim.Native.Nat.{◌+◌}
use lib.ListN.{length, take}
use Rattle.model.specs.Limits.{budget_bytes}
use Rattle.model.specs.TableFile.{task_records}
use Rattle.writer.proofs.file_bytes.Given as goal

abbrev pub invariant-loop-task : goal.invariant-loop-task
invariant-loop-task l = l.bytes ≡ budget_bytes + 1 + length (task_records (take l.task-index l.fn.tasks))
