-- The rows below `i` are in the table.
use mathlib.Core.Path.{◌≡◌}
use lib.ListN.{replicate}
use Rattle.model.specs.Limits.{task_limit}
use Rattle.model.specs.Notation.{fill}
use Rattle.model.specs.Tasks.{no_task}
use Rattle.model.specs.Writer.{row_task}
use Rattle.rows.proofs.table_in.Given as goal

abbrev pub invariant-loop-i : goal.invariant-loop-i
invariant-loop-i l = l.tasks ≡ fill l.i (row_task l.words) (replicate task_limit no_task)
