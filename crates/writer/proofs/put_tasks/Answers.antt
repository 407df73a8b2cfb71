-- The tasks read are put.
use native.Mathlib.Omega.{arith}
use Rattle.model.specs.TableFile.{task_records}
use Rattle.words.specs.Out.{none}
use Rattle.writer.specs.Records.{next_fits, next_task}
use Rattle.writer.proofs.put_tasks.Goals as goal

pub loop-task-init : goal.loop-task-init
unfolding task_records
loop-task-init c = none _

pub put_task-requires : goal.put_task-requires
put_task-requires c = next_fits _ c.loop-task.task-index c.loop-task-test.true c.loop-task.invariant c.requires

pub loop-task-preserved : goal.loop-task-preserved
loop-task-preserved c = next_task _ c.loop-task.task-index c.loop-task-test.true c.loop-task.invariant c.put_task.ensures
