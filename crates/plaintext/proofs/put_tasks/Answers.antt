-- The lines of the tasks passed are put.
use Rattle.model.specs.PlainText.{task_texts}
use Rattle.words.specs.Out.{none}
use Rattle.plaintext.specs.Texts.{next_fits, next_line}
use Rattle.plaintext.proofs.put_tasks.Goals as goal

pub loop-task-init : goal.loop-task-init
unfolding task_texts
loop-task-init c = none _

pub put_task-requires : goal.put_task-requires
put_task-requires c = next_fits _ c.loop-task.task-index c.loop-task-test.true c.loop-task.invariant c.requires

pub loop-task-preserved : goal.loop-task-preserved
loop-task-preserved c = next_line _ c.loop-task.task-index c.loop-task-test.true c.loop-task.invariant c.put_task.ensures
