-- The tasks read are put.
use lib.ListN.{take}
use Rattle.model.specs.TableFile.{task_records}
use Rattle.words.specs.Out.{Puts}
use Rattle.writer.proofs.put_tasks.Given as goal

abbrev pub invariant-loop-task : goal.invariant-loop-task
invariant-loop-task l = Puts (task_records (take l.task-index l.fn.tasks)) l.initial.out l.out
