-- The lines of the tasks passed are put.
use lib.ListN.{take}
use Rattle.model.specs.PlainText.{task_texts}
use Rattle.words.specs.Out.{Puts}
use Rattle.plaintext.proofs.put_tasks.Given as goal

abbrev pub invariant-loop-task : goal.invariant-loop-task
invariant-loop-task l = Puts (task_texts (take l.task-index l.fn.tasks)) l.initial.out l.out
