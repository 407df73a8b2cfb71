-- The lines of the tasks below `task` are put.
use Rattle.model.specs.Report.{worst_lines}
use Rattle.words.specs.Out.{Puts}
use Rattle.report.proofs.put_worst_lines.Given as goal

abbrev pub invariant-loop-task : goal.invariant-loop-task
invariant-loop-task l = Puts (worst_lines l.fn.worst l.task) l.initial.out l.out
