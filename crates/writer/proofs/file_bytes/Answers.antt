-- The bytes so far are those of the budget, of the end and of the tasks read.
use native.Mathlib.Omega.{arith}
use lib.ListN.{take}
use lib.Seq.{length-take-le}
use Rattle.model.specs.Tasks.{is_button, no_task}
use Rattle.model.specs.TableFile.{task_records}
use Rattle.std.specs.Prelude.{get_or}
use Rattle.tablefile.specs.Reading.{record_size_lem}
use Rattle.tablefile.specs.Written.{records_le}
use Rattle.writer.specs.Records.{records_step}
use Rattle.writer.proofs.file_bytes.Goals as goal

pub loop-task-init : goal.loop-task-init
unfolding task_records
loop-task-init c = omega arith

pub overflow_add-bytes-in-loop-task : goal.overflow_add-bytes-in-loop-task
overflow_add-bytes-in-loop-task c =
    let ks = c.args.tasks.now in
    let i = c.loop-task.task-index in
    omega (arith, c.record_bytes-bytes.ensures, record_size_lem (is_button (get_or ks i no_task)), records_le (take i ks), length-take-le i ks (omega arith))

pub loop-task-preserved : goal.loop-task-preserved
loop-task-preserved c = omega (arith, c.record_bytes-bytes.ensures, records_step c.args.tasks.now c.loop-task.task-index (omega arith), c.loop-task.invariant)
