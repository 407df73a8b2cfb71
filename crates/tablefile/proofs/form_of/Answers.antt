-- The invariant is `ReadSoFar`: reading on from here makes the form of the file. The measure is what is left of the file.
use Rattle.std.specs.Prelude.{Ok}
use mathlib.Core.Path.{◌≡◌, sym, ap, ◌∙◌}
use Prim.Native.Nat.{◌+◌, ◌<◌}
use native.Mathlib.Omega.{arith}
use Rattle.tablefile.specs.declared.Record.{Record}
use Rattle.model.specs.Limits.{task_limit, budget_bytes}
use Rattle.model.specs.Tasks.{is_button}
use Rattle.tablefile.specs.Reading.{record_bytes, record_size_lem, reading_at}
use Rattle.tablefile.specs.Built.{with_task}
use Rattle.tablefile.proofs.ReadSoFar.{ReadSoFar, start, within, follows, after_budget, has_room, after_task_lem, after_end}
use Rattle.tablefile.proofs.form_of.Goals.{In-Budget, In-OneTask}
use Rattle.tablefile.proofs.form_of.Goals as goal

pub loop-why-init : goal.loop-why-init
loop-why-init c = start _ c.no_tasks-table.ensures

pub reading_at-requires : goal.reading_at-requires
reading_at-requires c = (within c.loop-why.invariant).1

pub returns-in-Err : goal.returns-in-Err
returns-in-Err c = c.refused_file.ensures ∙ follows c.loop-why.invariant (sym c.in-Err.is ∙ c.reading_at.ensures)

budget-read : (c : In-Budget)
    → ReadSoFar c.args.file.now c.in-Budget.slots c.loop-why.table (c.loop-why.at + budget_bytes)
budget-read c =
    after_budget c.loop-why.invariant
    (ap Ok (sym c.in-Budget.is)
    ∙ sym c.in-Ok.is
    ∙ c.reading_at.ensures)

pub overflow_add-at : goal.overflow_add-at
overflow_add-at c = omega (arith, within (budget-read (goal.at.overflow_add-at c).In-Budget))

pub loop-why-smaller-in-Budget : goal.loop-why-smaller-in-Budget
loop-why-smaller-in-Budget c = omega (arith, within (budget-read (goal.at.loop-why-smaller-in-Budget c).In-Budget))

pub loop-why-preserved-in-Budget : goal.loop-why-preserved-in-Budget
loop-why-preserved-in-Budget c = budget-read (goal.at.loop-why-preserved-in-Budget c).In-Budget

task-found : (c : In-OneTask)
    → Ok (Record.OneTask c.in-OneTask.task) ≡ reading_at c.args.file.now c.loop-why.at c.loop-why.table.count
task-found c =
    ap Ok (sym c.in-OneTask.is)
    ∙ sym c.in-Ok.is
    ∙ c.reading_at.ensures

task-has-room : (c : In-OneTask)
    → c.loop-why.table.count < task_limit
task-has-room c = has_room c.loop-why.invariant (task-found c)

task_read_lem : (c : In-OneTask)
    → ReadSoFar c.args.file.now c.loop-why.budget (with_task c.loop-why.table c.in-OneTask.task)
    (c.loop-why.at + record_bytes c.in-OneTask.task)
task_read_lem c = after_task_lem c.loop-why.invariant (task-found c)

pub offset_bounds-table-count : goal.offset_bounds-table-count
offset_bounds-table-count c = omega (arith, task-has-room (goal.at.offset_bounds-table-count c).In-OneTask)

pub bounds-table-count : goal.bounds-table-count
bounds-table-count c = task-has-room (goal.at.bounds-table-count c).In-OneTask

pub overflow_add-table : goal.overflow_add-table
overflow_add-table c = omega (arith, task-has-room (goal.at.overflow_add-table c).In-OneTask)

pub overflow_add-at-in-OneTask : goal.overflow_add-at-in-OneTask
overflow_add-at-in-OneTask c = omega (arith, within (task_read_lem (goal.at.overflow_add-at-in-OneTask c).In-OneTask), c.record_bytes-at.ensures)

pub loop-why-smaller : goal.loop-why-smaller
loop-why-smaller c = omega (
  arith,
  within (task_read_lem (goal.at.loop-why-smaller c).In-OneTask),
  c.record_bytes-at.ensures,
  record_size_lem
      (is_button c.in-OneTask.task),
)

pub loop-why-preserved : goal.loop-why-preserved
loop-why-preserved c = rw c.record_bytes-at.ensures (task_read_lem (goal.at.loop-why-preserved c).In-OneTask)

pub returns-in-End : goal.returns-in-End
returns-in-End c =
    after_end c.loop-why.invariant
    (ap Ok (sym c.in-End.is)
    ∙ sym c.in-Ok.is
    ∙ c.reading_at.ensures)
