-- Each return goes by what the form turned out to be.
use mathlib.Core.Path.{sym, ap, ◌∙◌}
use Rattle.values.specs.declared.Contents.{Contents}
use Rattle.tablefile.specs.Told.{form_refused, table_told}
use Rattle.checkcalls.specs.Outcomes.{refused_by, answered}
use Rattle.checkcalls.proofs.check_file.Goals as goal

pub returns-in-Err : goal.returns-in-Err
returns-in-Err g c =
    let form = c.form_of-form.ensures in
    let told = form_refused refused_by answered _ _ (ap (λ (l : Contents). l.admission) (sym form) ∙ c.in-Err.is) in
    record { file_found = rw c.refuse.ensures.result_value told; tasks_le_task_limit = c.refuse.ensures.tasks_le_task_limit }

pub returns-in-Ok : goal.returns-in-Ok
returns-in-Ok g c =
    let form = c.form_of-form.ensures in
    let good = ap (λ (l : Contents). l.admission) (sym form) ∙ c.in-Ok.is in record {
      file_found = table_told refused_by answered _ _ good (rw form at c.check_table.ensures.table_found);
      tasks_le_task_limit = c.check_table.ensures.tasks_le_task_limit;
    }
