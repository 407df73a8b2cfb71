-- Each return goes by what the form and the judgement of its table turned out to be.
use Rattle.model.specs.Values.{Judgement, Admission}
use mathlib.Core.Path.{sym, ap, ◌∙◌}
use Rattle.model.specs.Tasks.{judged_mixed}
use Rattle.model.specs.TableFile.{judged_table, judged_form, file_read}
use Rattle.tablefile.proofs.read.Goals as goal

pub returns-in-Err : goal.returns-in-Err
unfolding file_read
returns-in-Err c = rw (← c.form_of-form.ensures, c.in-Err.is)

pub returns-in-Ok : goal.returns-in-Ok
unfolding file_read
returns-in-Ok c =
    let form = c.form_of-form.result in
    rw (← c.form_of-form.ensures)
    (c.judged_by.ensures ∙ ap (λ (j : Judgement). judged_table form j) c.judge_mixed.ensures
    ∙ sym (ap (λ (a : Admission). judged_form judged_mixed form a) c.in-Ok.is))
