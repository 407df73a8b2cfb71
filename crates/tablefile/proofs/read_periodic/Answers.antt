-- Each return goes by what the form and the judgement of its table turned out to be.
use Rattle.model.specs.Values.{Judgement, Admission}
use mathlib.Core.Path.{sym, ap, ◌∙◌}
use Rattle.model.specs.Tasks.{judged}
use Rattle.model.specs.TableFile.{judged_table, judged_form, periodic_from}
use Rattle.tablefile.proofs.read_periodic.Goals as goal

pub returns-in-Err : goal.returns-in-Err
unfolding periodic_from
returns-in-Err c = rw (← c.form_of-form.ensures, c.in-Err.is)

pub returns-in-Ok : goal.returns-in-Ok
unfolding periodic_from
returns-in-Ok c =
    let form = c.form_of-form.result in
    rw (← c.form_of-form.ensures)
    (c.judged_by.ensures ∙ ap (λ (j : Judgement). judged_table form j) c.judge.ensures
    ∙ sym (ap (λ (a : Admission). judged_form judged form a) c.in-Ok.is))
