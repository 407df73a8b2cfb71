-- Each return goes by what the form turned out to be.
use mathlib.Core.Path.{sym, ap, ◌∙◌}
use borrow.Author.Rules.{rules}
use Rattle.values.specs.declared.Contents.{Contents}
use Rattle.model.specs.Report.{report_of, refusal_line}
use Rattle.tablefile.specs.Told.{form_refused, table_told}
use Rattle.judge.specs.Front.{front, counted}
use Rattle.judge.proofs.judge.Goals as goal

pub returns-in-Err : goal.returns-in-Err
returns-in-Err c =
    let form = c.form_of-form.ensures in
    let line = c.write_refusal.ensures.buffer_after in
    let told = form_refused refusal_line report_of _ _ (ap (λ (l : Contents). l.admission) (sym form) ∙ c.in-Err.is) in
    let piece = refusal_line c.in-Err.why in
    record { printed = rw (front piece _ line) told; prefix_len = counted piece _ line }

pub returns-in-Ok : goal.returns-in-Ok
returns-in-Ok c =
    let form = c.form_of-form.ensures in
    let (piece, text, said) = c.judge_table.ensures in
    let told = table_told refusal_line report_of _ piece (ap (λ (l : Contents). l.admission) (sym form) ∙ c.in-Ok.is)
    (rw form at said) in
    record { printed = rw (front piece _ text) told; prefix_len = counted piece _ text }
