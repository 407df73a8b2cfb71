-- Each return goes by the outcome that its arm found.
use Rattle.model.specs.Report.{refused, report_written}
use Rattle.checkcalls.specs.Outcomes.{by_outcome_of}
use Rattle.checkcalls.proofs.export_report.Goals as goal

pub returns-in-Err : goal.returns-in-Err
returns-in-Err c = rw (c.in-Err.is, c.refusal_number.ensures)

pub returns-in-Ok : goal.returns-in-Ok
returns-in-Ok c =
    by_outcome_of (λ w. refused w c.args.buffer.now) (report_written c.args.buffer.now) c.args.found c.in-Ok.is c.write_report.ensures.buffer_after
