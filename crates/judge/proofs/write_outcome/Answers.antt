-- Each return rewrites with the outcome that its arm found.
use borrow.Author.Rules.{rules}
use Rattle.judge.proofs.write_outcome.Goals as goal

pub returns-in-Err : goal.returns-in-Err
returns-in-Err c =
    record { buffer_after = rw c.in-Err.is c.write_refusal.ensures.buffer_after; upper_bound = c.write_refusal.ensures.upper_bound }

pub returns-in-Ok : goal.returns-in-Ok
returns-in-Ok c =
    record { buffer_after = rw c.in-Ok.is c.write_report.ensures.buffer_after; upper_bound = c.write_report.ensures.upper_bound }
