-- The buffer's length decides first.
use mathlib.Core.Path.{◌≡◌}
use Prim.Native.Nat.{min}
use native.Mathlib.Omega.{arith}
use lib.ListN.{length}
use borrow.Author.Tests.{lt-ltb, le-ltb}
use Rattle.model.specs.Report.{refused, report_written}
use Rattle.checkcalls.specs.Outcomes.{told_of_lem}
use Rattle.checkcalls.proofs.check.Goals as goal

pub returns-then-report-lt-REPORT_BYTES : goal.returns-then-report-lt-REPORT_BYTES
returns-then-report-lt-REPORT_BYTES g c =
    let n = length c.args.report.now in
    let whole : min n 65535 ≡ n = omega (arith, c.if-report-lt-REPORT_BYTES.true) in
    rw (lt-ltb _ _ c.if-report-lt-REPORT_BYTES.true, c.refusal_number.ensures, c.refusal_at.ensures, whole)

pub returns : goal.returns
returns g c =
    let told = told_of_lem (λ r. refused r c.args.report.now) (report_written c.args.report.now) c.args.file.now c.check_file-found.result
    c.check_file-found.ensures.file_found in
    rw (le-ltb _ _ c.if-report-lt-REPORT_BYTES.false, c.export_report.ensures) told
