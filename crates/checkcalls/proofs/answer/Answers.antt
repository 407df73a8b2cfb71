-- The buffer's length decides first.
use mathlib.Core.Path.{◌≡◌}
use Prim.Native.Nat.{min}
use native.Mathlib.Omega.{arith}
use lib.ListN.{length}
use borrow.Author.Tests.{lt-ltb, le-ltb}
use Rattle.model.specs.Report.{refused}
use Rattle.model.specs.AnswerBuffer.{numbers_written}
use Rattle.checkcalls.specs.Outcomes.{told_of_lem}
use Rattle.checkcalls.proofs.answer.Goals as goal

pub returns-then-buffer-lt-ANSWER_BYTES : goal.returns-then-buffer-lt-ANSWER_BYTES
returns-then-buffer-lt-ANSWER_BYTES c =
    let n = length c.args.buffer.now in
    let whole : min n 65535 ≡ n = omega (arith, c.if-buffer-lt-ANSWER_BYTES.true) in
    rw (lt-ltb _ _ c.if-buffer-lt-ANSWER_BYTES.true, c.refusal_number.ensures, c.refusal_at.ensures, whole)

pub returns : goal.returns
returns c =
    let told = told_of_lem (λ r. refused r c.args.buffer.now) (numbers_written c.args.buffer.now) c.args.file.now c.check_file-found.result
    c.check_file-found.ensures.file_found in
    rw (le-ltb _ _ c.if-buffer-lt-ANSWER_BYTES.false, c.export_numbers.ensures) told
