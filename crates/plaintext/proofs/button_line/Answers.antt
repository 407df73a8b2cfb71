-- The room decides first, then the numbers.
use Rattle.std.proofs.Common.{true, refl, arith}
use borrow.Author.Tests.{le-leb}
use Rattle.model.specs.PlainText.{task_line}
use Rattle.std.proofs.lemmas.Result.{err_from_is_err_and}
use Rattle.values.specs.Numbers.{number_some}
use Rattle.plaintext.specs.Lines.{task_fault_lem, task_good}
use Rattle.plaintext.proofs.button_line.Goals as goal

pub returns-then-count-ge-TASK_LIMIT : goal.returns-then-count-ge-TASK_LIMIT
unfolding task_line
returns-then-count-ge-TASK_LIMIT c = rw (le-leb _ _ c.if-count-ge-TASK_LIMIT.true)

pub returns-in_err-cost : goal.returns-in_err-cost
returns-in_err-cost c =
    let p = err_from_is_err_and c.from_residual.result c.from_residual.ensures.1 in
    rw (p.1, p.2) (task_fault_lem true c.args.count (omega arith) c.in_err-cost.ensures (number_some _))

pub returns : goal.returns
returns c = task_good true c.args.count (omega arith) c.in_ok-cost.ensures refl refl
