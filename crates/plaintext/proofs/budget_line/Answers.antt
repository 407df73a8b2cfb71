-- Whether a budget was given decides first, then whether a task was, then the numbers of the line, then whether it is 0.
use Rattle.std.proofs.Common.{refl}
use Rattle.std.proofs.lemmas.Result.{err_from_is_err_and}
use Rattle.values.specs.Numbers.{number_some}
use Rattle.plaintext.specs.Lines.{second_budget, budget_behind, budget_fault, budget_nothing, budget_good}
use Rattle.plaintext.proofs.budget_line.Goals as goal

pub returns-then-given : goal.returns-then-given
returns-then-given c = rw c.if-given.true (second_budget _ _)

pub returns-then-count-gt0 : goal.returns-then-count-gt0
returns-then-count-gt0 c = rw c.if-given.false (budget_behind _ _ c.if-count-gt0.true)

pub returns-in_err-budget : goal.returns-in_err-budget
returns-in_err-budget c =
    let p = err_from_is_err_and c.from_residual.result c.from_residual.ensures.1 in
    rw (p.1, p.2, c.if-given.false) (budget_fault _ c.if-count-gt0.false c.in_err-budget.ensures (number_some _))

pub returns-then-budget-eq0 : goal.returns-then-budget-eq0
returns-then-budget-eq0 c = rw c.if-given.false (budget_nothing _ c.if-count-gt0.false c.in_ok-budget.ensures refl c.if-budget-eq0.true)

pub returns : goal.returns
returns c = rw c.if-given.false (budget_good _ c.if-count-gt0.false c.in_ok-budget.ensures refl c.if-budget-eq0.false)
