-- By what the table is judged to be, and whether the number is one of its tasks.
use native.Mathlib.Omega.{arith}
use borrow.Author.Tests.{lt-ltb, le-ltb}
use Rattle.std.proofs.lemmas.Result.{err_from_is_err_and}
use Rattle.model.specs.Largest.{cost_answer}
use Rattle.largest.proofs.largest_cost.Goals as goal

pub returns-in_err-m : goal.returns-in_err-m
unfolding cost_answer
returns-in_err-m c =
    let p = err_from_is_err_and c.from_residual.result c.from_residual.ensures.1 in
    rw (p.1, p.2, ← c.judge.ensures, c.in_err-m.was)

pub returns-then-t-i : goal.returns-then-t-i
unfolding cost_answer
returns-then-t-i c =
    rw (← c.judge.ensures, c.in_ok-m.was, le-ltb c.args.task c.args.t.count (omega arith), c.new.ensures)

pub returns : goal.returns
unfolding cost_answer
returns c = rw (← c.judge.ensures, c.in_ok-m.was, lt-ltb c.args.task c.args.t.count (omega arith)) c.told.ensures
