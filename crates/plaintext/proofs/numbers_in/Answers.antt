-- The numbers below `i` are read.
use Rattle.std.proofs.Common.{refl, arith}
use Rattle.model.specs.PlainText.{numbers_fault}
use Rattle.std.proofs.lemmas.Result.{err_from_is_err_and}
use Rattle.values.specs.Numbers.{number_some}
use Rattle.plaintext.specs.Numbers.{too_few, faulty, one_more, all_read, no_values}
use Rattle.plaintext.proofs.numbers_in.Goals as goal

pub loop-i-preserved : goal.loop-i-preserved
loop-i-preserved g c = one_more c.loop-i.invariant c.in-Some.rest.now c.loop-i-test.true c.in-Some.ensures c.in_ok-values.ensures refl

pub returns-in_default : goal.returns-in_default
returns-in_default g c = too_few c.loop-i.invariant c.loop-i-test.true c.in_default.ensures

pub returns-in_err-values : goal.returns-in_err-values
returns-in_err-values g c =
    let p = err_from_is_err_and c.from_residual.result c.from_residual.ensures.1 in
    rw (p.1, p.2) (faulty c.loop-i.invariant c.in-Some.rest.now c.loop-i-test.true c.in-Some.ensures c.in_err-values.ensures (number_some _))

pub returns-in-Some-next_word : goal.returns-in-Some-next_word
unfolding numbers_fault
returns-in-Some-next_word g c =
    no_values (λ z. absurd (omega arith)) (all_read c.loop-i.invariant (omega arith) (rw c.in-Some-next_word.ensures))

pub returns-in-None : goal.returns-in-None
unfolding numbers_fault
returns-in-None g c = all_read c.loop-i.invariant (omega arith) (rw c.in-None.ensures)
