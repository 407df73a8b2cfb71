-- The digits of what is left are to come before those that stand.
use Rattle.text.specs.Decimal.{Making}
use Rattle.text.proofs.make_digits.Given as goal

abbrev pub invariant-loop-rest : goal.invariant-loop-rest
invariant-loop-rest l = Making l.number l.at l.rest l.digits

abbrev pub decreases-loop-rest : goal.decreases-loop-rest
decreases-loop-rest l = l.rest
