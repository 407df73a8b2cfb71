use Rattle.std.proofs.Common.{arith}
use Rattle.text.specs.Decimal.{room, make_none, make_one, make_first}
use Rattle.text.proofs.make_digits.Goals as goal

pub loop-rest-init : goal.loop-rest-init
loop-rest-init c = make_none c.told-digits

pub overflow_sub-at : goal.overflow_sub-at
overflow_sub-at c = room c.ranges.number.fits c.loop-rest.invariant

pub bounds-digits-at : goal.bounds-digits-at
bounds-digits-at c = omega (arith, c.loop-rest.invariant.at_le)

pub loop-rest-preserved : goal.loop-rest-preserved
loop-rest-preserved c =
    let m = c.loop-rest.invariant in rw c.digit_byte.ensures (make_one c.loop-rest-test.true (room c.ranges.number.fits m) m)

pub overflow_sub-at-2 : goal.overflow_sub-at-2
overflow_sub-at-2 c = room c.ranges.number.fits c.loop-rest.invariant

pub bounds-digits-at-2 : goal.bounds-digits-at-2
bounds-digits-at-2 c = omega (arith, c.loop-rest.invariant.at_le)

pub returns-clause-within : goal.returns-clause-within
returns-clause-within c = omega (arith, c.loop-rest.invariant.at_le)

pub returns-clause-made : goal.returns-clause-made
returns-clause-made c =
    let m = c.loop-rest.invariant in rw c.digit_byte-2.ensures (make_first (omega (arith, c.loop-rest-test.false)) (room c.ranges.number.fits m) m)
