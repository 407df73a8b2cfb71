-- The digits passed have this value, and it is not too large.
use Rattle.std.proofs.Common.{suc, ◌*◌, ◌+◌, ◌-◌, ◌∙◌, get_or, drop, arith}
use lib.ListN.{drop_of_length-le}
use Rattle.model.specs.PlainText.{value_after}
use Rattle.plaintext.specs.Numbers.{digit_at, next_digit, read_number, too_large}
use Rattle.plaintext.proofs.value_of.Goals as goal

pub digit_of-digit-requires : goal.digit_of-digit-requires
digit_of-digit-requires c = digit_at c.args.word.now c.loop-byte.byte-index c.requires.word_value c.loop-byte-test.true

pub returns-then-largest-digit : goal.returns-then-largest-digit
returns-then-largest-digit c =
    let word = c.args.word.now in
    let i = c.loop-byte.byte-index in
    too_large (suc c.args.largest) word (drop (i + 1) word) (10 * c.loop-byte.value + (get_or word i 0 - 48)) _ c.requires.word_value
    (c.loop-byte.invariant.same ∙ next_digit word i c.loop-byte.value c.loop-byte-test.true) (omega (arith, c.digit_of-digit.ensures))

pub loop-byte-preserved : goal.loop-byte-preserved
loop-byte-preserved c =
    let next = next_digit c.args.word.now c.loop-byte.byte-index c.loop-byte.value c.loop-byte-test.true in
    record {
      place = omega arith;
      small = omega (arith, c.digit_of-digit.ensures);
      same = rw c.digit_of-digit.ensures.0 (c.loop-byte.invariant.same ∙ next);
    }

pub returns : goal.returns
unfolding value_after
returns c =
    read_number (suc c.args.largest) c.args.word.now c.loop-byte.value c.requires.word_value
    (c.loop-byte.invariant.same ∙ rw (drop_of_length-le c.args.word.now {i = c.loop-byte.byte-index} (omega arith))) (omega arith)
