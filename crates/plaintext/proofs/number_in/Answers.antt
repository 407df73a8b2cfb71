-- Every byte has to be a digit.
use Rattle.std.proofs.Common.{◌≡◌, sym, ◌∙◌, rules}
use borrow.Author.Tests.{tests}
use Rattle.std.proofs.lemmas.Iterator.{YieldsList-from_slice}
use Rattle.std.proofs.lemmas.Iterator.Search.{all_from_yields_List}
use Rattle.model.specs.PlainText.{is_digit, all_digits}
use Rattle.plaintext.specs.Numbers.{all_digits_is, no_number}
use Rattle.plaintext.proofs.number_in.Goals.{After-all}
use Rattle.plaintext.proofs.number_in.Goals as goal

tested : (c : After-all) → c.all.result ≡ all_digits c.args.word.now
tested c =
    all_from_yields_List is_digit _ _ c.all.result c.all.ensures.ran (YieldsList-from_slice c.args.word.now cc)
    (λ x b q k. search (rules, tests)) ∙ all_digits_is c.args.word.now

pub returns-then-not-all : goal.returns-then-not-all
returns-then-not-all c = no_number _ _ _ (sym (tested (goal.at.returns-then-not-all c).After-all) ∙ c.if-not-all.true)

pub value_of-requires-clause-word_value : goal.value_of-requires-clause-word_value
value_of-requires-clause-word_value c =
    sym (tested (goal.at.value_of-requires-clause-word_value c).After-all) ∙ c.if-not-all.false
