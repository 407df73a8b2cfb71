-- The first search ends where the word begins, the second where it ends.
use Rattle.std.proofs.Common.{◌≡◌, not, rules, arith}
use borrow.Author.Rules.{part_to_end}
use Rattle.model.specs.PlainText.{is_gap}
use Rattle.pieces.specs.Marks.{length_to}
use Rattle.plaintext.specs.Words.{word_and_rest, no_words}
use Rattle.plaintext.proofs.next_word.Goals.{After-find-from}
use Rattle.plaintext.proofs.next_word.Goals as goal

begins : (c : After-find-from) → c.find-from.result ≡ length_to (λ x. not (is_gap x)) c.args.s.now
begins c = c.find-from.ensures.value (λ x. not (is_gap x)) (λ x answer k. search rules)

pub returns-then-from-s : goal.returns-then-from-s
returns-then-from-s c = no_words _ (omega (arith, begins (goal.at.returns-then-from-s c).After-find-from))

pub returns : goal.returns
returns c =
    let ends = c.find.ensures.value is_gap (λ x answer k. search rules) in
    rw (c.split_at.ensures.front, c.split_at.ensures.back, part_to_end)
    (word_and_rest c.args.s.now (begins (goal.at.returns c).After-find-from) (omega arith) (simp part_to_end at ends))
