-- What is left has the line exactly if the text has it.
use Rattle.std.proofs.Common.{◌≡◌, ◌<◌, Bool, sym, ◌∙◌, length, take, length-drop, arith, rules}
use borrow.Author.Rules.{part_to_end}
use Rattle.model.specs.PlainText.{is_line_feed, same}
use Rattle.pieces.specs.Marks.{length_to}
use Rattle.pieces.specs.Same.{same_is}
use Rattle.pieces.specs.HasLine.{first_line_is, no_line_left, later_lines}
use Rattle.pieces.proofs.has_line.Goals.{After-find-end, After-eq}
use Rattle.pieces.proofs.has_line.Goals as goal

-- The line is found by the byte that ends it.
ended : (c : After-find-end) → c.find-end.result ≡ length_to is_line_feed c.loop-line.left.now
ended c = c.find-end.ensures.value is_line_feed (λ x answer k. search rules)

-- The line that was compared.
compared : (c : After-eq) (b : Bool) → c.eq.result ≡ b → same (take c.find-end.result c.loop-line.left.now) c.args.line.now ≡ b
compared c b e = same_is _ _ ∙ sym c.eq.ensures ∙ e

pub returns-then-eq : goal.returns-then-eq
returns-then-eq c =
    let place = goal.at.returns-then-eq c in
    sym (sym c.loop-line.invariant.1 ∙ first_line_is c.loop-line.left.now c.args.line.now (ended place.After-find-end)
    (compared place.After-eq _ c.if-eq.true))

pub returns-then-end-left : goal.returns-then-end-left
returns-then-end-left c =
    let place = goal.at.returns-then-end-left c in
    sym (sym c.loop-line.invariant.1 ∙ no_line_left c.loop-line.left.now c.args.line.now (ended place.After-find-end)
    (compared place.After-eq _ c.if-eq.false) (omega arith))

pub loop-line-preserved : goal.loop-line-preserved
loop-line-preserved c =
    let place = goal.at.loop-line-preserved c in
    let left = c.loop-line.left.now in
    let inside : c.find-end.result < length left = omega arith in
    let rest = later_lines left c.args.line.now (ended place.After-find-end) (compared place.After-eq _ c.if-eq.false) inside in
    rw part_to_end (simp length-drop (omega arith), sym rest ∙ c.loop-line.invariant.1)
