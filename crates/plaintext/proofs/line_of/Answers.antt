-- The first word decides.
use Rattle.std.proofs.Common.{◌≡◌, List, ℕ, Bool, eqb, sym, ◌∙◌}
use lib.Pointwise.{pointwise}
use Rattle.model.specs.Notation.{text}
use Rattle.model.specs.PlainText.{same, line_of}
use Rattle.pieces.specs.Same.{same_is}
use Rattle.plaintext.proofs.line_of.Goals as goal

-- A word that was compared.
compared : (w v : List ℕ) {u : List ℕ} {r b : Bool} → u ≡ v → r ≡ pointwise eqb w u → r ≡ b → same w v ≡ b
compared w v q e f = same_is w v ∙ rw (← q) (sym e ∙ f)

pub returns-in_default : goal.returns-in_default
unfolding line_of
returns-in_default c = rw c.in_default.ensures

pub returns-then-eq : goal.returns-then-eq
unfolding line_of text
returns-then-eq c = rw (c.in-Some.ensures, compared _ _ c.as_slice.ensures c.eq.ensures c.if-eq.true) c.budget_line.ensures

pub returns-then-eq-2 : goal.returns-then-eq-2
unfolding line_of text
returns-then-eq-2 c =
    let other = compared _ _ c.as_slice.ensures c.eq.ensures c.if-eq.false in
    rw (c.in-Some.ensures, other, compared _ _ c.as_slice-2.ensures c.eq-2.ensures c.if-eq-2.true) c.task_line.ensures

pub returns-then-eq-3 : goal.returns-then-eq-3
unfolding line_of text
returns-then-eq-3 c =
    rw (
      c.in-Some.ensures,
      compared _ _ c.as_slice.ensures c.eq.ensures c.if-eq.false,
      compared _ _ c.as_slice-2.ensures c.eq-2.ensures c.if-eq-2.false,
      compared _ _ c.as_slice-3.ensures c.eq-3.ensures c.if-eq-3.true,
    ) c.button_line.ensures

pub returns : goal.returns
unfolding line_of text
returns c =
    rw (
      c.in-Some.ensures,
      compared _ _ c.as_slice.ensures c.eq.ensures c.if-eq.false,
      compared _ _ c.as_slice-2.ensures c.eq-2.ensures c.if-eq-2.false,
      compared _ _ c.as_slice-3.ensures c.eq-3.ensures c.if-eq-3.false,
    )
