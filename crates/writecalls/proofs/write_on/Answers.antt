-- The rows decide first.
use mathlib.Core.Path.{sym, ◌∙◌}
use borrow.Author.Tests.{lt-ltb, le-ltb}
use Rattle.writecalls.proofs.write_on.Goals as goal

pub returns-then-broken : goal.returns-then-broken
returns-then-broken c =
    rw (sym c.broken.ensures ∙ c.if-broken.true, c.refusal_at.ensures)

pub returns-then-stranger-count : goal.returns-then-stranger-count
returns-then-stranger-count c =
    rw (
      sym c.broken.ensures ∙ c.if-broken.false,
      ← c.first_stranger-stranger.ensures,
      ← c.count.ensures,
      lt-ltb _ _ c.if-stranger-count.true,
      c.refusal_at-then-stranger-count.ensures,
    )

pub returns : goal.returns
returns c =
    rw (
      sym c.broken.ensures ∙ c.if-broken.false,
      ← c.first_stranger-stranger.ensures,
      ← c.count.ensures,
      le-ltb _ _ c.if-stranger-count.false,
      ← c.table_in.ensures,
      ← c.write.ensures,
    )
