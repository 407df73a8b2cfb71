-- 0 for a button; else the difference of the offsets, reduced by the common divisor.
use mathlib.Core.Path.{ap, ap₂, ◌∙◌}
use Prim.Native.Nat.{ℕ}
use lib.IntN.{ℤ, pos, ◌-ℤ◌}
use borrow.Author.Rules.{sfits_of}
use mir.Syntax.{w64}
use mir.Facts.{to_z-of_z}
use Rattle.model.specs.Patterns.{reduced, distance}
use Rattle.distance.specs.Passing.{divisor_pos}
use Rattle.distance.proofs.distance_of.Goals as goal

pub returns-then-is_button : goal.returns-then-is_button
unfolding distance
returns-then-is_button c = rw (← c.is_button.ensures, c.if-is_button.true)

pub reduced-requires : goal.reduced-requires
reduced-requires c =
    rw c.common_divisor-g.ensures (divisor_pos c.args.one c.args.other c.requires.0 c.requires.1)

pub returns : goal.returns
unfolding distance
returns c =
    c.reduced.ensures
    ∙ ap (λ (z : ℤ). reduced z c.common_divisor-g.result)
    (to_z-of_z {w = w64} {z = c.difference.result} (sfits_of c.difference.type_inv) ∙ c.difference.ensures
    ∙ ap₂ (λ (a b : ℕ). pos a -ℤ pos b) c.offset_of.ensures c.offset_of-2.ensures)
    ∙ rw (c.common_divisor-g.ensures, ← c.is_button.ensures, c.if-is_button.false)
