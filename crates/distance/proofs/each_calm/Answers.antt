-- The patterns of the periodic tasks that the loop has passed are calm.
use mathlib.Core.Path.{sym, subst, ◌∙◌}
use native.Mathlib.Omega.{arith}
use lib.Dec.{T}
use Rattle.values.specs.declared.Table.{Table}
use Rattle.counting.specs.Count.{all_pass, one_fails}
use Rattle.distance.proofs.each_calm.Invariants.{stands}
use Rattle.distance.proofs.each_calm.Goals.{In-loop-i}
use Rattle.distance.proofs.each_calm.Goals as goal

abbrev table : In-loop-i → Table
table c = c.args.t

pub returns-then-not-pattern_calm : goal.returns-then-not-pattern_calm
returns-then-not-pattern_calm c =
    one_fails (stands (table (goal.at.returns-then-not-pattern_calm c).In-loop-i)) (table (goal.at.returns-then-not-pattern_calm c).In-loop-i).count
    c.loop-i.i c.loop-i-test.true
    (subst T (sym c.pattern_calm.ensures ∙ c.if-not-pattern_calm.true))

pub returns : goal.returns
returns c =
    all_pass (stands c.args.t) c.args.t.count (λ i l. c.loop-i.invariant.2 i (omega (arith, c.loop-i-test.false)))
