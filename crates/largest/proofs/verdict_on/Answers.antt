-- A quick pass, or the permitted answer to a well-formed table, says its verdict.
use mathlib.Core.Path.{◌≡◌, sym, ◌∙◌}
use Prim.Native.Nat.{ℕ}
use native.Mathlib.Omega.{arith}
use Rattle.wellformed.specs.WellFormed.{periodic_iff}
use Rattle.largest.specs.Halving.{says, quick_says}
use Rattle.largest.proofs.verdict_on.Goals as goal

pub passes-requires : goal.passes-requires
passes-requires c = ((periodic_iff c.args.t c.args.m).0 c.requires).0

pub returns-then-passes : goal.returns-then-passes
returns-then-passes c =
    sym (quick_says c.args.t c.args.m c.requires c.args.budget (omega (arith, c.if-m-budget.true))
    (rw (sym c.passes.ensures ∙ c.if-passes.true) tt))

pub returns-in-Err : goal.returns-in-Err
returns-in-Err c =
    let e = says c.args.t c.args.m c.requires c.args.budget c.tested-answer.result c.tested-answer.ensures in
    let z : ◌≡◌ {A = ℕ} 0 1 = cc in
    absurd (omega arith)

pub returns-in-Ok : goal.returns-in-Ok
returns-in-Ok c =
    let e = says c.args.t c.args.m c.requires c.args.budget c.tested-answer.result c.tested-answer.ensures in
    cc
