-- A refusal, or what the table passes.
use mathlib.Core.Path.{sym, ◌∙◌}
use Rattle.model.specs.Patterns.{quick_answer}
use Rattle.wellformed.specs.WellFormed.{periodic_iff}
use Rattle.quick.proofs.test.Goals as goal

pub passes-requires : goal.passes-requires
passes-requires c = ((periodic_iff _ _).0 (sym c.judge.ensures ∙ c.in-Ok.is)).0

pub returns-in-Err : goal.returns-in-Err
unfolding quick_answer
returns-in-Err c = rw (← c.judge.ensures, c.in-Err.is)

pub returns-then-passes : goal.returns-then-passes
unfolding quick_answer
returns-then-passes c =
    rw (← c.judge.ensures, c.in-Ok.is, ← c.passes.ensures, c.if-passes.true)

pub returns-else-passes : goal.returns-else-passes
unfolding quick_answer
returns-else-passes c =
    rw (← c.judge.ensures, c.in-Ok.is, ← c.passes.ensures, c.if-passes.false)
