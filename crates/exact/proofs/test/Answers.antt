-- A refusal, or the answer to a table that is judged well-formed.
use mathlib.Core.Path.{sym, ◌∙◌}
use Rattle.exact.specs.Answers.{permitted_refused}
use Rattle.exact.proofs.test.Goals as goal

pub tested-requires : goal.tested-requires
tested-requires g c = sym c.judge.ensures ∙ c.in-Ok.is

pub returns-in-Err : goal.returns-in-Err
returns-in-Err g c = rw c.refuse.ensures (permitted_refused _ _ (sym c.judge.ensures ∙ c.in-Err.is) _)
