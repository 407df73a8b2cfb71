-- A refusal's line, or the report on the permitted answer.
use Rattle.std.specs.Prelude.{Ok}
use mathlib.Core.Path.{◌≡◌, refl, sym, ap, ◌∙◌}
use mathlib.Core.Bool.{Bool}
use borrow.Author.Rules.{rules}
use Rattle.model.specs.Tasks.{judged}
use Rattle.model.specs.Report.{report_of, outcome_told, refusal_line}
use Rattle.wellformed.specs.WellFormed.{periodic_iff, well_formed}
use Rattle.judge.proofs.judge_table.Goals.{In-Ok}
use Rattle.judge.proofs.judge_table.Goals as goal

-- The table is well-formed.
well : (c : In-Ok) → judged c.args.t ≡ Ok c.in-Ok.m
well c = sym c.judge.ensures ∙ c.in-Ok.is

pub tested-answer-requires : goal.tested-answer-requires
tested-answer-requires c = well (goal.at.tested-answer-requires c).In-Ok

pub passes-quick-requires : goal.passes-quick-requires
passes-quick-requires c = ((periodic_iff _ _).0 (well (goal.at.passes-quick-requires c).In-Ok)).0

pub write_outcome-requires-clause-tasks_le_task_limit : goal.write_outcome-requires-clause-tasks_le_task_limit
write_outcome-requires-clause-tasks_le_task_limit c =
    (well_formed _ _ (well (goal.at.write_outcome-requires-clause-tasks_le_task_limit c).In-Ok)).ranged.few

pub returns-in-Err : goal.returns-in-Err
returns-in-Err c =
    rw (← c.judge.ensures, c.in-Err.is) (_, c.write_refusal.ensures.buffer_after, refl)

pub returns-in-Ok : goal.returns-in-Ok
returns-in-Ok c =
    let a = c.tested-answer.result in
    let passed = ap (λ (q : Bool). outcome_told refusal_line report_of c.args.t.count q a a.outcome) c.passes-quick.ensures in
    rw (← c.judge.ensures, c.in-Ok.is) (_, c.write_outcome.ensures.buffer_after, (a, c.tested-answer.ensures, passed))
