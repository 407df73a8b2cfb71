-- A refusal, or the permitted answer.
use Rattle.std.specs.Prelude.{Ok}
use mathlib.Core.Path.{◌≡◌, sym, ap, ◌∙◌}
use mathlib.Core.Bool.{Bool}
use Rattle.model.specs.Tasks.{judged}
use Rattle.model.specs.Report.{outcome_told}
use Rattle.wellformed.specs.WellFormed.{periodic_iff, well_formed}
use Rattle.checkcalls.specs.Outcomes.{refused_by, answered}
use Rattle.checkcalls.proofs.check_table.Given.{Over}
use Rattle.checkcalls.proofs.check_table.Goals.{In-Ok}
use Rattle.checkcalls.proofs.check_table.Goals as goal

-- The table is well-formed.
well : (g : Over) (c : In-Ok g) → judged c.args.t ≡ Ok c.in-Ok.m
well g c = sym c.judge.ensures ∙ c.in-Ok.is

pub passes-requires : goal.passes-requires
passes-requires g c = ((periodic_iff _ _).0 (well g (goal.at.passes-requires g c).In-Ok)).0

pub tested-requires : goal.tested-requires
tested-requires g c = well g (goal.at.tested-requires g c).In-Ok

pub returns-in-Err : goal.returns-in-Err
returns-in-Err g c = record {
  table_found = rw (← c.judge.ensures, c.in-Err.is) c.refuse.ensures.result_value;
  tasks_le_task_limit = c.refuse.ensures.tasks_le_task_limit;
}

pub returns-in-Ok : goal.returns-in-Ok
returns-in-Ok g c =
    let a = c.tested.result in
    let passed = ap (λ (q : Bool). outcome_told refused_by answered c.args.t.count q a a.outcome) c.passes.ensures in record {
      table_found = rw (← c.judge.ensures, c.in-Ok.is) (a, c.tested.ensures, passed);
      tasks_le_task_limit = (well_formed _ _ (well g (goal.at.returns-in-Ok g c).In-Ok)).ranged.few;
    }
