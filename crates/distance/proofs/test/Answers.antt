-- A refusal, an overload, or what the patterns tell.
use Rattle.std.specs.Prelude.{Ok}
use mathlib.Core.Path.{◌≡◌, sym, ◌∙◌}
use Rattle.model.specs.Tasks.{judged_mixed}
use Rattle.model.specs.Patterns.{distance_pass, distance_answer}
use Rattle.distance.specs.Passing.{is_heavy, is_light}
use Rattle.distance.proofs.test.Goals.{In-Ok}
use Rattle.distance.proofs.test.Goals as goal

-- The table is well-formed where its measures are looked at.
well : (c : In-Ok) → judged_mixed c.args.t ≡ Ok c.in-Ok.m
well c = sym c.judge_mixed.ensures ∙ c.in-Ok.is

pub returns-in-Err : goal.returns-in-Err
unfolding distance_answer
returns-in-Err c = rw (← c.judge_mixed.ensures, c.in-Err.is)

pub returns-then-m : goal.returns-then-m
unfolding distance_answer
returns-then-m c =
    rw (well (goal.at.returns-then-m c).In-Ok, is_heavy _ (well (goal.at.returns-then-m c).In-Ok) c.if-m.true)

pub returns-then-all_calm : goal.returns-then-all_calm
unfolding distance_answer distance_pass
returns-then-all_calm c =
    rw (
      well (goal.at.returns-then-all_calm c).In-Ok,
      is_light _ (well (goal.at.returns-then-all_calm c).In-Ok) c.if-m.false,
      ←
          c.all_calm.ensures,
      c.if-all_calm.true,
    )

pub returns-else-all_calm : goal.returns-else-all_calm
unfolding distance_answer distance_pass
returns-else-all_calm c =
    rw (
      well (goal.at.returns-else-all_calm c).In-Ok,
      is_light _ (well (goal.at.returns-else-all_calm c).In-Ok) c.if-m.false,
      ←
          c.all_calm.ensures,
      c.if-all_calm.false,
    )
