-- The loop has unpacked the tasks that it has passed.
use Rattle.std.proofs.Common.{◌≡◌, refl, ap, ◌∙◌, ◌-◌, ◌<◌, arith, rules, take, length, get_or}
use Rattle.std.proofs.lemmas.List.{get_or-take, length-take}
use Rattle.values.specs.declared.Task.{Task}
use Rattle.model.specs.Limits.{task_limit}
use Rattle.model.specs.Tasks.{task, no_task}
use Rattle.counting.specs.Fill.{fill_none, fill_put}
use Rattle.slots.specs.Columns.{columns_of}
use Rattle.slots.proofs.unpack.Goals.{In-loop-i}
use Rattle.slots.proofs.unpack.Goals as goal

pub loop-i-init : goal.loop-i-init
loop-i-init c = record { periods = fill_none _ _; costs = fill_none _ _; slacks = fill_none _ _; ranks = fill_none _ _ }

-- The task of this turn.
below : (c : In-loop-i) → c.loop-i.i < c.args.t.count
below c = omega (arith, length-take c.args.t.count c.args.t.tasks)

here : (c : In-loop-i) → get_or (take c.args.t.count c.args.t.tasks) c.loop-i.i no_task ≡ task c.args.t c.loop-i.i
here c = get_or-take _ _ _ _ (below c)

pub rank_of-requires : goal.rank_of-requires
rank_of-requires c =
    let i = (goal.at.rank_of-requires c).In-loop-i in
    rw (here i) (c.requires.each c.loop-i.i (below i)).period_le

pub loop-i-preserved : goal.loop-i-preserved
loop-i-preserved c =
    let v = c.loop-i.invariant in
    let e = here (goal.at.loop-i-preserved c).In-loop-i in
    record {
      periods = fill_put _ _ _ v.periods (ap (λ (k : Task). k.period) e);
      costs = fill_put _ _ _ v.costs (ap (λ (k : Task). k.cost) e);
      slacks = fill_put _ _ _ v.slacks (c.saturating_sub.ensures ∙ ap (λ (k : Task). k.period - k.deadline) e);
      ranks = fill_put _ _ _ v.ranks (c.rank_of.ensures ∙ ap (λ (k : Task). k.period) e);
    }

pub returns : goal.returns
unfolding columns_of
returns c =
    let v = c.loop-i.invariant in
    let whole : length c.args.t.tasks ≡ task_limit = search rules in
    let all = length-take c.args.t.count c.args.t.tasks in
    let few = c.requires.few in
    let e : c.loop-i.i ≡ c.args.t.count = omega (arith, all, few) in
    record { tasks = refl; periods = v.periods ∙ rw e; costs = v.costs ∙ rw e; slacks = v.slacks ∙ rw e; ranks = v.ranks ∙ rw e }
