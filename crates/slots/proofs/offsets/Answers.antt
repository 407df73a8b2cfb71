-- The loop has the offsets of the tasks that it has passed.
use Rattle.std.proofs.Common.{◌≡◌, ◌<◌, ap, ◌∙◌, arith, rules, length}
use Rattle.std.proofs.lemmas.List.{get_or-take, length-take}
use Rattle.model.specs.Limits.{task_limit}
use Rattle.model.specs.Tasks.{offset}
use Rattle.model.specs.Dispatcher.{start_of}
use Rattle.counting.specs.Fill.{fill_none, fill_put, fill_done}
use Rattle.slots.proofs.offsets.Goals as goal

pub loop-i-init : goal.loop-i-init
loop-i-init c = fill_none _ _

pub loop-i-preserved : goal.loop-i-preserved
loop-i-preserved c =
    let below : c.loop-i.i < c.args.t.count = omega (arith, length-take c.args.t.count c.args.t.tasks) in
    fill_put _ _ _ c.loop-i.invariant (c.offset_of.ensures ∙ ap offset (get_or-take _ _ _ _ below))

pub returns : goal.returns
unfolding start_of
returns c =
    let whole : length c.args.t.tasks ≡ task_limit = search rules in
    let all = length-take c.args.t.count c.args.t.tasks in
    fill_done _ _ c.loop-i.i c.args.t.count (omega (arith, all)) (omega (arith, all, c.requires)) c.loop-i.invariant
