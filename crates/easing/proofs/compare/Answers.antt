-- Each turn keeps what the search has found.
use mathlib.Core.Path.{◌≡◌, refl, sym}
use Prim.Native.Nat.{◌+◌, ◌<◌}
use native.Mathlib.Omega.{arith}
use Rattle.std.proofs.lemmas.List.{get_or-take}
use Rattle.model.specs.Tasks.{task, no_task}
use Rattle.model.specs.Easing.{kept_as}
use Rattle.easing.proofs.Found.{some_found, none_found}
use Rattle.easing.specs.Searching.{begin, next_is, kept_lt, turn, ended_none, ended_all}
use Rattle.easing.proofs.compare.Goals.{In-Some}
use Rattle.easing.proofs.compare.Goals as goal

-- What the call found is what task i is found to be.
found : (c : In-Some) → (c.loop-i.from + c.in-Some.passed ≡ kept_as c.args.old c.args.new c.loop-i.i) × (c.loop-i.from + c.in-Some.passed < c.args.old.count)
found c =
    let e = rw (get_or-take c.args.new.count c.args.new.tasks c.loop-i.i no_task (omega arith)) at c.next_eased.ensures in
    let (k, l) = some_found c.args.old (task c.args.new c.loop-i.i) c.loop-i.from (omega arith) c.loop-i.invariant.within e c.in-Some.is in
    (next_is c.args.old c.args.new c.loop-i.invariant k, l)

pub loop-i-init : goal.loop-i-init
loop-i-init c = begin c.args.old c.args.new

pub returns-in_default : goal.returns-in_default
returns-in_default c =
    let e = rw (get_or-take c.args.new.count c.args.new.tasks c.loop-i.i no_task (omega arith)) at c.next_eased.ensures in
    sym (ended_none c.args.old c.args.new c.loop-i.invariant (next_is c.args.old c.args.new c.loop-i.invariant refl) (omega arith)
    (none_found c.args.old (task c.args.new c.loop-i.i) c.loop-i.from (omega arith) c.loop-i.invariant.within e c.in_default.is))

pub with_task-kept-requires : goal.with_task-kept-requires
with_task-kept-requires c =
    let (k, l) = found (goal.at.with_task-kept-requires c).In-Some in
    (omega arith, kept_lt c.args.old c.args.new c.loop-i.invariant k (omega arith))

pub loop-i-preserved : goal.loop-i-preserved
loop-i-preserved c =
    let (k, l) = found (goal.at.loop-i-preserved c).In-Some in
    turn c.args.old c.args.new c.loop-i.invariant k l c.with_task-kept.ensures (omega arith)

pub returns : goal.returns
returns c = sym (ended_all c.args.old c.args.new c.loop-i.invariant (omega arith))
