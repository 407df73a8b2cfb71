-- The loop has unpacked the tasks that it has passed.
use mathlib.Core.Path.{◌≡◌, ap, ◌∙◌}
use Prim.Native.Nat.{ℕ, ◌+◌, ◌*◌, ◌<◌}
use native.Mathlib.Omega.{arith}
use Rattle.std.proofs.lemmas.List.{get_or-take}
use Rattle.values.specs.declared.Task.{Task}
use Rattle.model.specs.Tasks.{no_task}
use Rattle.counting.specs.Fill.{fill_none, fill_put}
use Rattle.leaps.specs.Entry.{places, span, mark_of}
use Rattle.leaps.proofs.Entries.{mark_small}
use Rattle.leaps.specs.Columns.{columns_of}
use Rattle.leaps.proofs.unpack.Goals.{After-from}
use Rattle.leaps.proofs.unpack.Goals as goal

-- The task's mark.
own : (c : After-from) → c.from.result * places + c.loop-i.i ≡ mark_of c.args.t c.loop-i.i
own c =
    ap (λ (x : ℕ). x * places + c.loop-i.i)
    (c.from.ensures ∙ c.rank_of.ensures ∙ ap (λ (k : Task). k.period) (get_or-take c.args.t.count c.args.t.tasks c.loop-i.i no_task (omega arith)))

small : (c : After-from) → c.from.result * places + c.loop-i.i < span
small c = omega (arith, own c, mark_small c.args.t c.requires c.loop-i.i (omega arith))

pub loop-i-init : goal.loop-i-init
loop-i-init c = (fill_none _ _, fill_none _ _, fill_none _ _, fill_none _ _)

pub loop-i-preserved : goal.loop-i-preserved
loop-i-preserved c =
    let v = c.loop-i.invariant in
    let at = (goal.at.loop-i-preserved c).After-from in
    let e = get_or-take c.args.t.count c.args.t.tasks c.loop-i.i no_task (omega arith) in (
      fill_put _ _ _ v.0 (omega (arith, c.entry.ensures, rw e at c.from-in-loop-i.ensures, own at)),
      fill_put _ _ _ v.1 (rw e at c.from-in-loop-i-2.ensures),
      fill_put _ _ _ v.2 (omega (arith, c.entry-in-loop-i.ensures, rw e at c.from-in-loop-i-3.ensures, own at)),
      fill_put _ _ _ v.3 (own at),
    )

pub returns : goal.returns
unfolding columns_of
returns c =
    let v = c.loop-i.invariant in
    let e : c.loop-i.i ≡ c.args.t.count = omega arith in
    cc
