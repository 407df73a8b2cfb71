-- The first releases of the tasks below i are in the queue.
use mathlib.Core.Path.{◌≡◌}
use native.Mathlib.Omega.{arith}
use Rattle.std.proofs.lemmas.List.{get_or-take}
use Rattle.model.specs.Tasks.{no_task}
use Rattle.leaps.proofs.Firsts.{firsts_more}
use Rattle.leaps.proofs.first_releases.Goals as goal

pub loop-i-preserved : goal.loop-i-preserved
loop-i-preserved c =
    let v = c.loop-i.invariant in (
      rw (
        c.insert.ensures.entries,
        v.1,
        c.entry.ensures,
        c.from.ensures,
        c.offset_of.ensures,
        get_or-take c.args.t.count c.args.t.tasks c.loop-i.i no_task (omega arith),
        c.requires.marked c.loop-i.i (omega arith),
      ) (firsts_more _ c.requires.ranged _ (omega arith) v.0),
      omega (arith, c.insert.ensures.len, v.1),
    )

pub returns : goal.returns
returns c = let v = c.loop-i.invariant in let e : c.loop-i.i ≡ c.args.t.count = omega arith in record { coming = rw e at v.0; len = omega (arith, v.1) }
