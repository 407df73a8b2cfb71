-- The task stands in the table.
use mathlib.Core.Path.{sym, ap, subst}
use Rattle.model.specs.Tasks.{task}
use Rattle.wellformed.specs.Ranges.{InRange}
use Rattle.changes.proofs.changed_task.Goals as goal

pub returns : goal.returns
returns c =
    let same = ap (task c.args.t) c.task_of.ensures in
    record { value = same; in_range = subst InRange (sym same) (c.requires.ranged.each _ c.requires.change_bound) }
