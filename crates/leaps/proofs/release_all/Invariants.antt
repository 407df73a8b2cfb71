-- Some jobs of the slot are released; each turn releases the next one.
use mathlib.Core.Path.{◌≡◌}
use Prim.Native.Nat.{◌+◌, ◌-◌, ◌*◌}
use Rattle.slots.specs.Slot.{at}
use Rattle.leaps.specs.Entry.{span}
use Rattle.leaps.proofs.Releasing.{Releasing}
use Rattle.leaps.proofs.release_all.Given as goal

abbrev pub invariant-loop-kept : goal.invariant-loop-kept
invariant-loop-kept l =
    Releasing l.columns.table l.at l.kept.releases.entries l.kept.ready.entries l.kept.left l.kept.ready.len
    × (l.kept.releases.len ≡ l.columns.table.count) × (l.kept.worst ≡ l.initial.kept.worst)

abbrev pub decreases-loop-kept : goal.decreases-loop-kept
decreases-loop-kept l = (l.at + 1) * span - at l.kept.releases.entries (l.kept.releases.len - 1)
