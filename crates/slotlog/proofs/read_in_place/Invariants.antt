-- The bytes below `i` are read.
use Rattle.std.proofs.Common.{◌≡◌, length}
use Rattle.values.specs.declared.Table.{Table}
use Rattle.slots.specs.Columns.{Unpacked}
use Rattle.slotlog.specs.State.{joined, log_state_of}
use Rattle.slotlog.specs.Bytes.{Readable, ReadTo}
use Rattle.slotlog.proofs.read_in_place.Given as goal

abbrev pub invariant-loop-i : goal.invariant-loop-i
invariant-loop-i l =
    (l.at ≡ length l.block)
    × ((t : Table) → Unpacked t l.columns → Readable t (log_state_of l.fn.log) → ReadTo t (log_state_of l.fn.log) l.block l.i
    (joined (record { wait = l.wait; left = l.left; last = l.last; given = l.given; empty = l.empty }) l.reading))
