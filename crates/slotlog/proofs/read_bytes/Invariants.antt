-- The bytes before this one are read.
use Rattle.values.specs.declared.Table.{Table}
use Rattle.slots.specs.Columns.{Unpacked}
use Rattle.slotlog.specs.State.{joined, log_state_of}
use Rattle.slotlog.specs.Bytes.{Readable, ReadTo}
use Rattle.slotlog.proofs.read_bytes.Given as goal

abbrev pub invariant-loop-byte : goal.invariant-loop-byte
invariant-loop-byte l =
    (t : Table) → Unpacked t l.columns → Readable t (log_state_of l.fn.log)
    → ReadTo t (log_state_of l.fn.log) l.bytes l.byte-index
    (joined (record { wait = l.wait; left = l.left; last = l.last; given = l.given; empty = l.empty }) l.reading)
