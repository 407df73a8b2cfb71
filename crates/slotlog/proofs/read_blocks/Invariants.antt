-- What is left is still to be read, and then the piece is.
use Rattle.std.proofs.Common.{◌≡◌, length}
use Rattle.values.specs.declared.Table.{Table}
use Rattle.model.specs.Log.{read_all}
use Rattle.slots.specs.Columns.{Unpacked}
use Rattle.slotlog.specs.State.{log_state_of}
use Rattle.slotlog.specs.Bytes.{Readable}
use Rattle.slotlog.proofs.read_blocks.Given as goal

abbrev pub invariant-loop-rest : goal.invariant-loop-rest
invariant-loop-rest l =
    (t : Table) → Unpacked t l.columns → Readable t (log_state_of l.fn.log)
    → Readable t (log_state_of l.next) × (read_all t (log_state_of l.next) l.rest ≡ read_all t (log_state_of l.fn.log) l.fn.piece)

abbrev pub decreases-loop-rest : goal.decreases-loop-rest
decreases-loop-rest l = length l.rest
