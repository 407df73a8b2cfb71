-- A byte that makes no slot's record whole is read as the code reads it.
use Rattle.std.specs.Prelude.{◌≡◌, false, ℕ}
use Rattle.values.specs.declared.Table.{Table}
use Rattle.model.specs.Dispatcher.{State}
use Rattle.model.specs.Log.{read_byte}
use Rattle.slotlog.specs.declared.Reading.{Reading}
use Rattle.slotlog.specs.State.{joined}
use Rattle.slotlog.specs.Bytes.{ends_slot, other_read, other_is}

pub other_byte : (t : Table) (d : State) (r : Reading) (b : ℕ) → ends_slot r.found r.bytes r.opened b ≡ false
    → joined d (other_read r b r.found) ≡ read_byte t (joined d r) b
unfolding read_byte
other_byte t d r b e = other_is t d r.done r.slots r.bytes b r.opened r.found e
