-- Refused as it is, or what was found at the end.
use Rattle.std.specs.Prelude.{Ok}
use mathlib.Core.Path.{sym, ap, ◌∙◌}
use Rattle.model.specs.Log.{Log, log_finished}
use Rattle.slotlog.specs.Fits.{Sized}
use Rattle.slotlog.specs.State.{log_state_of}
use Rattle.slotlog.specs.Bytes.{readable}
use borrow.Author.Rules.{rules}
use Rattle.slotlog.proofs.Log.finish.Goals.{Start}
use Rattle.slotlog.proofs.Log.finish.Goals as goal

-- The arrays of the state have their length.
sizes : (c : Start) → Sized c.args.self.state
sizes c = record { waits = search rules; lefts = search rules; gives = search rules }

pub close-requires : goal.close-requires
close-requires c =
    (readable c.args.t (log_state_of c.args.self) (sizes (goal.at.close-requires c).Start)
    (sym c.admission.ensures ∙ c.in-Ok.is)).fits.bytes_le

pub returns-in-Err : goal.returns-in-Err
unfolding log_finished
returns-in-Err c = rw (← c.admission.ensures, c.in-Err.is) c.handed_back.ensures

pub returns-in-Ok : goal.returns-in-Ok
unfolding log_finished
returns-in-Ok c =
    rw (← c.admission.ensures, c.in-Ok.is)
    (ap (λ (l : Log). record { admission = Ok tt; log = l }) c.close.ensures)
