-- Refused as it is, or read.
use Rattle.std.specs.Prelude.{Ok}
use mathlib.Core.Path.{sym, ap, ◌∙◌}
use Rattle.model.specs.Log.{Log, fed}
use Rattle.slotlog.proofs.Log.feed.Goals as goal

pub read_all-requires : goal.read_all-requires
read_all-requires c = sym c.admission.ensures ∙ c.in-Ok.is

pub returns-in-Err : goal.returns-in-Err
unfolding fed
returns-in-Err c = rw (← c.admission.ensures, c.in-Err.is) c.handed_back.ensures

pub returns-in-Ok : goal.returns-in-Ok
unfolding fed
returns-in-Ok c =
    rw (← c.admission.ensures, c.in-Ok.is)
    (ap (λ (l : Log). record { admission = Ok tt; log = l }) c.read_all.ensures)
