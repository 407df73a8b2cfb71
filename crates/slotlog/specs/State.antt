-- The values of src/lib.rt as the model's.
use Rattle.std.specs.Prelude.{◌≡◌}
use Rattle.std.proofs.Common.{ap}
use Rattle.model.specs.Dispatcher.{State}
use Rattle.model.specs.Log.{Log as LogState, Fed as FedState}
use Rattle.slotlog.specs.declared.Reading.{Reading}
use Rattle.slotlog.specs.declared.Log.{Log}
use Rattle.slotlog.specs.declared.Fed.{Fed}

-- A dispatcher's state, and what is kept beside it.
abbrev pub joined : State → Reading → LogState
joined d r = record { state = d; opened = r.opened; done = r.done; slots = r.slots; bytes = r.bytes; found = r.found }

abbrev pub log_state_of : Log → LogState
log_state_of l = joined l.state l.reading

abbrev pub fed_of : Fed → FedState
fed_of r = record { admission = r.admission; log = log_state_of r.log }

-- Two values that are the same in the model are the same.
pub one_fed : (a b : Fed) → fed_of a ≡ fed_of b → a ≡ b
one_fed a b e =
    ap (λ (x : FedState). record {
      admission = x.admission;
      log = record {
        state = x.log.state;
        reading = record {
          opened = x.log.opened;
          done = x.log.done;
          slots = x.log.slots;
          bytes = x.log.bytes;
          found = x.log.found;
        };
      };
    }) e
