-- The values of src/lib.rt as the model's.
use Rattle.std.specs.Prelude.{◌≡◌}
use Rattle.std.proofs.Common.{ap}
use Rattle.model.specs.Dispatcher.{Started as StartedState, Stepped as SteppedState}
use Rattle.dispatch.specs.declared.Started.{Started}
use Rattle.dispatch.specs.declared.Stepped.{Stepped}

abbrev pub started_of : Started → StartedState
started_of r = record { admission = r.admission; state = r.dispatcher.state }

abbrev pub stepped_of : Stepped → SteppedState
stepped_of r = record { answer = r.answer; state = r.next.state }

-- Two values that are the same in the model are the same.
pub one_started : (a b : Started) → started_of a ≡ started_of b → a ≡ b
one_started a b e = ap (λ (x : StartedState). record { admission = x.admission; dispatcher = record { state = x.state } }) e

pub one_stepped : (a b : Stepped) → stepped_of a ≡ stepped_of b → a ≡ b
one_stepped a b e = ap (λ (x : SteppedState). record { answer = x.answer; next = record { state = x.state } }) e
