-- The values of src/lib.rt as the model's.
use Rattle.std.specs.Prelude.{◌≡◌}
use Rattle.std.proofs.Common.{ap}
use Rattle.model.specs.Dispatcher.{Started as StartedState}
use Rattle.model.specs.Presses.{Pressed as PressedState}
use Rattle.presses.specs.declared.Started.{Started}
use Rattle.presses.specs.declared.Pressed.{Pressed}

abbrev pub started_of : Started → StartedState
started_of r = record { admission = r.admission; state = r.presses.state }

abbrev pub pressed_of : Pressed → PressedState
pressed_of r = record { answer = r.answer; untaken = r.untaken; state = r.next.state }

-- Two values that are the same in the model are the same.
pub one_started : (a b : Started) → started_of a ≡ started_of b → a ≡ b
one_started a b e = ap (λ (x : StartedState). record { admission = x.admission; presses = record { state = x.state } }) e

pub one_pressed : (a b : Pressed) → pressed_of a ≡ pressed_of b → a ≡ b
one_pressed a b e = ap (λ (x : PressedState). record { answer = x.answer; untaken = x.untaken; next = record { state = x.state } }) e
