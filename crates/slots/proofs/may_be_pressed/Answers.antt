-- A button, and its wait is 0.
use Rattle.slots.proofs.may_be_pressed.Goals as goal

pub returns-then-is_button : goal.returns-then-is_button
returns-then-is_button c = rw (← c.is_button.ensures, c.if-is_button.true)
