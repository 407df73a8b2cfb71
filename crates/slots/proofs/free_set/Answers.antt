-- A button, and its wait is 0.
use Rattle.std.proofs.Common.{◌&&◌, eqb, rules}
use Rattle.model.specs.Tasks.{task, is_button}
use Rattle.slots.specs.Slot.{at}
use Rattle.slots.proofs.free_set.Goals as goal

pub returns : goal.returns
returns c = c.members.ensures (λ k. is_button (task c.args.t k) && eqb (at c.args.wait k) 0) (λ i b l q. search rules)
