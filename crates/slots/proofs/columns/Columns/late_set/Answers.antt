-- The job is open, and at its deadline.
use Rattle.std.proofs.Common.{◌&&◌, ltb, eqb, rules}
use Rattle.slots.specs.Slot.{at}
use Rattle.slots.proofs.columns.Columns.late_set.Goals as goal

pub returns : goal.returns
returns c = c.members.ensures (λ k. ltb 0 (at c.args.left.now k) && eqb (at c.args.wait.now k) (at c.args.self.now.slack k)) (λ i b l q. search rules)
