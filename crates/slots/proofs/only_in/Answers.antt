-- Of the first set, and not of the second.
use Rattle.std.proofs.Common.{not, ◌&&◌, ◌∙◌, lt-ltb, rules}
use Rattle.model.specs.Limits.{task_limit}
use Rattle.model.specs.Notation.{in_set}
use Rattle.counting.specs.Bits.{bits_eq}
use Rattle.slots.proofs.only_in.Goals as goal

pub returns : goal.returns
returns c =
    c.members.ensures (λ i. in_set c.args.set i && not (in_set c.args.others i)) (λ i b l q. search rules)
    ∙ bits_eq _ _ task_limit (λ i l. rw (lt-ltb i task_limit l))
