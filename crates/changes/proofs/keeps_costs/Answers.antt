-- The test of each task, in the model's words.
use Rattle.std.proofs.Common.{◌∙◌, arith}
use Rattle.std.proofs.Math.Dec.{leb}
use Rattle.model.specs.Tasks.{no_task}
use Rattle.counting.specs.Listed.{every_taken}
use Rattle.changes.proofs.keeps_costs.Goals as goal

pub returns : goal.returns
returns c = c.all_keep.ensures ∙ every_taken (λ k. leb k.cost k.deadline) no_task c.args.t.tasks c.args.t.count (omega arith)
