-- The counts passed are put.
use Prim.Native.Nat.{◌≤◌}
use lib.ListN.{take}
use Rattle.model.specs.Limits.{task_limit}
use Rattle.model.specs.TableFile.{bytes_of}
use Rattle.model.specs.StateBuffer.{halves}
use Rattle.words.specs.Out.{Puts}
use Rattle.statebuffer.proofs.put_counts.Given as goal

abbrev pub invariant-loop-count : goal.invariant-loop-count
invariant-loop-count l = (l.count-index ≤ task_limit) × Puts (bytes_of (halves (take l.count-index l.fn.counts))) l.initial.out l.out
