-- Of the tasks below i the last jobs that are due by then are in the queue.
use Prim.Native.Nat.{◌≤◌}
use Rattle.leaps.specs.Queue.{Queue}
use Rattle.leaping.specs.Start.{Last, due_by}
use Rattle.leaping.proofs.last_jobs.Given as goal

abbrev pub invariant-loop-i : goal.invariant-loop-i
invariant-loop-i l = (l.queue.len ≤ l.i) × Queue (Last l.fn.t l.to l.i (due_by l.fn.t l.to)) l.queue.entries l.queue.len
