-- The first releases of the tasks below i are in the queue.
use mathlib.Core.Path.{◌≡◌}
use Rattle.leaps.specs.Queue.{Queue}
use Rattle.leaps.proofs.Firsts.{Firsts}
use Rattle.leaps.proofs.first_releases.Given as goal

abbrev pub invariant-loop-i : goal.invariant-loop-i
invariant-loop-i l = Queue (Firsts l.fn.t l.i) l.queue.entries l.i × (l.queue.len ≡ l.i)
