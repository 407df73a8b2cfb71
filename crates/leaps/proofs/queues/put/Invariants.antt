-- The loop has moved the entries from j on; what is left to do is to put x in among the first j.
use mathlib.Core.Path.{◌≡◌}
use Rattle.leaps.specs.Queue.{inserted}
use Rattle.leaps.proofs.queues.put.Given as goal

abbrev pub invariant-loop-j : goal.invariant-loop-j
invariant-loop-j l = (l.place ≡ l.j) × (inserted l.entries l.j l.x ≡ inserted l.initial.entries l.m l.x)
