-- Down to `high`, every instant up to the bound has enough. The measure is `high`; what is found from 0 on only ends the search earlier.
use Prim.Native.Nat.{◌≤◌}
use Rattle.patterns.specs.Decided.{EnoughBetween}
use Rattle.quick.proofs.all_enough.Given as goal

abbrev pub invariant-loop-high : goal.invariant-loop-high
invariant-loop-high l = (l.high ≤ l.bound) × EnoughBetween l.t l.high l.bound

abbrev pub decreases-loop-high : goal.decreases-loop-high
decreases-loop-high l = l.high
