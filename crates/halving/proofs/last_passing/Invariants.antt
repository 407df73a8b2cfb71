-- The lower end passes or was the first one, and the upper end does not or was the last; the range between them falls.
use Rattle.std.proofs.Common.{◌≡◌, ◌⊎◌, true, false, ◌-◌, ◌≤◌, ◌<◌}
use Rattle.halving.proofs.last_passing.Given as goal

abbrev pub invariant-loop-high : goal.invariant-loop-high
invariant-loop-high g l =
    (l.fn.passes ≤ l.low) × (l.low < l.high) × (l.high ≤ l.fn.fails) × ((l.low ≡ l.fn.passes) ⊎ goal.F-post g l.test l.low true)
    × ((l.high ≡ l.fn.fails) ⊎ goal.F-post g l.test l.high false)

abbrev pub decreases-loop-high : goal.decreases-loop-high
decreases-loop-high g l = l.high - l.low
