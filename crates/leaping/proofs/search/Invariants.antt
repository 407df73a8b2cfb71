-- Before each leap the walk holds what the dispatcher would without done reports, in its queues; at a late deadline each turn counts the next job.
use mathlib.Core.Path.{◌≡◌}
use Prim.Native.Nat.{◌-◌}
use Rattle.leaps.specs.Leaping.{Here}
use Rattle.leaping.specs.Start.{Searching}
use Rattle.leaping.proofs.search.Given as goal

abbrev pub invariant-loop-count : goal.invariant-loop-count
invariant-loop-count l = Searching l.t l.at l.queue.entries l.queue.len l.count

abbrev pub decreases-loop-count : goal.decreases-loop-count
decreases-loop-count l = l.at - l.count

abbrev pub invariant-search : goal.invariant-search
invariant-search l =
    Here l.t l.columns.period l.columns.cost l.columns.deadline l.kept.releases.entries l.kept.ready.entries l.kept.left l.kept.worst
    l.kept.ready.len l.end l.here
    × (l.kept.releases.len ≡ l.t.count) × (l.asked ≡ 0) × (l.at ≡ l.end)

abbrev pub decreases-search : goal.decreases-search
decreases-search l = l.end - l.here.time
