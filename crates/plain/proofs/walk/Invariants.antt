-- Before each slot the walk holds what the dispatcher would without done reports; at a late deadline no start from `from` on asks too much.
use Rattle.std.proofs.Common.{◌≡◌, ℕ, ◌≤◌, ◌<◌, ◌-◌}
use lib.Dec.{T}
use Rattle.model.specs.Demand.{demand, asks_too_much}
use Rattle.slots.specs.Columns.{Unpacked}
use Rattle.plain.specs.Walking.{Walking}
use Rattle.plain.proofs.walk.Given as goal

abbrev pub invariant-loop-from : goal.invariant-loop-from
invariant-loop-from l = (l.from ≤ l.at) × (l.asked ≡ demand l.t l.from l.at) × (l.asked ≤ l.at - l.from) ×
    ((later : ℕ) → l.from < later → later < l.at → T (asks_too_much l.t later l.at) → ⊥)

abbrev pub decreases-loop-from : goal.decreases-loop-from
decreases-loop-from l = l.from

abbrev pub invariant-search : goal.invariant-search
invariant-search l = Unpacked l.t l.columns × (l.at ≤ l.end) × (l.asked ≡ 0) × Walking l.t l.at l.wait l.left l.worst l.idle

abbrev pub decreases-search : goal.decreases-search
decreases-search l = l.end - l.at
