-- The loop has passed over the tasks before i, none of them late.
use Prim.Native.Nat.{◌≤◌}
use Rattle.slots.specs.Serve.{Serving}
use Rattle.slots.proofs.columns.Columns.serve.Given as goal

abbrev pub invariant-loop-i : goal.invariant-loop-i
invariant-loop-i l =
    let c = l.self in
    (l.i ≤ c.count) × Serving l.initial.wait l.initial.left c.period c.cost c.slack c.rank c.count l.i l.owner l.least l.rest l.wait l.left
