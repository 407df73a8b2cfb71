-- The loop has moved the entries from j on; what is left to do is to put x in among the first j.
use mathlib.Core.Path.{◌≡◌, refl, ◌∙◌}
use Prim.Native.Nat.{◌+◌, ◌-◌}
use native.Mathlib.Omega.{arith}
use Rattle.leaps.specs.Queue.{inserted_none, inserted_here, inserted_below}
use Rattle.leaps.proofs.queues.put.Goals.{else-loop-j-test, then-loop-j-test+then-x-above}
use Rattle.leaps.proofs.queues.put.Goals as goal

pub loop-j-preserved : goal.loop-j-preserved
loop-j-preserved c =
    let v = c.loop-j.invariant in
    let e : c.loop-j.j - 1 + 1 ≡ c.loop-j.j = omega (arith, c.loop-j-test.true) in
    (refl, rw e (inserted_below _ _ _ c.loop-j-test.true (omega (arith, c.if-x-above.false))) ∙ v.1)

pub returns : goal.returns
returns c =
    let v = c.loop-j.invariant in
    elim c.loop-j-test.branch [
      | else-loop-j-test w ↦ rw v.0 (inserted_none _ _ _ (omega (arith, w.loop-j-test.false)) ∙ v.1)
      | then-loop-j-test+then-x-above w ↦ rw v.0 (inserted_here _ _ _ w.loop-j-test.true (omega (arith, w.if-x-above.true)) ∙ v.1)
    ]
