-- Down to `high`, every instant up to the bound has enough. The measure is `high`; what is found from 0 on only ends the search earlier.
use mathlib.Core.Path.{◌≡◌}
use Prim.Native.Nat.{◌<◌}
use native.Mathlib.Omega.{arith}
use Rattle.patterns.specs.Decided.{EnoughBetween}
use Rattle.quick.specs.Passing.{enough_down, down_to_0, too_much}
use Rattle.quick.proofs.all_enough.Goals.{After-min-high}
use Rattle.quick.proofs.all_enough.Goals as goal

-- The next `high` is lower, and all from there on have enough.
lower : (c : After-min-high) → (c.min-high.result < c.loop-high.high) × EnoughBetween c.args.t c.min-high.result c.args.bound
lower c =
    let fits = enough_down c.args.t c.requires.ranged c.args.bound c.loop-high.high _ c.loop-high.invariant.0 c.loop-high.invariant.1 in
    (omega (arith, c.min-high.ensures), fits (omega (arith, c.look-above.ensures)) (omega (arith, c.min-high.ensures, c.look-above.ensures)))

pub returns-then-high-above : goal.returns-then-high-above
returns-then-high-above c =
    too_much c.args.t c.requires.ranged c.args.bound c.loop-high.high c.loop-high.invariant.0 (omega (arith, c.look-above.ensures))

pub returns-then-low-below : goal.returns-then-low-below
returns-then-low-below c =
    let (less, all) = lower (goal.at.returns-then-low-below c).After-min-high in
    too_much c.args.t c.requires.ranged c.args.bound c.loop-high.low (omega (arith, c.min.ensures)) (omega (arith, c.look-below.ensures))

pub loop-high-preserved-then-low-min : goal.loop-high-preserved-then-low-min
loop-high-preserved-then-low-min c = let (less, all) = lower (goal.at.loop-high-preserved-then-low-min c).After-min-high in (omega arith, all)

pub loop-high-preserved : goal.loop-high-preserved
loop-high-preserved c = let (less, all) = lower (goal.at.loop-high-preserved c).After-min-high in (omega arith, all)

pub returns : goal.returns
returns c =
    let e : c.loop-high.high ≡ 0 = omega arith in
    down_to_0 c.args.t c.requires.ranged c.args.bound (rw e at c.loop-high.invariant.1)
