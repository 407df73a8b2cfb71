-- The answer is a pass, or another.
use Rattle.values.specs.declared.ByDistance.{ByDistance}
use Rattle.std.specs.Prelude.{Ok}
use mathlib.Core.Path.{◌≡◌, refl}
use mathlib.Core.Bool.{false}
use native.Mathlib.Omega.{arith}
use Rattle.model.specs.Room.{room_with}
use Rattle.patterns.specs.Room.{is_passed}
use Rattle.patterns.proofs.Room.{passed_with}
use Rattle.room.specs.Halving.{ranged_of}
use Rattle.room.proofs.passes_with.Goals.{After-test}
use Rattle.room.proofs.passes_with.Goals as goal

told : (c : After-test) → is_passed c.test.result ≡ room_with c.args.t c.args.i c.args.cost
told c =
    let (m, well) = c.requires.well in
    let (from, to) = c.requires.i_bound in
    let some = ((ranged_of c.args.t c.requires.well).each c.args.i c.requires.i_lt_count).cost_pos in
    rw (c.test.ensures, c.with_cost.ensures) (passed_with c.args.t m well c.args.i c.requires.i_lt_count c.args.cost (omega (arith, some, from)) to)

other : (said : ByDistance) → (said ≡ ByDistance.Pass → ⊥) → false ≡ is_passed (Ok said)
other ByDistance.Overload h = refl
other ByDistance.Pass h = absurd (h refl)
other ByDistance.NoAnswer h = refl

pub with_cost-requires : goal.with_cost-requires
with_cost-requires c = omega (arith, (ranged_of c.args.t c.requires.well).few, c.requires.i_lt_count)

pub returns-in-Pass : goal.returns-in-Pass
returns-in-Pass c = rw (← told (goal.at.returns-in-Pass c).After-test, c.in-Ok.is, c.in-Pass.is)

pub returns-in_default : goal.returns-in_default
returns-in_default c =
    rw (← told (goal.at.returns-in_default c).After-test, c.in-Ok.is) (other c.in-Ok.said c.in_default.not-Pass)

pub returns-in-Err : goal.returns-in-Err
returns-in-Err c = rw (← told (goal.at.returns-in-Err c).After-test, c.in-Err.is)
