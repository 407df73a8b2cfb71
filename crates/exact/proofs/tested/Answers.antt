-- An overload, or what the walk found.
use native.Mathlib.Omega.{arith}
use Rattle.exact.specs.Answers.{permitted_overload}
use Rattle.exact.proofs.Course.{permitted_course}
use Rattle.exact.proofs.tested.Goals as goal

pub returns-then-m : goal.returns-then-m
returns-then-m g c =
    rw c.overload.ensures (permitted_overload _ _ _ c.requires (omega (arith, c.if-m.true)))

pub returns : goal.returns
returns g c =
    rw c.conclude.ensures (permitted_course _ _ _ c.requires (omega (arith, c.if-m.false)) c.walk-course.ensures)
