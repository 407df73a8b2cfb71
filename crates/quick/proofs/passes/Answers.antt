-- By the load, and then by what is asked for up to the bound.
use native.Mathlib.Omega.{arith}
use Rattle.wellformed.specs.WellFormed.{well_mixed}
use Rattle.quick.specs.Passing.{kept, overload_fails, bound_decides}
use Rattle.quick.proofs.passes.Goals as goal

pub returns-then-m : goal.returns-then-m
returns-then-m c = overload_fails _ c.requires (omega arith)

pub all_enough-requires : goal.all_enough-requires
all_enough-requires c =
    let well = c.requires in
    record { ranged = (well_mixed _ _ well).ranged; bound_le_round_limit = omega (arith, c.bound.ensures.0, (kept _ well).le) }

pub returns : goal.returns
returns c = bound_decides _ c.requires c.if-m.false _ c.bound.ensures.1 c.all_enough.ensures
