-- The callees' equations, one after another.
use native.Mathlib.Omega.{arith}
use Rattle.largest.specs.Halving.{ranged_of}
use Rattle.largest.proofs.passes_with.Goals as goal

pub with_cost-requires : goal.with_cost-requires
with_cost-requires c = omega (arith, (ranged_of c.args.t c.args.m c.requires.t_value).few, c.requires.i_lt_count)
