-- The Euclidean remainder is the integer reduced upward.
use mathlib.Core.Path.{◌∙◌}
use native.Mathlib.Omega.{arith}
use mir.Facts.{to_z-of_z}
use Rattle.model.specs.Patterns.{reduced}
use Rattle.patterns.specs.Reduced.{reduced_lt}
use Rattle.distance.specs.Machine.{seen, cast_is}
use Rattle.distance.specs.Euclid.{euclid_is}
use Rattle.distance.proofs.reduced.Goals as goal

pub returns : goal.returns
returns c =
    let value = rw (seen c.from.result c.args.g c.from.ensures (omega arith), to_z-of_z c.ranges.z) at c.rem_euclid.ensures.value in
    cast_is c.rem_euclid.result (reduced c.args.z c.args.g) (value ∙ euclid_is c.args.z c.args.g c.requires)
    (omega (arith, reduced_lt c.args.z c.args.g c.requires))
