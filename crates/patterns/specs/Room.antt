-- A pass.
use Rattle.model.specs.Values.{DistanceAnswer}
use Rattle.values.specs.declared.ByDistance.{ByDistance}
use Rattle.std.specs.Prelude.{Bool, Ok, Err}
use Rattle.std.proofs.Math.Bool.{true, false}

-- The answer is a pass.
abbrev pub is_passed : DistanceAnswer → Bool
is_passed (Err r) = false
is_passed (Ok ByDistance.Overload) = false
is_passed (Ok ByDistance.Pass) = true
is_passed (Ok ByDistance.NoAnswer) = false
