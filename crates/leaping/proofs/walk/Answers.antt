-- A round is within the horizon, and one before its end every task has had its first release for a round.
use native.Mathlib.Omega.{arith}
use Rattle.wellformed.specs.WellFormed.{well_formed}
use Rattle.leaping.proofs.walk.Goals as goal

pub overflow_sub-m : goal.overflow_sub-m
overflow_sub-m c = let f = well_formed _ _ c.requires.t_value in omega (arith, f.round_is, f.horizon_is, f.offset_le 0 f.ranged.some)

pub search-requires : goal.search-requires
search-requires c =
    let f = well_formed _ _ c.requires.t_value in record {
      ranged = f.ranged;
      t_bound = omega (arith, c.requires.load_le_round, f.load_is, f.round_is);
      end_le_horizon_limit = omega (arith, c.min-end.ensures, f.horizon_is, f.horizon_le);
      rounded = λ e i l. omega (arith, f.round_is, f.horizon_is, f.offset_le i l);
    }
