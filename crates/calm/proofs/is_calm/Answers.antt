-- The walk finds an idle instant or a late deadline within H.
use mathlib.Core.Path.{refl, subst}
use native.Mathlib.Omega.{arith}
use lib.Dec.{T, lt→ltb}
use Rattle.counting.specs.Count.{tests}
use Rattle.calm.specs.Calmed.{calmed}
use Rattle.calm.proofs.is_calm.Goals as goal

pub search-course-requires : goal.search-course-requires
search-course-requires c = record {
  ranged = c.requires.ranged;
  t_bound = c.requires.t_bound;
  end_le_horizon_limit = omega arith;
  rounded = λ e. absurd (subst T e tt);
}

pub returns : goal.returns
returns c =
    calmed _ c.requires.ranged c.requires.t_bound (omega (arith, c.requires.t_bound_2)) (c.search-course.ensures.idled refl) _ (λ h. omega (tests, h))
    (λ h. lt→ltb 0 c.search-course.result.idle h)
