-- True for a button; else the walk of the pattern tells.
use mathlib.Core.Path.{◌≡◌, ap, ◌∙◌}
use mathlib.Core.List.{List}
use Prim.Native.Nat.{ℕ}
use native.Mathlib.Omega.{arith}
use Rattle.model.specs.Patterns.{starting_at, calm, pattern}
use Rattle.wellformed.specs.Ranges.{Ranged}
use Rattle.wellformed.specs.WellFormed.{well_mixed}
use Rattle.slots.specs.Slot.{at}
use Rattle.distance.specs.Passing.{pattern_is, pattern_fits}
use Rattle.distance.proofs.pattern_calm.Goals.{After-starting, Start}
use Rattle.distance.proofs.pattern_calm.Goals as goal

ranged : (c : Start) → Ranged c.args.t
ranged c = (well_mixed _ _ c.requires.t_value).ranged

-- The table that is walked is the pattern of task i.
walked : (c : After-starting) → c.starting.result ≡ pattern c.args.t c.args.i
walked c =
    c.starting.ensures ∙ ap (λ (l : List ℕ). starting_at c.args.t (at l)) c.distances.ensures
    ∙ pattern_is c.args.t c.requires.t_value c.args.i

pub offset_bounds-t-i : goal.offset_bounds-t-i
offset_bounds-t-i c = omega (arith, c.requires.i_lt_count, (ranged (goal.at.offset_bounds-t-i c).Start).few)

pub bounds-t-i : goal.bounds-t-i
bounds-t-i c = omega (arith, c.requires.i_lt_count, (ranged (goal.at.bounds-t-i c).Start).few)

pub distances-requires : goal.distances-requires
distances-requires c = record { ranged = ranged (goal.at.distances-requires c).Start; i_lt_count = c.requires.i_lt_count }

pub starting-requires : goal.starting-requires
starting-requires c = (ranged (goal.at.starting-requires c).Start).few

pub is_calm-requires : goal.is_calm-requires
is_calm-requires c =
    let same = walked (goal.at.is_calm-requires c).After-starting in
    let fits = pattern_fits c.args.t c.requires.t_value c.requires.load_le_round c.args.i c.requires.i_lt_count in
    record { ranged = rw same fits.0; t_bound = rw same fits.1.0; t_bound_2 = rw same fits.1.1 }

pub returns : goal.returns
returns c =
    rw (← c.is_button.ensures, c.if-is_button.false) (c.is_calm.ensures ∙ ap calm (walked (goal.at.returns c).After-starting))
