-- The changed table is well-formed, and its load no large number.
use native.Mathlib.Omega.{arith}
use Rattle.largest.specs.Halving.{ranged_of, more_le}
use Rattle.backlog.proofs.Largest.{well_with}
use Rattle.largest.proofs.measure_with.Goals as goal

pub offset_bounds-t-i : goal.offset_bounds-t-i
offset_bounds-t-i c = omega (arith, (ranged_of c.args.t c.args.m c.requires.t_value).few)

pub bounds-t-i : goal.bounds-t-i
bounds-t-i c = omega (arith, (ranged_of c.args.t c.args.m c.requires.t_value).few)

pub nonzero_div-jobs : goal.nonzero_div-jobs
nonzero_div-jobs c =
    omega (arith, ((ranged_of c.args.t c.args.m c.requires.t_value).each c.args.i c.requires.i_lt_count).period_pos, c.from.ensures)

pub overflow_mul-result : goal.overflow_mul-result
overflow_mul-result c =
    let w = more_le c.args.t c.args.m c.requires.t_value c.args.i c.args.cost c.requires.i_lt_count c.requires.i_bound.0 c.requires.i_bound.1 in
    rw (c.from-2.ensures, c.from.ensures) (omega (arith, w))

pub overflow_add-result : goal.overflow_add-result
overflow_add-result c =
    let w = more_le c.args.t c.args.m c.requires.t_value c.args.i c.args.cost c.requires.i_lt_count c.requires.i_bound.0 c.requires.i_bound.1 in
    rw (c.from-2.ensures, c.from.ensures) (omega (arith, w))

pub returns : goal.returns
returns c =
    rw (c.from-2.ensures, c.from.ensures)
    (well_with c.args.t (ranged_of c.args.t c.args.m c.requires.t_value) c.args.i c.requires.i_lt_count c.args.m c.requires.t_value c.args.cost
    c.requires.i_bound.0 c.requires.i_bound.1)
