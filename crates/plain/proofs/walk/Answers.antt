-- Before each slot the walk holds what the dispatcher would without done reports; at a late deadline no start from `from` on asks too much.
use mathlib.Core.Path.{◌≡◌, refl, sym, ap, ◌∙◌}
use Prim.Native.Nat.{ℕ, ◌≤◌, ◌<◌}
use native.Mathlib.Decide.{dec_lt}
use native.Mathlib.Omega.{arith}
use Rattle.values.specs.declared.Table.{Table}
use Rattle.model.specs.Tasks.{round, load}
use Rattle.model.specs.Demand.{demand}
use Rattle.wellformed.specs.WellFormed.{WellFormed, well_formed}
use Rattle.backlog.specs.TooMuch.{late_at_iff, too_much_iff}
use Rattle.intervals.specs.Starts.{demand_none, none_between}
use Rattle.walks.specs.Walked.{setting, one_found, none_found}
use Rattle.walks.specs.Course.{quiet_course, late_course}
use Rattle.plain.specs.Walking.{walking_start, walking_next}
use Rattle.plain.proofs.walk.Goals.{After-loop-from, After-start_before-from, At-search}
use Rattle.plain.proofs.walk.Goals as goal

-- What is known of the table wherever the search stands.
facts : (c : At-search)
    → WellFormed c.args.t c.args.m
facts c = well_formed _ _ c.requires.t_value

abbrev table : At-search → Table
table c = c.args.t

light : (c : At-search) → load (table c) ≤ round (table c)
light c = let f = facts c in omega (arith, c.requires.load_le_round, f.load_is, f.round_is)

pub unpack-columns-requires : goal.unpack-columns-requires
unpack-columns-requires c = (well_formed _ _ c.requires.t_value).ranged

pub offsets-wait-requires : goal.offsets-wait-requires
offsets-wait-requires c = (well_formed _ _ c.requires.t_value).ranged.few

pub search-init : goal.search-init
search-init c =
    let u = c.unpack-columns.ensures in
    (u, omega arith, refl, rw c.offsets-wait.ensures (walking_start c.args.t))

pub overflow_add-at : goal.overflow_add-at
overflow_add-at c =
    let a = (goal.at.overflow_add-at c).At-search in
    let f = facts a in omega (arith, f.horizon_is, f.horizon_le, c.min-end.ensures)

pub search-preserved-in-Some : goal.search-preserved-in-Some
search-preserved-in-Some c =
    let a = (goal.at.search-preserved-in-Some c).At-search in
    let i = a.search.invariant in (
      i.0,
      omega (arith, i.1, c.if-at-end.false),
      i.2,
      walking_next (facts a).ranged (light a) (setting _ i.0) i.3
          c.serve.ensures
          c.in-Some.is c.note.ensures
          c.first_idle-idle.ensures,
    )

-- A late deadline has a start: the search for it does not come to its end.
found : (c : After-loop-from) → ⊥
found c =
    let a = (goal.at.After-loop-from c).At-search in
    let i = a.search.invariant in
    let f = facts a in
    let v = c.loop-from.invariant in
    let h = one_found f.ranged (setting _ i.0) i.3.walk c.serve.ensures c.in-None.is in
    let (from, x) = (late_at_iff _ _).0 h in
    let y = (too_much_iff _ from _).0 x in
    elim (dec_lt c.loop-from.from from) [
      | yes p ↦ v.3 from p y.0 x
      | no p ↦
          omega (
            arith,
            y.1,
            v.1,
            v.2,
            ap (λ (u : ℕ). demand (table a) u a.search.at)
                (let e : from ≡ c.loop-from.from = omega (arith, c.loop-from-test.false) in e),
          )
    ]

pub loop-from-init : goal.loop-from-init
loop-from-init c =
    let a = (goal.at.loop-from-init c).At-search in
    let none = demand_none _ (facts a).ranged a.search.at in
    (omega arith, a.search.invariant.2 ∙ sym none, omega (arith, a.search.invariant.2), λ later x y. absurd (omega arith))

pub search-smaller : goal.search-smaller
search-smaller c = absurd (found (goal.at.search-smaller c).After-loop-from)

pub search-preserved : goal.search-preserved
search-preserved c = absurd (found (goal.at.search-preserved c).After-loop-from)

pub overflow_sub-at : goal.overflow_sub-at
overflow_sub-at c = c.loop-from.invariant.0

pub overflow_sub-at-in-loop-from : goal.overflow_sub-at-in-loop-from
overflow_sub-at-in-loop-from c = c.loop-from.invariant.2

pub start_before-from-requires : goal.start_before-from-requires
start_before-from-requires c = (facts ((goal.at.start_before-from-requires c).At-search)).ranged

-- The next start lies before this one.
down : (c : After-start_before-from) → c.start_before-from.result < c.loop-from.from
down c = c.start_before-from.ensures.0 c.loop-from-test.true

pub demand-asked-requires : goal.demand-asked-requires
demand-asked-requires c =
    let a = (goal.at.demand-asked-requires c).At-search in
    let f = facts a in record {
      ranged = f.ranged;
      from_le_to = (
        omega (arith, down (goal.at.demand-asked-requires c).After-start_before-from, c.loop-from.invariant.0),
        omega
            (arith, f.horizon_is, f.horizon_le, c.min-end.ensures, a.search.invariant.1),
      );
    }

pub overflow_sub-at-in-loop-from-2 : goal.overflow_sub-at-in-loop-from-2
overflow_sub-at-in-loop-from-2 c = omega (arith, down (goal.at.overflow_sub-at-in-loop-from-2 c).After-start_before-from, c.loop-from.invariant.0)

pub loop-from-smaller : goal.loop-from-smaller
loop-from-smaller c = down (goal.at.loop-from-smaller c).After-start_before-from

pub loop-from-preserved : goal.loop-from-preserved
loop-from-preserved c =
    let v = c.loop-from.invariant in
    let a = (goal.at.loop-from-preserved c).At-search in
    let asked = c.demand-asked.ensures in (
      omega (arith, down (goal.at.loop-from-preserved c).After-start_before-from, v.0),
      asked,
      c.if-asked-at.false,
      none_between (table a) (facts a).ranged (light a) v.0 (omega (arith, v.1, v.2)) c.start_before-from.ensures.1 v.3,
    )

pub returns-then-at-end : goal.returns-then-at-end
returns-then-at-end c =
    let a = (goal.at.returns-then-at-end c).At-search in
    let i = a.search.invariant in
    let clear = none_found (facts a).ranged (setting _ i.0) i.3.walk c.serve.ensures c.in-Some.is in
    quiet_course i.3.tally a.search.from a.search.asked i.2 clear (c.if-at-end.true ∙ c.min-end.ensures)

pub returns-then-asked-at : goal.returns-then-asked-at
returns-then-asked-at c =
    let a = (goal.at.returns-then-asked-at c).At-search in
    let i = a.search.invariant in
    let f = facts a in
    let late = one_found f.ranged (setting _ i.0) i.3.walk c.serve.ensures c.in-None.is in
    let last = none_between (table a) f.ranged (light a) c.loop-from.invariant.0 (omega (arith, c.loop-from.invariant.1, c.loop-from.invariant.2))
    c.start_before-from.ensures.1 c.loop-from.invariant.3 in
    late_course i.3.tally _ _ (omega (arith, c.min-end.ensures)) i.3.walk.clear late
    (omega (arith, c.loop-from.invariant.0, down (goal.at.returns-then-asked-at c).After-start_before-from))
    c.demand-asked.ensures c.if-asked-at.true last
