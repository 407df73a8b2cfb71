-- The number that is found passes, or is the present cost; the next one does not, or is past the deadline.
use mathlib.Core.Logic.{inl, inr}
use mathlib.Core.Path.{◌≡◌, refl}
use Prim.Native.Nat.{◌+◌, ◌≤◌}
use native.Mathlib.Omega.{arith}
use mathlib.Core.Bool.{true, false}
use borrow.Author.Rules.{rules}
use lib.Dec.{T}
use Rattle.model.specs.Tasks.{task}
use Rattle.model.specs.Room.{room_with}
use Rattle.room.specs.Halving.{ranged_of, halving_start, halving_end}
use Rattle.room.proofs.search.Goals.{After-last_passing}
use Rattle.room.proofs.search.Goals as goal

pub offset_bounds-t-i : goal.offset_bounds-t-i
offset_bounds-t-i c = omega (arith, (ranged_of c.args.t c.requires.well).few)

pub bounds-t-i : goal.bounds-t-i
bounds-t-i c = omega (arith, (ranged_of c.args.t c.requires.well).few)

pub overflow_add-task : goal.overflow_add-task
overflow_add-task c =
    let k = (ranged_of c.args.t c.requires.well).each c.args.i c.requires.i_lt_count in
    omega (arith, k.deadline_le, k.period_le)

pub last_passing-requires-clause-apart : goal.last_passing-requires-clause-apart
last_passing-requires-clause-apart c =
    let k = (ranged_of c.args.t c.requires.well).each c.args.i c.requires.i_lt_count in omega (arith, k.cost_le)

-- So it passes, and the next one does not.
passed : (c : After-last_passing) → T (room_with c.args.t c.args.i c.last_passing.result)
passed c =
    let k = c.last_passing.result in
    let start = halving_start c.args.t c.requires.well c.args.i c.requires.i_lt_count c.requires.t_value _ refl in
    elim c.last_passing.ensures.passed [
      | inl e ↦ rw e start.passed
      | inr q ↦ (let told : room_with c.args.t c.args.i k ≡ true = search rules in rw told tt)
    ]

failed : (c : After-last_passing) → c.last_passing.result + 1 ≤ (task c.args.t c.args.i).deadline
    → T (room_with c.args.t c.args.i (c.last_passing.result + 1)) → ⊥
failed c l h = elim c.last_passing.ensures.failed [
  | inl e ↦ absurd (omega arith)
  | inr q ↦ (let told : room_with c.args.t c.args.i (c.last_passing.result + 1) ≡ false = search rules in rw told at h)
]

pub returns : goal.returns
returns c =
    let at = (goal.at.returns c).After-last_passing in
    let w = c.last_passing.ensures.within in
    halving_end c.args.t c.requires.well c.args.i c.requires.i_lt_count
    c.last_passing.result (c.last_passing.result + 1)
    (record { least = w.0; apart = omega arith; upto = omega (arith, w.1); passed = passed at; failed = failed at }) (omega arith)
