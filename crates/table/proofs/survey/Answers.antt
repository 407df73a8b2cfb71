-- The tasks read keep their ranges, and their multiple and first button are known.
use mathlib.Core.Path.{◌≡◌, sym, ◌∙◌}
use Prim.Native.Nat.{ℕ}
use native.Mathlib.Omega.{arith}
use borrow.Author.Tests.{eq-eqb, ne_eqb, lt-ltb, le-ltb}
use Rattle.std.proofs.lemmas.List.{get_or-take}
use Rattle.std.proofs.lemmas.Result.{err_from_is_err_and}
use Rattle.model.specs.Limits.{task_limit}
use Rattle.model.specs.Tasks.{task, task_fault, no_task, first_faulty, judged_mixed}
use Rattle.counting.specs.Search.{first_is}
use Rattle.wellformed.specs.Ranges.{faulty, faultless, marked}
use Rattle.wellformed.specs.WellFormed.{mixed_long}
use Rattle.table.specs.Survey.{Read, range_refused, kept_ranges, left_range, no_button, read_none, read_button, read_on}
use Rattle.table.specs.Survey.{read_ranged, read_kept, read_long, read_first}
use Rattle.table.proofs.survey.Goals.{then-is_none+then-is_button, else-is_none}
use Rattle.table.proofs.survey.Goals.{else-is_none-via-then-is_none+else-is_button, else-is_none-via-else-is_none}
use Rattle.table.proofs.survey.Goals.{After-check_ranges, After-from, After-loop-i}
use Rattle.table.proofs.survey.Goals as goal

-- The task just read.
here : (c : After-check_ranges) → c.check_ranges.result ≡ range_refused (task c.args.t c.loop-i.i) c.loop-i.i
here c = rw (← get_or-take c.args.t.count c.args.t.tasks c.loop-i.i no_task (omega arith)) c.check_ranges.ensures

-- All tasks are read.
read : (c : After-loop-i) → Read c.args.t c.args.t.count c.loop-i.round c.loop-i.button
read c = let all : c.loop-i.i ≡ c.args.t.count = omega arith in rw all at c.loop-i.invariant

pub returns-then-n-eq0 : goal.returns-then-n-eq0
unfolding judged_mixed
returns-then-n-eq0 c = rw (c.new.ensures, eq-eqb _ _ c.if-n-eq0.true)

pub returns-then-n-gt-TASK_LIMIT : goal.returns-then-n-gt-TASK_LIMIT
unfolding judged_mixed
returns-then-n-gt-TASK_LIMIT c =
    rw (c.new-then-n-gt-TASK_LIMIT.ensures, ne_eqb _ _ c.if-n-eq0.false, lt-ltb task_limit c.args.t.count (omega arith))

pub loop-i-init : goal.loop-i-init
loop-i-init c = read_none c.args.t

-- The first fault is that of the task just read.
pub returns-in_err-check_ranges : goal.returns-in_err-check_ranges
unfolding judged_mixed first_faulty
returns-in_err-check_ranges c =
    let t = c.args.t in
    let i = c.loop-i.i in
    let p = err_from_is_err_and c.from_residual.result c.from_residual.ensures.1 in
    let left = left_range (task t i) i _ (sym (here (goal.at.returns-in_err-check_ranges c).After-check_ranges) ∙ c.in_err-check_ranges.was) in
    let first = first_is (faulty t) 0 t.count i (omega arith) (omega arith) (marked _ left.0) c.loop-i.invariant.none in
    rw (p.1, p.2, left.1, ne_eqb _ _ c.if-n-eq0.false, le-ltb _ _ c.if-n-gt-TASK_LIMIT.false, first, lt-ltb i t.count (omega arith))

fine : (c : After-from) → task_fault (task c.args.t c.loop-i.i) ≡ 0
fine c = kept_ranges _ c.loop-i.i _ (sym (here (goal.at.common_multiple-round-requires c).After-check_ranges) ∙ c.in_ok-check_ranges.was)

pub common_multiple-round-requires : goal.common_multiple-round-requires
common_multiple-round-requires c =
    let k = faultless _ (fine c) in
    rw (c.from.ensures, get_or-take c.args.t.count c.args.t.tasks c.loop-i.i no_task (omega arith)) (k.period_pos, k.period_le)

pub loop-i-preserved : goal.loop-i-preserved
loop-i-preserved c =
    let t = c.args.t in
    let i = c.loop-i.i in
    let sound = fine (goal.at.loop-i-preserved c).After-from in
    let grown = rw (c.from.ensures, get_or-take t.count t.tasks i no_task (omega arith)) at c.common_multiple-round.ensures in
    let listed = get_or-take t.count t.tasks i no_task (omega arith) in
    let on = read_on t i c.loop-i.round c.common_multiple-round.result c.loop-i.button (omega arith) c.loop-i.invariant sound grown in
    elim c.if-is_none.branch [
      | then-is_none+then-is_button w ↦
          let none = no_button c.loop-i.button (c.is_none.ensures ∙ rw w.if-is_none.true) in
          rw w.button-is (read_button t i c.loop-i.round c.common_multiple-round.result (omega arith) (rw none at c.loop-i.invariant) sound grown
          (rw (← listed, ← w.is_button.ensures, w.if-is_button.true) tt))
      | else-is_none w ↦
          rw w.button-is (on (λ q h. elim w.else-is_none.branch [
            | else-is_none-via-then-is_none+else-is_button v ↦ rw (← listed, ← v.is_button.ensures, v.if-is_button.false) at h
            | else-is_none-via-else-is_none v ↦ (let z : ◌≡◌ {A = ℕ} 0 1 =
                (let some = rw (q, v.if-is_none.false) at c.is_none.ensures in cc) in absurd (omega arith))
          ]))
    ]

pub returns-then-round-gt-ROUND_LIMIT : goal.returns-then-round-gt-ROUND_LIMIT
returns-then-round-gt-ROUND_LIMIT c =
    let t = c.args.t in
    let all = read (goal.at.returns-then-round-gt-ROUND_LIMIT c).After-loop-i in
    rw c.new-then-round-gt-ROUND_LIMIT.ensures
    (mixed_long t (read_ranged t _ _ (omega arith) (omega arith) all) (read_long t _ _ (omega arith) (omega arith) all (omega arith)))

pub returns : goal.returns
returns c =
    let t = c.args.t in
    let all = read (goal.at.returns c).After-loop-i in (
      read_ranged t _ _ (omega arith) (omega arith) all,
      read_kept t _ _ (omega arith) (omega arith) all (omega arith),
      read_first t _ _ (omega arith) (omega arith) all,
    )
