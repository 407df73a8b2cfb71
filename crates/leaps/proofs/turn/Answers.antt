-- The ways of a turn, each by its law.
use mathlib.Core.Logic.{inl, inr}
use mathlib.Core.Path.{◌≡◌, refl, sym, ap, ◌∙◌}
use Prim.Native.Nat.{ℕ, ◌-◌, ◌/◌, ◌%◌, ◌≤◌, ◌<◌}
use Rattle.std.proofs.lemmas.Bool.{eqb-true, eqb-false}
use native.Mathlib.Omega.{arith}
use Rattle.model.specs.Limits.{slot_limit}
use Rattle.slots.specs.Slot.{at}
use Rattle.leaps.specs.Entry.{places, span}
use Rattle.leaps.proofs.Turns.{rests, owner_is, bound, left_small, spare_le, stops, preempt, finishes}
use Rattle.leaps.proofs.turn.Goals.{After-task_of-i, After-time_of-due, After-time_of-soon}
use Rattle.leaps.proofs.turn.Goals as goal

-- When the next release is.
soon : (c : After-time_of-soon) → c.time_of-soon.result ≡ at c.args.kept.now.releases.entries (c.args.columns.now.table.count - 1) / span
soon c =
    c.time_of-soon.ensures ∙ ap (λ (x : ℕ). x / span) c.least.ensures ∙ ap (λ (k : ℕ). at c.args.kept.now.releases.entries (k - 1) / span) c.requires.1

-- A job is open: its task, and its deadline.
busy : (c : After-task_of-i) → 0 < c.args.kept.now.ready.len
busy c = omega (arith, eqb-false c.args.kept.now.ready.len 0 (sym c.is_empty.ensures ∙ c.if-is_empty.false))

task_is : (c : After-task_of-i) → c.task_of-i.result ≡ at c.args.kept.now.ready.entries (c.args.kept.now.ready.len - 1) % places
task_is c = c.task_of-i.ensures ∙ ap (λ (x : ℕ). x % places) c.least-key.ensures

due_is : (c : After-time_of-due) → c.time_of-due.result ≡ at c.args.kept.now.ready.entries (c.args.kept.now.ready.len - 1) / span
due_is c = c.time_of-due.ensures ∙ ap (λ (x : ℕ). x / span) c.least-key.ensures

-- The task is one of the table, and its job has few slots left.
own : (c : After-task_of-i) → c.task_of-i.result < c.args.columns.now.table.count
own c =
    let y = c.requires.0 in
    let s = soon (goal.at.After-task_of-i c).After-time_of-soon in
    omega (
      arith,
      task_is c,
      owner_is _ y.ranged y.light y.clear y.held y.tally s y.before (busy c),
      bound _ y.ranged y.light y.clear y.held y.tally s y.before (busy c),
    )

small : (c : After-task_of-i) → at c.args.kept.now.left c.task_of-i.result ≤ slot_limit
small c =
    let y = c.requires.0 in
    rw (task_is c)
    (left_small _ y.ranged y.light y.clear y.held y.tally (soon (goal.at.After-task_of-i c).After-time_of-soon) y.before (busy c))

pub returns-then-is_empty : goal.returns-then-is_empty
returns-then-is_empty c =
    let y = c.requires.0 in (
      rw c.rest.ensures (rests _ y.ranged y.light y.clear y.held y.tally (soon (goal.at.returns-then-is_empty c).After-time_of-soon) y.before
          (eqb-true _ _ (sym c.is_empty.ensures ∙ c.if-is_empty.true))),
      c.requires.1,
    )

pub overflow_add-done : goal.overflow_add-done
overflow_add-done c = let y = c.requires.0 in omega (arith, small (goal.at.overflow_add-done c).After-task_of-i, y.before, y.limit)

pub returns-then-due-soon : goal.returns-then-due-soon
returns-then-due-soon c =
    let y = c.requires.0 in
    let at = goal.at.returns-then-due-soon c in (
      rw c.stop.ensures
          (stops _ y.ranged y.light y.clear y.held y.tally (soon at.After-time_of-soon) y.before (busy at.After-task_of-i)
          (task_is at.After-task_of-i) (due_is at.After-time_of-due) refl
          (inl (omega (arith, c.if-due-soon.true, c.if-soon-done.true), omega (arith, c.if-due-soon.true)))),
      c.requires.1,
    )

pub returns-then-end-soon : goal.returns-then-end-soon
returns-then-end-soon c =
    let y = c.requires.0 in
    let at = goal.at.returns-then-end-soon c in (
      rw c.stop-then-end-soon.ensures
          (stops _ y.ranged y.light y.clear y.held y.tally (soon at.After-time_of-soon) y.before (busy at.After-task_of-i)
          (task_is at.After-task_of-i) (due_is at.After-time_of-due) refl
          (inr (
            omega (arith, c.if-end-soon.true, c.if-soon-done.true),
            omega (arith, c.if-end-soon.true),
            omega (arith, c.if-end-soon.true, c.if-due-soon.false),
          ))),
      c.requires.1,
    )

pub returns-then-soon-done : goal.returns-then-soon-done
returns-then-soon-done c =
    let y = c.requires.0 in
    let at = goal.at.returns-then-soon-done c in (
      rw c.going.ensures
          (preempt _ y.ranged y.light y.clear y.held y.tally (soon at.After-time_of-soon) y.before (busy at.After-task_of-i)
          (task_is at.After-task_of-i) (due_is at.After-time_of-due) refl
          (omega (arith, c.if-soon-done.true)) (omega (arith, c.if-due-soon.false)) (omega (arith, c.if-end-soon.false))),
      c.requires.1,
    )

pub returns-then-due-done : goal.returns-then-due-done
returns-then-due-done c =
    let y = c.requires.0 in
    let at = goal.at.returns-then-due-done c in (
      rw c.stop-then-due-done.ensures
          (stops _ y.ranged y.light y.clear y.held y.tally (soon at.After-time_of-soon) y.before (busy at.After-task_of-i)
          (task_is at.After-task_of-i) (due_is at.After-time_of-due) refl
          (inl (omega (arith, c.if-due-done.true), omega (arith, c.if-due-done.true, c.if-soon-done.false)))),
      c.requires.1,
    )

pub returns-then-end-done : goal.returns-then-end-done
returns-then-end-done c =
    let y = c.requires.0 in
    let at = goal.at.returns-then-end-done c in (
      rw c.stop-then-end-done.ensures
          (stops _ y.ranged y.light y.clear y.held y.tally (soon at.After-time_of-soon) y.before (busy at.After-task_of-i)
          (task_is at.After-task_of-i) (due_is at.After-time_of-due) refl
          (inr (
            omega (arith, c.if-end-done.true),
            omega (arith, c.if-end-done.true, c.if-soon-done.false),
            omega (arith, c.if-end-done.true, c.if-due-done.false),
          ))),
      c.requires.1,
    )

pub finish-requires : goal.finish-requires
finish-requires c =
    let y = c.requires.0 in
    let at = goal.at.finish-requires c in
    let spare = spare_le _ y.ranged y.light y.clear y.held y.tally (soon at.After-time_of-soon) y.before (busy at.After-task_of-i)
    (task_is at.After-task_of-i) (due_is at.After-time_of-due) refl in (
      omega (arith, own at.After-task_of-i, y.ranged.few),
      busy at.After-task_of-i,
      omega (arith, c.if-due-done.false),
      omega (arith, spare),
    )

pub returns : goal.returns
returns c =
    let y = c.requires.0 in
    let at = goal.at.returns c in
    let e = c.finish.ensures in (
      rw (e.releases, e.ready, e.ready_len, e.left, e.worst, e.landed)
          (finishes _ y.ranged y.light y.clear y.held y.tally (soon at.After-time_of-soon) y.before (busy at.After-task_of-i)
          (task_is at.After-task_of-i) (due_is at.After-time_of-due) (omega arith)
          (omega (arith, c.if-soon-done.false)) (omega (arith, c.if-due-done.false)) (omega (arith, c.if-end-done.false))),
      rw e.releases c.requires.1,
    )
