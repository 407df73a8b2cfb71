-- Some jobs of the slot are released; each turn releases the next one.
use mathlib.Core.Path.{◌≡◌, refl, sym, ap, ◌∙◌}
use Prim.Native.Nat.{ℕ, ◌+◌, ◌-◌, ◌*◌, ◌/◌, ◌%◌, ◌<◌}
use native.Mathlib.Omega.{arith}
use Rattle.model.specs.Tasks.{task}
use Rattle.slots.specs.Slot.{at}
use Rattle.leaps.specs.Entry.{places, span}
use Rattle.leaps.proofs.Entries.{mark_small}
use Rattle.leaps.proofs.Releasing.{none_released, released_task, one_released, later_next, all_released_lem}
use Rattle.leaps.proofs.release_all.Goals.{After-time_of, After-task_of-i}
use Rattle.leaps.proofs.release_all.Goals as goal

-- When the next release is, which is now.
next_is : (c : After-time_of) → c.time_of.result ≡ at c.loop-kept.kept.releases.entries (c.args.columns.now.table.count - 1) / span
next_is c =
    c.time_of.ensures ∙ ap (λ (x : ℕ). x / span) c.least.ensures
    ∙ ap (λ (k : ℕ). at c.loop-kept.kept.releases.entries (k - 1) / span) c.loop-kept.invariant.1

now-is : (c : After-task_of-i) → at c.loop-kept.kept.releases.entries (c.args.columns.now.table.count - 1) / span ≡ c.args.at
now-is c = sym (next_is (goal.at.After-task_of-i c).After-time_of) ∙ c.loop-kept-test.true

-- The task that is released, and room for its job.
task_is : (c : After-task_of-i) → c.task_of-i.result ≡ at c.loop-kept.kept.releases.entries (c.args.columns.now.table.count - 1) % places
task_is c =
    c.task_of-i.ensures ∙ ap (λ (x : ℕ). x % places) c.least-in-loop-kept.ensures
    ∙ ap (λ (k : ℕ). at c.loop-kept.kept.releases.entries (k - 1) % places) c.loop-kept.invariant.1

own : (c : After-task_of-i) → (c.task_of-i.result < c.args.columns.now.table.count) × (c.loop-kept.kept.ready.len < c.args.columns.now.table.count)
own c =
    let (i, j) = released_task _ c.requires.0.ranged c.loop-kept.invariant.0 (now-is c) in
    (omega (arith, task_is c, i), j)

-- Now and a time after it make one entry.
together : (n u m : ℕ) → n * span + (u * span + m) ≡ (n + u) * span + m
together n u m = omega arith

pub loop-kept-init : goal.loop-kept-init
loop-kept-init c = (none_released c.requires.0.held, c.requires.1, refl)

pub release-requires : goal.release-requires
release-requires c =
    let y = c.requires.0 in
    let (i, j) = own (goal.at.release-requires c).After-task_of-i in
    let k = y.ranged.each _ i in record {
      i_lt_task_limit = (omega (arith, i, y.ranged.few), omega (arith, c.loop-kept.invariant.1, y.ranged.some), omega (arith, j, y.ranged.few));
      at_lt_time_limit = (
        omega (arith, y.soon),
        omega (
          arith,
          y.columns.periods c.task_of-i.result i,
          k.period_le,
          mark_small _ y.ranged c.task_of-i.result i,
        ),
        omega (
          arith,
          y.columns.deadlines c.task_of-i.result i,
          k.deadline_le,
          k.period_le,
          mark_small _ y.ranged c.task_of-i.result i,
        ),
      );
    }

pub loop-kept-smaller : goal.loop-kept-smaller
loop-kept-smaller c =
    let y = c.requires.0 in
    let at = (goal.at.loop-kept-smaller c).After-task_of-i in
    let i = (own at).0 in
    rw (
      c.release.ensures.releases,
      c.release.ensures.releases_len,
      c.loop-kept.invariant.1,
      y.columns.periods c.task_of-i.result i,
      together _ (task c.args.columns.now.table c.task_of-i.result).period _,
      task_is at,
    ) (later_next _ y.ranged c.loop-kept.invariant.0 (now-is at))

pub loop-kept-preserved : goal.loop-kept-preserved
loop-kept-preserved c =
    let y = c.requires.0 in
    let at = (goal.at.loop-kept-preserved c).After-task_of-i in
    let i = (own at).0 in
    let e = c.release.ensures in (
      rw (
        e.releases,
        e.ready,
        e.ready_len,
        e.left,
        c.loop-kept.invariant.1,
        y.columns.periods c.task_of-i.result i,
        y.columns.deadlines c.task_of-i.result i,
        y.columns.costs c.task_of-i.result i,
        together _ (task c.args.columns.now.table c.task_of-i.result).period _,
        together _ (task c.args.columns.now.table c.task_of-i.result).deadline _,
        task_is at,
      ) (one_released _ y.ranged c.loop-kept.invariant.0 (now-is at)),
      e.releases_len ∙ c.loop-kept.invariant.1,
      e.worst ∙ c.loop-kept.invariant.2,
    )

pub returns : goal.returns
returns c = record {
  held = (
    all_released_lem _ c.requires.0.ranged c.loop-kept.invariant.0 c.requires.0.clear
        (λ e. c.loop-kept-test.false (next_is (goal.at.returns c).After-time_of ∙ e)),
    c.loop-kept.invariant.1,
  );
  worst = c.loop-kept.invariant.2;
}
