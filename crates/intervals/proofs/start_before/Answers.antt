-- The start so far is the latest of the releases of the tasks passed that are not too light.
use mathlib.Core.Logic.{inl, inr}
use mathlib.Core.Path.{◌≡◌, ◌∙◌, subst}
use Prim.Native.Nat.{ℕ, ◌≤◌, ◌<◌}
use borrow.Author.Tests.{lt-ltb}
use Rattle.std.specs.Ordering.{nat_cmp, ord_max}
use Rattle.std.proofs.Common.{length, take}
use Rattle.std.proofs.lemmas.List.{get_or-take}
use Rattle.model.specs.Tasks.{no_task}
use native.Mathlib.Decide.{dec_lt}
use native.Mathlib.Omega.{arith}
use Rattle.values.specs.declared.Table.{Table}
use Rattle.intervals.specs.Starts.{PassedOver}
use Rattle.intervals.proofs.start_before.Goals.{Joined-spare-tasks, then-spare-tasks, else-spare-tasks}
use Rattle.intervals.proofs.start_before.Goals as goal

-- A later start passes over no less.
higher : (t : Table) {spare low high from : ℕ} (k : ℕ) → low ≤ high → PassedOver t spare low from k → PassedOver t spare high from k
higher t k h (inl p) = inl p
higher t k h (inr p) = inr (λ j l. omega (arith, p j l))

-- The later of two is no lower than either, and below what both are below.
later : (a b : ℕ) → (a ≤ ord_max nat_cmp a b) × (b ≤ ord_max nat_cmp a b) × ((m : ℕ) → a < m → b < m → ord_max nat_cmp a b < m)
later a b = elim (dec_lt b a) [
  | yes h ↦ rw (lt-ltb b a h) (omega arith, omega arith, λ m x y. x)
  | no h ↦ grind arith
]

-- Of the next task: the start is no lower than before, lies before `from`, and passes over the task.
turned : (c : Joined-spare-tasks) → (c.loop-task.start ≤ c.if-spare-tasks.start)
    × (0 < c.args.from → c.if-spare-tasks.start < c.args.from) × PassedOver c.args.t c.args.spare c.if-spare-tasks.start c.args.from c.loop-task.task-index
turned c =
    let e = get_or-take c.args.t.count c.args.t.tasks c.loop-task.task-index no_task (omega arith) in
    let n : length (take c.args.t.count c.args.t.tasks) ≡ c.args.t.count = omega arith in
    elim c.if-spare-tasks.branch [
      | then-spare-tasks w ↦
          let (x, y, z) = later c.loop-task.start w.release_before.result in
          let k : c.if-spare-tasks.start ≡ ord_max nat_cmp c.loop-task.start w.release_before.result = w.start-is ∙ w.max-start.ensures in
          let f = rw e at w.release_before.ensures in
          rw k (x, λ h. z c.args.from (c.loop-task.invariant.0 h) (f.0 h), inr (λ j l. omega (arith, f.1 j l, y)))
      | else-spare-tasks w ↦ (
        omega (arith, w.start-is),
        λ h. omega (arith, c.loop-task.invariant.0 h, w.start-is),
        inl (rw (← e, ← c.from.ensures) (omega (arith, rw n at w.if-spare-tasks.false))),
      )
    ]

pub loop-task-preserved : goal.loop-task-preserved
loop-task-preserved c =
    let (x, y, z) = turned (goal.at.loop-task-preserved c).Joined-spare-tasks in (
      y,
      λ k l. elim (dec_lt k c.loop-task.task-index) [
        | yes p ↦ higher c.args.t k x (c.loop-task.invariant.1 k p)
        | no p ↦ (let e : c.loop-task.task-index ≡ k = omega arith in subst (PassedOver c.args.t c.args.spare c.if-spare-tasks.start c.args.from) e z)
      ],
    )
