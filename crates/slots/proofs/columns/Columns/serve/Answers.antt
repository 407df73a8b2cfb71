-- The loop has passed over the tasks before i, none of them late.
use mathlib.Core.Path.{◌≡◌, sym, ◌∙◌}
use Prim.Native.Nat.{ℕ, ◌+◌, ◌-◌, ◌*◌, ◌<◌}
use lib.Dec.{ltb}
use Rattle.slots.specs.Choice.{ranks, key_of}
use native.Mathlib.Omega.{arith}
use borrow.Author.Tests.{lt-ltb, le-ltb}
use Rattle.model.specs.Limits.{task_limit}
use Rattle.counting.specs.Fill.{fill_read}
use Rattle.slots.specs.Slot.{at, wait_released, left_released}
use Rattle.slots.specs.Serve.{serving_start, late_here, serve_closed, serve_first, serve_later, served_late, served_quiet}
use Rattle.slots.proofs.columns.Columns.serve.Goals.{then-left-i-gt0+else-wait-i, else-left-i-gt0}
use Rattle.slots.proofs.columns.Columns.serve.Goals.{then-open-gt0+then-key-least, then-open-gt0+else-key-least, else-open-gt0}
use Rattle.slots.proofs.columns.Columns.serve.Goals as goal

pub loop-i-init : goal.loop-i-init
loop-i-init c = (omega arith, serving_start _ _ _ _ _ _ _ _)

pub returns-then-wait-i : goal.returns-then-wait-i
returns-then-wait-i c =
    let v = c.loop-i.invariant.1 in
    let k = c.args.self.now in
    served_late _ _ _ _ _ _ _ c.loop-i.i (omega arith)
    (late_here c.args.wait.now c.args.left.now k.period k.cost k.slack k.rank k.count c.loop-i.i (omega arith)
    (rw (fill_read _ _ _ 0 v.lefts) at c.if-left-i-gt0.true) (sym (fill_read _ _ _ 0 v.waits) ∙ c.if-wait-i.true))

-- An open job's key.
key : (left now slack rank : ℕ) {due k : ℕ} → 0 < left → due ≡ now - slack → k ≡ due * ranks + rank → k ≡ key_of (ltb 0 left) (now - slack) rank
key left now slack rank h e f = rw (lt-ltb 0 left h, ← e) f

pub loop-i-preserved : goal.loop-i-preserved
loop-i-preserved c =
    let v = c.loop-i.invariant.1 in
    let ew = fill_read _ _ _ 0 v.waits in
    let el = fill_read _ _ _ 0 v.lefts in
    let i = c.loop-i.i in
    let k = c.args.self.now in
    let w' : c.renew-now.result.0 ≡ wait_released c.args.wait.now k.period i = rw ew at c.renew-now.ensures.0 in
    let l : c.renew-now.result.1 ≡ left_released c.args.wait.now c.args.left.now k.cost i = rw (ew, el) at c.renew-now.ensures.1 in
    let calm : 0 < at c.args.left.now i → at c.args.wait.now i ≡ at k.slack i → ⊥ = elim c.if-left-i-gt0.branch [
      | then-left-i-gt0+else-wait-i w ↦ (λ p q. w.if-wait-i.false (ew ∙ q))
      | else-left-i-gt0 w ↦ (λ p q. absurd (omega (arith, w.if-left-i-gt0.false, el)))
    ] in
    let few : i < task_limit = omega (arith, k.few) in
    let tw = c.renew-now.ensures.2 in
    let tl = c.renew-now.ensures.3 in (
      omega arith,
      elim c.if-open-gt0.branch [
        | then-open-gt0+then-key-least w ↦
            rw (w.owner-is, w.least-is, w.rest-is, tw, tl)
            (serve_first _ _ _ _ _ _ _ v w' l calm few (key _ _ _ _ w.if-open-gt0.true w.saturating_sub.ensures w.key_of-key.ensures.0)
            (rw w.saturating_sub.ensures at w.key_of-key.ensures.1) w.key_of-key.ensures.2 w.if-key-least.true)
        | then-open-gt0+else-key-least w ↦
            rw (w.owner-is, w.least-is, w.rest-is, tw, tl)
            (serve_later _ _ _ _ _ _ _ v w' l calm few (key _ _ _ _ w.if-open-gt0.true w.saturating_sub.ensures w.key_of-key.ensures.0)
            (rw w.saturating_sub.ensures at w.key_of-key.ensures.1) w.key_of-key.ensures.2 w.if-key-least.false)
        | else-open-gt0 w ↦ rw (w.owner-is, w.least-is, w.rest-is, tw, tl) (serve_closed _ _ _ _ _ _ _ v w' l calm w.if-open-gt0.false)
      ],
    )

pub returns-then-owner-lt-NO_TASK : goal.returns-then-owner-lt-NO_TASK
returns-then-owner-lt-NO_TASK c =
    served_quiet _ _ _ _ _ _ _ c.args.self.now.few (omega arith) c.loop-i.invariant.1 (rw (lt-ltb _ _ c.if-owner-lt-NO_TASK.true))

pub returns-else-owner-lt-NO_TASK : goal.returns-else-owner-lt-NO_TASK
returns-else-owner-lt-NO_TASK c =
    served_quiet _ _ _ _ _ _ _ c.args.self.now.few (omega arith) c.loop-i.invariant.1 (rw (le-ltb _ _ c.if-owner-lt-NO_TASK.false))
