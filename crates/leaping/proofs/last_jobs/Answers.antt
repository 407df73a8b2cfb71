-- Of the tasks below i the last jobs that are due by then are in the queue.
use mathlib.Core.Path.{◌≡◌, ap, ◌∙◌}
use Prim.Native.Nat.{◌+◌, ◌-◌, ◌*◌, ◌<◌}
use native.Mathlib.Omega.{arith}
use Rattle.std.proofs.lemmas.List.{get_or-take}
use Rattle.values.specs.declared.Task.{Task}
use Rattle.model.specs.Tasks.{no_task}
use Rattle.model.specs.Demand.{jobs_in}
use Rattle.leaping.specs.Start.{due_by, released_before, jobs_due, lasts_skip, lasts_more}
use Rattle.leaping.proofs.last_jobs.Goals.{After-jobs_in-due, After-from}
use Rattle.leaping.proofs.last_jobs.Goals.{then-due-gt0, else-due-gt0}
use Rattle.leaping.proofs.last_jobs.Goals as goal

-- The jobs that are due by then, and where the last of them is released.
many : (c : After-jobs_in-due) → c.jobs_in-due.result ≡ due_by c.args.t c.args.to c.loop-i.i
many c =
    c.jobs_in-due.ensures
    ∙ ap (λ (k : Task). jobs_in k 0 c.args.to) (get_or-take c.args.t.count c.args.t.tasks c.loop-i.i no_task (omega arith))
    ∙ jobs_due _ c.requires.ranged _ c.loop-i.i (omega arith)

last_lt : (c : After-from) → c.from-first.result + (c.jobs_in-due.result - 1) * c.from.result < c.args.to
last_lt c =
    rw (c.from-first.ensures, c.offset_of.ensures, c.from.ensures, get_or-take c.args.t.count c.args.t.tasks c.loop-i.i no_task (omega arith))
    (released_before _ c.requires.ranged _ c.loop-i.i (c.jobs_in-due.result - 1) (omega arith)
    (omega (arith, many (goal.at.After-from c).After-jobs_in-due, c.if-due-gt0.true)))

pub overflow_mul-last : goal.overflow_mul-last
overflow_mul-last c = omega (arith, last_lt (goal.at.overflow_mul-last c).After-from)

pub overflow_add-last : goal.overflow_add-last
overflow_add-last c = omega (arith, last_lt (goal.at.overflow_add-last c).After-from)

pub overflow_sub-to : goal.overflow_sub-to
overflow_sub-to c = omega (arith, last_lt (goal.at.overflow_sub-to c).After-from)

pub loop-i-preserved : goal.loop-i-preserved
loop-i-preserved c =
    let v = c.loop-i.invariant in
    let l : c.loop-i.i < c.args.t.count = omega arith in
    let e = get_or-take c.args.t.count c.args.t.tasks c.loop-i.i no_task l in
    let enough = many (goal.at.loop-i-preserved c).After-jobs_in-due in
    elim c.if-due-gt0.branch [
      | then-due-gt0 w ↦ (
        rw (w.queue-is, w.insert.ensures.len) (omega (arith, v.0)),
        rw (
          w.queue-is,
          w.insert.ensures.entries,
          w.insert.ensures.len,
          w.entry.ensures,
          w.from-first.ensures,
          w.offset_of.ensures,
          w.from.ensures,
          e,
          c.requires.marked c.loop-i.i l,
        )
            (lasts_more _ c.requires.ranged _ c.loop-i.i l v.1 (c.jobs_in-due.result - 1) (omega (arith, enough, w.if-due-gt0.true))
            (omega (arith, v.0, l, c.requires.ranged.few))),
      )
      | else-due-gt0 w ↦ (
        rw w.queue-is (omega (arith, v.0)),
        rw w.queue-is (lasts_skip _ c.requires.ranged _ c.loop-i.i l v.1 (omega (arith, enough, w.if-due-gt0.false))),
      )
    ]
