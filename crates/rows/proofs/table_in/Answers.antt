-- The rows below `i` are in the table.
use Rattle.std.proofs.Common.{ℕ, ◌≡◌, ◌∙◌, ◌<◌, min, length, take, ap, arith, replicate, [], List, get_or, slice_index_or}
use Rattle.std.proofs.lemmas.List.{get_or-take, length-take}
use Rattle.model.specs.Limits.{task_limit}
use Rattle.model.specs.Notation.{fill}
use Rattle.model.specs.Tasks.{no_task}
use Rattle.model.specs.Writer.{rows, row_task, table_in}
use Rattle.counting.specs.Fill.{fill_none, fill_put, fill_done}
use Rattle.rows.proofs.Rows.{chunks, row_task_is}
use Rattle.rows.proofs.table_in.Goals as goal

pub loop-i-init : goal.loop-i-init
loop-i-init c = rw c.no_task-tasks.ensures (fill_none _ _)

pub loop-i-preserved : goal.loop-i-preserved
loop-i-preserved c =
    let front = c.as_chunks.result.0.now in
    let long = length-take c.min.result front in
    let below : c.loop-i.i < c.min.result = omega (arith, long, c.loop-i-test.true) in
    let words = c.args.words.now in
    let row : slice_index_or (take c.min.result front) c.loop-i.i [] ≡ get_or (chunks words) c.loop-i.i [] =
    get_or-take c.min.result front c.loop-i.i [] below ∙ ap (λ (f : List (List ℕ)). get_or f c.loop-i.i []) c.as_chunks.ensures.front in
    fill_put _ _ _ c.loop-i.invariant
    (c.row_task.ensures ∙ ap (λ (r : List ℕ). row_task r 0) row
    ∙ row_task_is words c.loop-i.i (omega (arith, below, c.min.ensures, c.as_chunks.ensures.front_len)))

pub returns : goal.returns
unfolding table_in
returns c =
    let words = c.args.words.now in
    let long = length-take c.min.result c.as_chunks.result.0.now in
    let count : length c.as_chunks.result.0.now ≡ rows words = c.as_chunks.ensures.front_len in
    let tasks : c.loop-i.tasks ≡ fill (min (rows words) task_limit) (row_task words) (replicate task_limit no_task) =
    fill_done _ _ c.loop-i.i _ (omega (arith, long, c.min.ensures, count, c.loop-i-test.false))
    (omega (arith, long, c.min.ensures, count, c.loop-i.auto.i-end)) c.loop-i.invariant in
    rw (tasks, count)
