-- The lines of the tasks below `task` are put.
use Rattle.std.proofs.Common.{◌≡◌, ◌<◌, add-one, arith, length, take, rules, length-take-le, get_or}
use Rattle.std.proofs.lemmas.List.{get_or-take}
use Rattle.model.specs.Limits.{task_limit}
use Rattle.model.specs.Notation.{text}
use Rattle.model.specs.Report.{worst_lines}
use Rattle.words.specs.Out.{none, both}
use mir.Val.{Fits as FitsWord}
use mir.Syntax.{w32}
use Rattle.report.proofs.Fits.{lines_short}
use Rattle.report.proofs.Pieces.{next_fits}
use Rattle.report.proofs.put_worst_lines.Goals.{Start, After-from}
use Rattle.report.proofs.put_worst_lines.Goals as goal

-- The responses that are told.
told : (c : Start) → length (take c.args.tasks c.args.worst) ≡ c.args.tasks
told c =
    let size : length c.args.worst ≡ task_limit = search rules in
    length-take-le c.args.tasks c.args.worst (omega arith)

inside : (c : After-from) → c.loop-task.task < c.args.tasks
inside c = let size = told (goal.at.After-from c).Start in omega arith

response : (c : After-from) → c.from.result ≡ get_or c.args.worst c.loop-task.task 0
response c =
    let item : c.from.result ≡ get_or (take c.args.tasks c.args.worst) c.loop-task.task 0 = search rules in
    rw (get_or-take c.args.tasks c.args.worst c.loop-task.task 0 (inside c)) at item

pub loop-task-init : goal.loop-task-init
unfolding worst_lines
loop-task-init c = none _

pub put_pair-requires : goal.put_pair-requires
unfolding text
put_pair-requires c =
    let here = (goal.at.put_pair-requires c).After-from in
    rw (response here) (next_fits c.args.worst c.loop-task.task c.args.tasks (inside here) c.loop-task.invariant c.requires.room)

pub loop-task-preserved : goal.loop-task-preserved
unfolding worst_lines text
loop-task-preserved c =
    let here = (goal.at.loop-task-preserved c).After-from in
    rw add-one (both c.loop-task.invariant (rw (response here) at c.put_pair.ensures))

pub returns-clause-put : goal.returns-clause-put
returns-clause-put c =
    let size = told (goal.at.returns-clause-put c).Start in
    let all : c.loop-task.task ≡ c.args.tasks = omega arith in
    rw all at c.loop-task.invariant

pub returns-clause-upper_bound : goal.returns-clause-upper_bound
returns-clause-upper_bound c =
    let size = told (goal.at.returns-clause-upper_bound c).Start in
    let all : c.loop-task.task ≡ c.args.tasks = omega arith in
    let lines = rw all at c.loop-task.invariant in
    let short = lines_short c.args.worst c.args.tasks (omega arith)
    (λ k h. let f : FitsWord w32 (get_or c.args.worst k 0) = search rules in omega (arith, f)) in
    omega (arith, lines.put.place, short)
