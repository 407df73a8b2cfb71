-- The records stand one after another.
use native.Mathlib.Omega.{arith}
use Rattle.words.specs.Out.{Fits, fresh, both, first, second}
use Rattle.model.specs.TableFile.{file_of}
use Rattle.tablefile.specs.Written.{file_length}
use Rattle.writer.proofs.put_file.Goals.{After-new-out}
use Rattle.writer.proofs.put_file.Goals as goal

room : (c : After-new-out) → Fits (file_of c.args.budget c.args.tasks.now) c.new-out.result
room c = fresh c.new-out.ensures.at c.new-out.ensures.buffer (omega (arith, c.requires, file_length c.args.budget c.args.tasks.now))

pub put_budget-requires : goal.put_budget-requires
put_budget-requires c = first _ (room (goal.at.put_budget-requires c).After-new-out)

pub put_tasks-requires : goal.put_tasks-requires
put_tasks-requires c = first _ (second c.put_budget.ensures (room (goal.at.put_tasks-requires c).After-new-out))

pub put_kind-requires : goal.put_kind-requires
put_kind-requires c =
    second c.put_tasks.ensures (second c.put_budget.ensures (room (goal.at.put_kind-requires c).After-new-out))

pub returns : goal.returns
returns c =
    let all = both c.put_budget.ensures (both c.put_tasks.ensures c.put_kind.ensures) in
    let same = all.same_reference in
    let put = all.put in
    grind arith
