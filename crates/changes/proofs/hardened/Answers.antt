-- By the change.
use mathlib.Core.Path.{◌≡◌, sym, ap, subst, ◌∙◌}
use Prim.Native.Nat.{◌≤◌, ◌<◌}
use native.Mathlib.Omega.{arith}
use Rattle.values.specs.declared.Task.{Task}
use Rattle.values.specs.declared.Change.{Change}
use Rattle.model.specs.Limits.{task_limit}
use Rattle.model.specs.Tasks.{task}
use Rattle.model.specs.Fitting.{task_of}
use Rattle.changes.specs.Hardening.{steps_of, number_of, number_at, hardened, made_by, made, share_reaches}
use Rattle.changes.proofs.hardened.Goals.{After-number_at-number, After-task_of-i}
use Rattle.changes.proofs.hardened.Goals as goal

below : (c : After-task_of-i) → c.task_of-i.result < task_limit
below c = omega (arith, c.task_of-i.ensures, c.requires.ranged.few, c.requires.change_bound)

-- The number of the step.
number : (n : After-number_at-number) → n.number_at-number.result ≡ number_at n.args.t n.args.change n.args.step
number n =
    n.number_at-number.ensures ∙ ap (λ (k : Task). number_of k n.args.change n.args.step) n.changed_task.ensures.value

pub number_at-number-requires : goal.number_at-number-requires
number_at-number-requires c =
    let reach = subst (λ (k : Task). c.args.step ≤ steps_of k c.args.change) (sym c.changed_task.ensures.value) c.requires.step_bound in
    record { in_range = c.changed_task.ensures.in_range; step_bound = reach }

pub with_share-requires : goal.with_share-requires
with_share-requires c =
    let k = task c.args.t (task_of c.args.change) in record {
      ranged = c.requires.ranged;
      thousandths_le_share_limit = share_reaches k c.args.change c.number_at-number.result c.args.step c.in-Share.is c.requires.step_bound
          (number (goal.at.with_share-requires c).After-number_at-number);
    }

-- The table that is made, by what was found of the change.
by_found : (n : After-number_at-number) (found : Change) → n.args.change ≡ found
    → made_by n.args.t found n.task_of-i.result n.number_at-number.result ≡ hardened n.args.t n.args.change n.args.step
by_found n found told =
    let i = n.task_of-i.result in
    subst (λ (y : Change). made_by n.args.t y i n.number_at-number.result ≡ hardened n.args.t n.args.change n.args.step) told
    (made n.args.t n.args.change i n.number_at-number.result n.args.step n.task_of-i.ensures (number n))

pub returns-in-Cost : goal.returns-in-Cost
returns-in-Cost c = c.with_cost.ensures ∙ by_found (goal.at.returns-in-Cost c).After-number_at-number _ c.in-Cost.is

pub returns-in-Deadline : goal.returns-in-Deadline
returns-in-Deadline c = c.with_deadline.ensures ∙ by_found (goal.at.returns-in-Deadline c).After-number_at-number _ c.in-Deadline.is

pub returns-in-Share : goal.returns-in-Share
returns-in-Share c = c.with_share.ensures ∙ by_found (goal.at.returns-in-Share c).After-number_at-number _ c.in-Share.is
