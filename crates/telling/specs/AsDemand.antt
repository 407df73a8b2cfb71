-- BUTTONS AS TASKS (`as_demand`): the demand of that table is that of the same arrivals in the table of both sorts.
use Rattle.std.specs.Prelude.{◌≡◌, ℕ, ◌*◌}
use Rattle.std.proofs.Common.{ap}
use Rattle.values.specs.declared.Task.{Task}
use Rattle.values.specs.declared.Table.{Table}
use Rattle.model.specs.Demand.{arrived_in, demand_for, releases, demand}
use Rattle.model.specs.Arrivals.{as_tasks}
use Rattle.counting.specs.Sum.{sum_eq}
use Rattle.patterns.specs.AsTasks.{task_as}

pub as_demand : (t : Table) (from to : ℕ) → demand (as_tasks t) from to ≡ demand_for t (releases (as_tasks t)) from to
unfolding demand
as_demand t from to =
    sum_eq t.count _ _
    (λ i l. ap (λ (k : Task). k.cost * arrived_in (releases (as_tasks t) i) k.deadline from to) (task_as t i))
