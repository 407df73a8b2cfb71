-- NECESSARY AND SUFFICIENT (`feasible_iff`): some schedule of a table that keeps its ranges is good exactly if no interval ever asks too much.
use Rattle.std.specs.Prelude.{◌↔◌}
use Rattle.std.proofs.Common.{arith}
use Rattle.values.specs.declared.Table.{Table}
use Rattle.model.specs.Schedule.{Schedule, Good}
use Rattle.model.specs.Run.{run}
use Rattle.wellformed.specs.Ranges.{Ranged}
use Rattle.backlog.proofs.TableSystem.{tie_system}
use Rattle.backlog.specs.TooMuch.{NeverTooMuch, too_much_iff}
use Rattle.backlog.specs.Necessary.{necessary}
use Rattle.backlog.proofs.Sufficient.{sufficient}

-- Some schedule of the table is good.
abbrev pub Feasible : Table → Type 0
Feasible t = (σ : Schedule) × Good t σ

pub feasible_iff : (t : Table) → Ranged t → Feasible t ↔ NeverTooMuch t
feasible_iff t r = (
  λ h from to w. let (l, d) = (too_much_iff t from to).0 w in omega (arith, necessary h.0 from to t r h.1),
  λ h. (run t _, sufficient (tie_system t r) h),
)
