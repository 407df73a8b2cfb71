-- The jobs inside an interval in closed form, exact before a first release and where the offset is above the period.
use Rattle.std.specs.Prelude.{◌≡◌, ℕ, suc, ◌+◌, ◌-◌, ◌/◌}
use Rattle.std.proofs.Common.{◌∙◌, arith}
use Rattle.values.specs.declared.Task.{Task}
use Rattle.model.specs.Tasks.{offset, release, due}
use Rattle.model.specs.Demand.{jobs_in}
use Rattle.counting.specs.Below.{Grows, below, below_period, upto_period, count_inside}
use Rattle.wellformed.specs.Ranges.{InRange}
use Rattle.wellformed.specs.Demand.{jobs_numbered}

module _ (k : Task) (r : InRange k) where
  pub releases : Grows (release k)
  releases j = omega (arith, r.period_pos)

  pub dues : Grows (due k)
  dues j = omega (arith, r.period_pos)

  -- The jobs that are due by `to`, but for those released before `from`.
  pub jobs_inside : (from to : ℕ) → jobs_in k from to ≡ below (due k) (suc to) - below (release k) from
  jobs_inside from to =
      jobs_numbered k r.period_pos r.deadline_pos from to ∙ count_inside (release k) (due k) releases dues (λ j. omega (arith, r.deadline_pos)) from to

  pub jobs_closed : (from to : ℕ) → jobs_in k from to ≡ (to + k.period - (offset k + k.deadline)) / k.period - (from - offset k + (k.period - 1)) / k.period
  jobs_closed from to =
      omega (
        arith,
        jobs_inside from to,
        below_period (offset k) k.period r.period_pos from,
        upto_period (offset k) k.period r.period_pos k.deadline to,
      )
