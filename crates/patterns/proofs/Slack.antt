-- SLACK (`slack_enough`): by u at most u slots are asked for, if the slack of the deadlines is below H and u times what the load leaves of H.
use Rattle.std.specs.Prelude.{ℕ, ◌+◌, ◌-◌, ◌*◌, ◌/◌, ◌≤◌, ◌<◌}
use Rattle.std.proofs.Common.{mul_comm, mul-add, mul-le-mul_left}
use Rattle.std.proofs.Math.Nat.{mul_left_comm, add-mul, mul-sub, div-mul-le_self}
use Rattle.std.proofs.Math.Decide.{dec_lt}
use native.Mathlib.Omega.{arith}
use Rattle.values.specs.declared.Table.{Table}
use Rattle.model.specs.Tasks.{task, round, load}
use Rattle.counting.specs.Sum.{sum_le, sum_add, sum_mul}
use Rattle.wellformed.specs.Ranges.{Ranged}
use Rattle.wellformed.specs.Round.{share, shares_round}
use Rattle.patterns.specs.Asked.{due_by, asked_of, asked}
use Rattle.patterns.specs.Slack.{slack_at, slack}

module _ (t : Table) (r : Ranged t) where
  -- H-fold, what is asked for by u is at most the load of u slots and the slack.
  asked_slack : (u : ℕ) → round t * asked t u ≤ u * load t + slack t
  unfolding asked load slack
  asked_slack u =
      omega (
        arith,
        sum_mul t.count (round t) (asked_of t u),
        sum_le t.count (λ i. round t * asked_of t u i) (λ i. u * share t (round t) i + slack_at t i) each,
        sum_add t.count (λ i. u * share t (round t) i) (slack_at t),
        sum_mul t.count u (share t (round t)),
      )
    where
      each : (i : ℕ) → i < t.count → round t * asked_of t u i ≤ u * share t (round t) i + slack_at t i
      each i l =
          let k = task t i in
          let spare = k.period - k.deadline in
          let fits : due_by k u * k.period ≤ u + spare = omega (arith, div-mul-le_self (u + k.period - k.deadline) k.period, (r.each i l).deadline_le) in
          omega (
            arith,
            shares_round t r i l (due_by k u) (u + spare) fits,
            add-mul u spare (share t (round t) i),
            mul_left_comm spare k.cost (round t / k.period),
          )

  pub slack_enough : load t ≤ round t → (u : ℕ) → slack t < round t + u * (round t - load t) → asked t u ≤ u
  slack_enough light u h = elim (dec_lt u (asked t u)) [
    | yes p ↦
        absurd (omega (
          arith,
          asked_slack u,
          mul-le-mul_left {m = u + 1} {n = asked t u} (round t) (omega arith),
          mul-add (round t) u 1,
          mul_comm (round t) u,
          mul-sub u (round t) (load t),
          mul-le-mul_left u light,
        ))
    | no p ↦ omega arith
  ]
