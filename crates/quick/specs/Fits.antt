-- The sums of the quick test fit their numbers.
use Rattle.std.specs.Prelude.{ℕ, ◌+◌, ◌-◌, ◌*◌, ◌/◌, ◌≤◌}
use Rattle.std.proofs.Common.{le_trans, mul-le-mul, mul-le-mul_right, arith}
use Rattle.std.proofs.Math.Nat.{mul-div-le}
use Rattle.values.specs.declared.Task.{Task}
use Rattle.model.specs.Limits.{slot_limit, round_limit}
use Rattle.wellformed.specs.Ranges.{InRange}
use Rattle.patterns.specs.Asked.{due_by}
use Rattle.patterns.specs.Slack.{slack_of}

-- One task's part of what is asked for, and of the slack.
abbrev pub asked_limit : ℕ
asked_limit = slot_limit + round_limit

abbrev pub slack_limit : ℕ
slack_limit = slot_limit * round_limit

module _ (k : Task) (r : InRange k) where
  -- The periods of the jobs due by u end no later than u, but for the last.
  pub due_le : (u : ℕ) → u ≤ round_limit → k.period * due_by k u ≤ asked_limit
  due_le u h = omega (arith, mul-div-le (u + k.period - k.deadline) k.period, r.period_le)

  pub asked_le : (u : ℕ) → u ≤ round_limit → k.cost * due_by k u ≤ asked_limit
  asked_le u h = le_trans (mul-le-mul_right (due_by k u) (le_trans r.cost_le r.deadline_le)) (due_le u h)

  -- Before the cost, the slack of a task is at most H.
  pub spare_le : (h : ℕ) → h ≤ round_limit → (k.period - k.deadline) * (h / k.period) ≤ round_limit
  spare_le h l =
      le_trans (mul-le-mul_right {m = k.period - k.deadline} {n = k.period} (h / k.period) (omega arith)) (omega (arith, mul-div-le h k.period))

  pub slack_le : (h : ℕ) → h ≤ round_limit → slack_of k h ≤ slack_limit
  slack_le h l = mul-le-mul {n₂ = slot_limit} {m₂ = round_limit} (omega (arith, r.cost_le, r.deadline_le, r.period_le)) (spare_le h l)
