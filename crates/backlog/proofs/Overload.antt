-- OVERLOAD (`over_of_load`): if the jobs of a round ask for more slots than it has, some interval asks too much.
use Rattle.std.specs.Prelude.{◌≡◌, ℕ, suc, ◌+◌, ◌*◌, ◌≤◌, ◌<◌}
use Rattle.std.proofs.Common.{ap, mul-le-mul_right}
use Rattle.std.proofs.Math.Nat.{mul-le-mul_left}
use Rattle.std.proofs.Math.Decide.{dec_le}
use native.Mathlib.Omega.{arith}
use Rattle.counting.specs.Sum.{sum_le, sum_mul}
use Rattle.counting.specs.Below.{below, below_least}
use Rattle.backlog.specs.Streams.{Run, work, arrivals_none}
use Rattle.backlog.specs.Criterion.{Met, Over, met_iff, demand, demand_is}
use Rattle.backlog.specs.System.{System, size, cost_of, period_of, key_of}
use Rattle.backlog.proofs.System.{jobs, dues}
use Rattle.backlog.specs.Shift.{Cycle, Light, load_of}

module _ (S : System) (Y : Cycle S) where
  -- From 0 to a whole number of rounds after the start and one round more, all jobs of these rounds are due.
  jobs_due : (i m : ℕ) → i < size S → m * Y.times i ≤ below (key_of S i) (suc ((dues S).cut (Y.start + Y.round + m * Y.round)))
  jobs_due i m l = below_least (key_of S i) ((jobs S).key_grows i l) _ (m * Y.times i) (λ j h. after j h)
    where
      after : (j : ℕ) → j < m * Y.times i → key_of S i j < suc ((dues S).cut (Y.start + Y.round + m * Y.round))
      after j h =
          let a : suc j * period_of S i ≤ m * Y.times i * period_of S i = mul-le-mul_right (period_of S i) h in
          let b : m * Y.times i * period_of S i ≡ m * Y.round = omega (arith, ap (λ (x : ℕ). m * x) (Y.common i l)) in
          omega (arith, ((dues S).cut_law i j (Y.start + Y.round + m * Y.round) l).1 (omega (arith, Y.starts i l, S.deadline_le i l)))

  abbrev last : ℕ → ℕ
  last m = (dues S).cut (Y.start + Y.round + m * Y.round)

  many : (m : ℕ) → m * load_of S Y ≤ demand (jobs S) (dues S) 0 (Y.start + Y.round + m * Y.round)
  unfolding load_of
  many m =
      omega (
        arith,
        demand_is (jobs S) (dues S) 0 (Y.start + Y.round + m * Y.round),
        arrivals_none (jobs S) (last m),
        sum_mul (size S) m (λ i. cost_of S i * Y.times i),
        sum_le (size S) (λ i. m * (cost_of S i * Y.times i)) (work (jobs S) (last m)) (λ i l. omega (arith, mul-le-mul_left (cost_of S i) (jobs_due i m l))),
      )

  pub over_of_load : Y.round < load_of S Y → (t : ℕ) × Over (jobs S) (dues S) t
  over_of_load heavy =
      let a = Y.start + Y.round in
      let m = suc a in
      (a + m * Y.round, (0, omega arith, omega (arith, many m, mul-le-mul_left m heavy)))

  -- So there is none where the run meets every deadline.
  pub light_of_met : (s : ℕ → ℕ → ℕ) → Run (jobs S) s → Met (jobs S) (dues S) s → Light S Y
  light_of_met s R met = elim (dec_le (load_of S Y) Y.round) [
    | yes p ↦ p
    | no p ↦ (let (t, (u, l, over)) = over_of_load (omega arith) in absurd (omega (arith, (met_iff (jobs S) (dues S) s R).0 met u t l)))
  ]
