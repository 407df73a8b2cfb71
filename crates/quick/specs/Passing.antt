-- Quick pass by its parts: the load, the bound, and the way down from it.
use Rattle.std.specs.Prelude.{◌≡◌, Bool, true, false, ℕ, suc, ◌-◌, ◌*◌, ◌/◌, ◌≤◌, ◌<◌, min, Ok}
use Rattle.std.proofs.Common.{sym, div-lt_iff_lt-mul, arith}
use Rattle.std.proofs.Math.Decide.{dec_le}
use Rattle.values.specs.declared.Table.{Table}
use Rattle.values.specs.declared.Measure.{Measure}
use Rattle.model.specs.Notation.{every}
use Rattle.model.specs.Tasks.{round, load, judged_mixed}
use Rattle.model.specs.Patterns.{quick_pass}
use Rattle.counting.specs.Count.{tests, is_false, all_pass, one_fails}
use Rattle.wellformed.specs.Ranges.{Ranged}
use Rattle.wellformed.specs.Round.{RoundKept}
use Rattle.wellformed.specs.WellFormed.{WellFormed, well_mixed, mixed_iff}
use Rattle.patterns.specs.Quick.{quick_light}
use Rattle.patterns.specs.Asked.{asked}
use Rattle.patterns.proofs.Asked.{asked_none, asked_mono}
use Rattle.patterns.specs.Decided.{enough, EnoughBetween, EnoughBeyond}
use Rattle.patterns.proofs.Decided.{quick_decided}
use Rattle.patterns.specs.Slack.{slack}
use Rattle.patterns.proofs.Slack.{slack_enough}

module _ (t : Table) (r : Ranged t) (bound : ℕ) where
  -- Further down: by an earlier instant no more is asked for than by `high`.
  pub enough_down : (high next : ℕ) → high ≤ bound → EnoughBetween t high bound → asked t high ≤ high → min (asked t high) (high - 1) ≤ next
      → EnoughBetween t next bound
  enough_down high next l down fits far u a b = elim (dec_le u high) [
    | yes p ↦ omega (arith, asked_mono t r u high p)
    | no p ↦ down u (omega arith) b
  ]

  -- At 0 all have enough; and where one has not, not all have.
  pub down_to_0 : EnoughBetween t 0 bound → true ≡ every (enough t) (suc bound)
  down_to_0 down = all_pass (enough t) (suc bound) (λ u l. omega (tests, at u (omega arith)))
    where
      at : (u : ℕ) → u ≤ bound → asked t u ≤ u
      at u l = elim (dec_le 1 u) [ yes p ↦ down u (omega arith) l | no p ↦ (let e : u ≡ 0 = omega arith in rw e (omega (arith, asked_none t r))) ]

  pub too_much : (u : ℕ) → u ≤ bound → u < asked t u → false ≡ every (enough t) (suc bound)
  too_much u l h = one_fails (enough t) (suc bound) u (omega arith) (λ fits. absurd (omega (tests, fits)))

module _ (t : Table) {m : Measure} (well : judged_mixed t ≡ Ok m) where
  abbrev facts : WellFormed t m
  facts = well_mixed t m well

  pub kept : RoundKept t m.round
  kept = record { is = facts.round_is; le = omega (arith, facts.round_is, ((mixed_iff t m).0 well).1) }

  -- Overload does not pass.
  pub overload_fails : m.round < m.load → false ≡ quick_pass t
  overload_fails h = sym (is_false (quick_pass t) (λ p. absurd (omega (arith, quick_light t p, facts.round_is, facts.load_is))))

  module _ (light : m.load ≤ m.round) where
    light_is : load t ≤ round t
    light_is = omega (arith, facts.round_is, facts.load_is)

    -- The three bounds: 0, where the slack is less than H; H; and where what the load leaves has used up the slack.
    pub beyond_0 : slack t < m.round → EnoughBeyond t 0
    beyond_0 h u a b = slack_enough t facts.ranged light_is u (omega (arith, facts.round_is))

    pub beyond_round : (bound : ℕ) → m.round ≤ bound → EnoughBeyond t bound
    beyond_round bound h u a b = absurd (omega (arith, facts.round_is))

    pub beyond_slack : 0 < m.round - m.load → (bound : ℕ) → bound ≡ min ((slack t - m.round) / (m.round - m.load)) m.round → EnoughBeyond t bound
    beyond_slack pos bound is u a b =
        let same : round t - load t ≡ m.round - m.load = omega (arith, facts.round_is, facts.load_is) in
        let used : slack t - m.round < u * (m.round - m.load) = (div-lt_iff_lt-mul pos).0 (omega (arith, facts.round_is)) in
        slack_enough t facts.ranged light_is u (rw same (omega (arith, facts.round_is)))

    -- The instants up to such a bound decide.
    pub bound_decides : (bound : ℕ) → EnoughBeyond t bound → {q : Bool} → q ≡ every (enough t) (suc bound) → q ≡ quick_pass t
    bound_decides bound beyond e = rw (quick_decided t facts.ranged light_is bound beyond) e
