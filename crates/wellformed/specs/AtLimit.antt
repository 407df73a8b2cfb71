-- Tables at the limit of H, whose search is too long to compute: two are read, one is refused by 7 at 0.
use Rattle.std.specs.Prelude.{◌≡◌, refl, ℕ, ◌≤◌, ◌<◌, Ok, Err}
use Rattle.std.proofs.Common.{ap, ◌∙◌, arith}
use Rattle.values.specs.declared.Table.{Table}
use Rattle.model.specs.Limits.{round_limit}
use Rattle.model.specs.Notation.{sum, largest, first}
use Rattle.model.specs.Values.{refusal}
use Rattle.model.specs.Tasks.{task_fault, first_faulty, first_button, round, load, horizon, measure, judged}
use Rattle.model.specs.Examples.{now_read, now_measured, within_limit, within_measured, above_limit, above_measured}
use Rattle.counting.specs.Divisors.{gcd, lcm, lcm_all}
use Rattle.wellformed.specs.Ranges.{Ranged, ranged}
use Rattle.wellformed.specs.Round.{period, round_lcm}
use Rattle.wellformed.specs.WellFormed.{Buttonless, buttonless_iff, judged_long, judged_of}

-- A table whose periods have h for their least common multiple, which is computed and not searched for.
module _ (t : Table) (r : Ranged t) (h : ℕ) (e : lcm_all t.count (period t) ≡ h) where
  round_is : round t ≡ h
  round_is = round_lcm t r ∙ e

  long : round_limit < h → judged t ≡ Err (refusal 7 0)
  long l = judged_long t r (omega (arith, round_is))

  short : h ≤ round_limit → Buttonless t → judged t ≡ Ok (measure t)
  short l = judged_of t r (omega (arith, round_is))

now_ranged : Ranged now_read
unfolding first_faulty task_fault first
now_ranged = ranged now_read (omega arith) (omega arith) (omega arith)

within_ranged : Ranged within_limit
unfolding first_faulty task_fault first
within_ranged = ranged within_limit (omega arith) (omega arith) (omega arith)

above_ranged : Ranged above_limit
unfolding first_faulty task_fault first
above_ranged = ranged above_limit (omega arith) (omega arith) (omega arith)

buttonless : Buttonless now_read × Buttonless within_limit
unfolding first_button first
buttonless = ((buttonless_iff now_read).0 (omega arith), (buttonless_iff within_limit).0 (omega arith))

rounds :
    (lcm_all now_read.count (period now_read) ≡ now_measured.round)
    × (lcm_all within_limit.count (period within_limit) ≡ within_measured.round)
    × (lcm_all above_limit.count (period above_limit) ≡ above_measured.round)
unfolding lcm_all lcm gcd
rounds = (refl, refl, refl)

measures : (measure now_read ≡ now_measured) × (measure within_limit ≡ within_measured)
unfolding load horizon sum largest
measures = (rw (round_is now_read now_ranged _ rounds.0) refl, rw (round_is within_limit within_ranged _ rounds.1) refl)

pub read_now : judged now_read ≡ Ok now_measured
read_now = short now_read now_ranged _ rounds.0 (omega arith) buttonless.0 ∙ ap Ok measures.0

pub read_within : judged within_limit ≡ Ok within_measured
read_within = short within_limit within_ranged _ rounds.1 (omega arith) buttonless.1 ∙ ap Ok measures.1

pub refused_above : judged above_limit ≡ Err (refusal 7 0)
refused_above = long above_limit above_ranged _ rounds.2 (omega arith)
