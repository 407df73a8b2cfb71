-- What is left of a report from each of its lines on.
use Rattle.std.specs.Prelude.{◌≡◌, List, ◌++◌, ℕ, zero, suc, ◌≤◌, ◌<◌, Bool, length, get_or}
use Rattle.std.proofs.Common.{append_assoc, arith, length-append}
use Rattle.std.proofs.Math.Decide.{dec_le}
use Rattle.values.specs.declared.Answer.{Answer}
use Rattle.values.specs.declared.Verdict.{Verdict}
use Rattle.model.specs.Notation.{text, decimal}
use Rattle.model.specs.Report.{line, quick_word, verdict_word, worst_lines, details, report_of}
use Rattle.words.specs.declared.Out.{Out}
use Rattle.words.specs.Out.{Fits, Puts, second, within}

module _ (n : ℕ) (quick : Bool) (a : Answer) (v : Verdict) where
  abbrev pub from_settled : List ℕ
  from_settled = line (text "settled " ++ decimal a.settled) ++ details n a v

  abbrev pub from_verdict : List ℕ
  from_verdict = line (text "verdict " ++ verdict_word v) ++ from_settled

  abbrev pub from_horizon : List ℕ
  from_horizon = line (text "horizon " ++ decimal a.measure.horizon) ++ from_verdict

  abbrev pub from_quick : List ℕ
  from_quick = line (text "quick " ++ quick_word quick) ++ from_horizon

  abbrev pub from_load : List ℕ
  from_load = line (text "load " ++ decimal a.measure.load ++ text "/" ++ decimal a.measure.round) ++ from_quick

  abbrev pub whole : List ℕ
  whole = line (text "tasks " ++ decimal n) ++ from_load

  pub whole_report : report_of n quick a v ≡ whole
  unfolding report_of
  whole_report = simp append_assoc

-- The lines of fewer tasks are no longer.
pub lines_more : (w : List ℕ) (i n : ℕ) → i ≤ n → length (worst_lines w i) ≤ length (worst_lines w n)
unfolding worst_lines
lines_more w i zero h = let e : i ≡ zero = omega arith in rw e (omega arith)
lines_more w i (suc n) h = elim (dec_le i n) [
  | yes l ↦ omega (arith, lines_more w i n l, length-append (worst_lines w n) (line (text "worst " ++ decimal n ++ text " " ++ decimal (get_or w n 0))))
  | no l ↦ let e : i ≡ suc n = omega arith in rw e (omega arith)
]

-- Where the lines of all tasks fit, that of the next one does.
pub next_fits : (w : List ℕ) (i n : ℕ) {old between : Out} → i < n → Puts (worst_lines w i) old between → Fits (worst_lines w n) old
    → Fits (line (text "worst " ++ decimal i ++ text " " ++ decimal (get_or w i 0))) between
unfolding worst_lines
next_fits w i n {old} h p f =
    let these : Fits (worst_lines w (suc i)) old = within f (lines_more w (suc i) n (omega arith)) in
    second p these
