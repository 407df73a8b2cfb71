-- A report takes at most the bytes of a report buffer.
use Rattle.std.specs.Prelude.{Bool, true, false, List, ◌++◌, ℕ, zero, suc, ◌*◌, ◌^◌, ◌≤◌, ◌<◌, length, get_or}
use Rattle.std.proofs.Common.{arith, length-append}
use Rattle.values.specs.declared.Answer.{Answer}
use Rattle.values.specs.declared.Verdict.{Verdict}
use Rattle.model.specs.Limits.{task_limit, report_bytes}
use Rattle.model.specs.Notation.{text, decimal}
use Rattle.model.specs.Report.{line, quick_word, verdict_word, worst_lines, details, report_of}
use Rattle.text.specs.Decimal.{short, wide}
use Rattle.report.specs.Fits.{worst_bytes, details_bytes, Printable}

pub worst_short : (k x : ℕ) → k < task_limit → x < 2 ^ 32 → length (line (text "worst " ++ decimal k ++ text " " ++ decimal x)) ≤ worst_bytes
unfolding text
worst_short k x h l = simp length-append (omega (arith, short 1 k (omega arith), short 9 x (omega arith)))

pub lines_short : (w : List ℕ) (n : ℕ) → n ≤ task_limit → ((k : ℕ) → k < n → get_or w k 0 < 2 ^ 32) → length (worst_lines w n) ≤ n * worst_bytes
unfolding worst_lines
lines_short w zero h f = omega arith
lines_short w (suc n) h f =
    rw length-append
    (omega (arith, lines_short w n (omega arith) (λ k l. f k (omega arith)), worst_short n (get_or w n 0) (omega arith) (f n (omega arith))))

quick_short : (b : Bool) → length (quick_word b) ≤ 4
unfolding text
quick_short true = omega arith
quick_short false = omega arith

verdict_short : (v : Verdict) → length (verdict_word v) ≤ 9
unfolding text
verdict_short Verdict.Passes = omega arith
verdict_short Verdict.Overload = omega arith
verdict_short (Verdict.Late from to asked) = omega arith
verdict_short Verdict.Undecided = omega arith

details_short : (n : ℕ) (a : Answer) (v : Verdict) → Printable n a v → length (details n a v) ≤ details_bytes
unfolding text
details_short n a Verdict.Passes p = simp length-append (omega (arith, lines_short a.worst n p.tasks p.worst, wide a.idle p.idle))
details_short n a Verdict.Overload p = omega arith
details_short n a (Verdict.Late from to asked) p =
    simp length-append (omega (arith, wide from p.verdict.0, wide to p.verdict.1, wide asked p.verdict.2))
details_short n a Verdict.Undecided p = omega arith

-- A report fits a report buffer.
pub fits : (n : ℕ) (quick : Bool) (a : Answer) (v : Verdict) → Printable n a v → length (report_of n quick a v) ≤ report_bytes
unfolding report_of text
fits n quick a v p =
    simp length-append
    (omega (
      arith,
      short 1 n (omega arith),
      wide a.measure.load p.load,
      wide a.measure.round p.round,
      quick_short quick,
      wide a.measure.horizon p.horizon,
      wide a.settled p.settled,
      verdict_short v,
      details_short n a v p,
    ))
