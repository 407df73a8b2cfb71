-- What is written stands at the front of the buffer.
use Rattle.std.specs.Prelude.{◌≡◌, List, ◌++◌, ℕ, length, take, drop}
use Rattle.std.proofs.Common.{ap, arith, length-append}
use Rattle.std.proofs.Math.Seq.{take-append_seam}
use Rattle.io.specs.Counts.{IsPrefixLen}
use Rattle.values.specs.declared.Table.{Table}
use Rattle.model.specs.Tasks.{judged}
use Rattle.model.specs.Report.{Exported, report_of, written, refusal_line}
use Rattle.tablefile.specs.Told.{TableTold}
use Rattle.report.specs.Put.{exported}

-- What a table is told as, written from the front.
abbrev pub TablePrinted : List ℕ → Table → ℕ → Exported → Type 0
TablePrinted before t budget e = (piece : List ℕ) × (e ≡ written piece before) × TableTold refusal_line report_of t budget piece (judged t)

pub front : {r : ℕ} {after : List ℕ} (piece before : List ℕ) → exported r after ≡ written piece before → take r after ≡ piece
front {r} {after} piece before h =
    let n : r ≡ length piece = ap (λ (e : Exported). e.number) h in
    let b : after ≡ piece ++ drop (length piece) before = ap (λ (e : Exported). e.buffer) h in
    rw (n, b) (take-append_seam piece (drop (length piece) before))

pub counted : {r : ℕ} {after : List ℕ} (piece before : List ℕ) → exported r after ≡ written piece before → IsPrefixLen r after
counted {r} {after} piece before h =
    let n : r ≡ length piece = ap (λ (e : Exported). e.number) h in
    let b : after ≡ piece ++ drop (length piece) before = ap (λ (e : Exported). e.buffer) h in
    let l = ap (λ (s : List ℕ). length s) b in
    let t = ap (λ (s : List ℕ). length s) (front piece before h) in
    (omega (arith, l, length-append piece (drop (length piece) before)), omega (arith, t))
