-- READ OFF (`read_off`): what a host reads off what a check returned and left is the report, and the exported call says 1 of
-- it exactly if it says that the table passes (`one_exactly`).
use Rattle.std.specs.Prelude.{◌≡◌, refl, ◌↔◌, Bool, true, false, cond, List, ℕ, take}
use Rattle.std.proofs.Common.{arith}
use Rattle.std.proofs.Math.Seq.{take-append_seam}
use Rattle.model.specs.Report.{Exported, written}
use Rattle.model.specs.ReportRead.{says_passes, passes_exported}

pub read_off : {e : Exported} (report buffer : List ℕ) → e ≡ written report buffer
    → take e.number e.buffer ≡ report
read_off report buffer h = rw h (take-append_seam report _)

pub one_exactly : (s : List ℕ) → (passes_exported s ≡ 1) ↔ (says_passes s ≡ true)
one_exactly s = by (says_passes s)
  where
    by : (b : Bool) → (◌≡◌ {A = ℕ} (cond b 1 0) 1) ↔ (b ≡ true)
    by true = (λ e. refl, λ e. refl)
    by false = (λ e. absurd (omega arith), λ e. let z : ◌≡◌ {A = ℕ} 0 1 = cc in absurd (omega arith))
