-- WHAT THE TEXT TELLS: a report determines the verdict with its interval, the settled count and the worst responses,
-- and the exported call on a report says 1 exactly if the verdict is Passes.
use Rattle.std.specs.Prelude.{◌≡◌, ◌↔◌, Bool, List, ℕ, ◌≤◌, length}
use Rattle.values.specs.declared.Verdict.{Verdict}
use Rattle.values.specs.declared.Answer.{Answer}
use Rattle.model.specs.Limits.{report_bytes}
use Rattle.model.specs.Report.{report_of, written}
use Rattle.model.specs.ReportRead.{passes_exported}
use Rattle.telling.specs.Determined as determined
use Rattle.telling.specs.Determined.{SameTold}
use Rattle.telling.specs.Passes.{says_passes_lem}
use Rattle.telling.specs.ReadOff.{one_exactly}

-- Two reports that are the same text tell the same of everything in them; so do two that were written into buffers.
module _ (n n' : ℕ) (q q' : Bool) (a a' : Answer) (v v' : Verdict) where
  pub report_tells : report_of n q a v ≡ report_of n' q' a' v' → SameTold n n' q q' a a' v v'
  report_tells = determined.report_tells n n' q q' a a' v v'

  pub written_tells : (b b' : List ℕ) → written (report_of n q a v) b ≡ written (report_of n' q' a' v') b'
      → SameTold n n' q q' a a' v v'
  written_tells = determined.written_tells n n' q q' a a' v v'

-- Of a report, no longer than one can be, the exported call says 1 exactly if the verdict is Passes.
pub passes_told : (n : ℕ) (q : Bool) (a : Answer) (v : Verdict) → length (report_of n q a v) ≤ report_bytes
    → (passes_exported (report_of n q a v) ≡ 1) ↔ (v ≡ Verdict.Passes)
passes_told n q a v h =
    let one = one_exactly (report_of n q a v) in
    let says = says_passes_lem n q a v h in
    (λ e. says.0 (one.0 e), λ e. one.1 (says.1 e))
