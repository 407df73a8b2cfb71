-- A GOOD LOG (`good_written`): it is what a camera writes of some slots under some done reports, with an end.
use Rattle.std.specs.Prelude.{◌≡◌, refl, List, [], ◌∷◌, ℕ}
use Rattle.std.proofs.Common.{arith}
use Rattle.values.specs.declared.Table.{Table}
use Rattle.values.specs.declared.Finding.{Finding}
use Rattle.model.specs.Limits.{word_limit}
use Rattle.model.specs.LogBuffer.{answer_number}
use Rattle.model.specs.LogMeaning.{Begins, Found, good, differs, unknown, unheard, behind, endless, long}

pub good_written : (t : Table) (log : List ℕ) → Found t log Finding.Good → (n : ℕ) × Begins t log n (19 ∷ [])
good_written t log (good {n} b h) = (n, b)

-- As a number good is told apart from all else that is found.
pub good_told : (t : Table) (log : List ℕ) (f : Finding) → Found t log f → answer_number f ≡ word_limit → f ≡ Finding.Good
good_told t log f (good b h) e = refl
good_told t log f (differs slot rest b s h l) e = absurd (omega arith)
good_told t log f (unknown k rest b h l) e = absurd (omega arith)
good_told t log f (unheard rest b h l) e = absurd (omega arith)
good_told t log f (behind k rest b l) e = absurd (omega arith)
good_told t log f (endless part b h l) e = absurd (omega arith)
good_told t log f (long part k rest b h l) e = absurd (omega arith)
