-- A whole report put into a buffer, as the model has it.
use Rattle.std.specs.Prelude.{◌≡◌, List, ℕ, ◌+◌, ◌≤◌, length}
use Rattle.std.proofs.Common.{arith}
use Rattle.std.proofs.lemmas.List.Edits.{sets-eq}
use Rattle.model.specs.Report.{Exported, written}
use Rattle.counting.specs.Put.{Put}

-- A result and what the buffer then holds, as the model has them.
abbrev pub exported : ℕ → List ℕ → Exported
exported n l = record { number = n; buffer = l }

-- A piece at the front of a long enough buffer is what the model calls written.
pub at_front : {piece before after : List ℕ} {next : ℕ} → Put piece 0 before after next → next ≤ length before → exported next after ≡ written piece before
at_front {piece} {before} p h =
    let n : 0 + length piece ≡ length piece = omega arith in
    let place = p.place in
    let bytes = p.bytes in
    rw (place, bytes, sets-eq piece before 0 (omega arith), n)
