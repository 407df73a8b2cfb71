-- What a writer says, as a number.
use Rattle.model.specs.Values.{Writing}
use Rattle.std.specs.Prelude.{◌≡◌, List, ℕ}
use Rattle.model.specs.Report.{Exported}
use Rattle.model.specs.Writer.{fill_told}

-- The number that tells what a writer says, whatever the buffer holds.
abbrev pub ToldAs : Writing → ℕ → Type 0
ToldAs said n = (buffer : List ℕ) → ◌≡◌ {A = Exported} (record { number = n; buffer = buffer }) (fill_told buffer said)
