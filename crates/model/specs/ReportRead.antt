-- What a host reads off a report: whether it says that the table passes.
use Rattle.std.specs.Prelude.{List, [], ◌∷◌, Bool, false, cond, ◌&&◌, ◌||◌, ℕ, leb, length}
use Rattle.model.specs.Notation.{text}
use Rattle.model.specs.Limits.{report_bytes}
use Rattle.model.specs.PlainText.{lines_of, same}

-- Whether one of these lines is this one.
unfoldable pub has_line : List ℕ → List (List ℕ) → Bool
has_line w [] = false
has_line w (l ∷ ls) = same l w || has_line w ls

-- The line that says so, in a text that is no longer than a report can be: a refusal,
-- handed over for a length, is longer.
abbrev pub says_passes : List ℕ → Bool
says_passes s = leb (length s) report_bytes && has_line (text "verdict passes") (lines_of s)

-- What the exported call returns of any bytes: 1 or 0.
abbrev pub passes_exported : List ℕ → ℕ
passes_exported s = cond (says_passes s) 1 0
