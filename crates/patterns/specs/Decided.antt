-- Instants that have enough.
use Rattle.std.specs.Prelude.{Bool, ℕ, ◌≤◌, ◌<◌, leb}
use Rattle.values.specs.declared.Table.{Table}
use Rattle.model.specs.Tasks.{round}
use Rattle.patterns.specs.Asked.{asked}

-- The jobs due by u ask for no more than u slots.
abbrev pub enough : Table → ℕ → Bool
enough t u = leb (asked t u) u

-- Every instant beyond `low` and up to `high` has enough; and so has every one beyond the bound and up to H.
abbrev pub EnoughBetween : Table → ℕ → ℕ → Type 0
EnoughBetween t low high = (u : ℕ) → low < u → u ≤ high → asked t u ≤ u

abbrev pub EnoughBeyond : Table → ℕ → Type 0
EnoughBeyond t bound = EnoughBetween t bound (round t)
