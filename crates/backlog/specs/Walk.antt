-- A walk: a history without done reports.
use Rattle.std.specs.Prelude.{Bool, false, ℕ, ◌<◌, T}
use Rattle.values.specs.declared.Table.{Table}
use Rattle.model.specs.Demand.{late_at}
use Rattle.model.specs.Run.{Order, tie_order}
use Rattle.model.specs.Dispatcher.{State}
use Rattle.model.specs.History.{state_at_by}

-- No done report, ever.
abbrev pub quiet : ℕ → Bool
quiet n = false

-- The state before slot n of a walk: a history without reports.
abbrev pub walked_by : Table → Order → ℕ → State
walked_by t rank n = state_at_by t rank quiet n

abbrev pub walked : Table → ℕ → State
walked t n = walked_by t (tie_order t) n

-- No deadline before n is late.
abbrev pub Clear : Table → ℕ → Type 0
Clear t n = (u : ℕ) → u < n → T (late_at t u) → ⊥
