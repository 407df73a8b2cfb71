-- TOO MUCH (`never_iff`): no interval ever asks too much exactly if no deadline is ever late.
use Rattle.std.specs.Prelude.{◌↔◌, ℕ, ◌-◌, ◌<◌, T}
use Rattle.values.specs.declared.Table.{Table}
use Rattle.model.specs.Demand.{demand, asks_too_much, late_at}
use Rattle.counting.specs.Count.{tests, and_iff, some_iff}

-- No interval of the table ever asks too much.
abbrev pub NeverTooMuch : Table → Type 0
NeverTooMuch t = (from to : ℕ) → T (asks_too_much t from to) → ⊥

-- An interval that asks too much, read.
pub too_much_iff : (t : Table) (from to : ℕ) → T (asks_too_much t from to) ↔ ((from < to) × (to - from < demand t from to))
too_much_iff t from to = (λ h. let w = simp and_iff at h in (omega tests, omega tests), λ h. simp and_iff (omega (tests, h.0), omega (tests, h.1)))

-- A late deadline is where some interval that asks too much ends.
pub late_at_iff : (t : Table) (to : ℕ) → T (late_at t to) ↔ ((from : ℕ) × T (asks_too_much t from to))
unfolding late_at
late_at_iff t to = (
  λ h. let (from, l, w) = (some_iff (λ from. asks_too_much t from to) to).0 h in (from, w),
  λ h. (some_iff (λ from. asks_too_much t from to) to).1 (h.0, ((too_much_iff t h.0 to).0 h.1).0, h.1),
)

pub never_iff : (t : Table) → NeverTooMuch t ↔ ((to : ℕ) → T (late_at t to) → ⊥)
never_iff t = (λ h to w. let (from, x) = (late_at_iff t to).0 w in h from to x, λ h from to x. h to ((late_at_iff t to).1 (from, x)))
