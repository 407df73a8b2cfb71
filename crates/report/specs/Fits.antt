-- How many bytes each part of a report takes at most.
use Rattle.std.specs.Prelude.{ℕ, ◌+◌, ◌*◌, ◌-◌, ◌^◌, ◌≤◌, ◌<◌, get_or}
use Rattle.values.specs.declared.Answer.{Answer}
use Rattle.values.specs.declared.Verdict.{Verdict}
use Rattle.model.specs.Limits.{task_limit}
use Rattle.text.specs.Decimal.{number_bytes}

-- The line `worst 31 ..` with a number of 32 bits.
abbrev pub worst_bytes : ℕ
worst_bytes = 20

-- What follows the settled count: the worst lines, and the idle line in less room than two numbers take.
abbrev pub details_bytes : ℕ
details_bytes = (task_limit - 1) * worst_bytes + 8 + 2 * number_bytes

-- The numbers that are printed are as wide as their types: 64 bits, and 32 for a worst response.
abbrev pub Wide : ℕ → Type 0
Wide x = x < 2 ^ 64

abbrev pub VerdictWide : Verdict → Type 0
VerdictWide (Verdict.Late from to asked) = Wide from × Wide to × Wide asked
VerdictWide Verdict.Passes = Unit
VerdictWide Verdict.Overload = Unit
VerdictWide Verdict.Undecided = Unit

pub record Printable (n : ℕ) (a : Answer) (v : Verdict) : Type 0 where
  pub tasks : n ≤ task_limit
  pub load : Wide a.measure.load
  pub round : Wide a.measure.round
  pub horizon : Wide a.measure.horizon
  pub settled : Wide a.settled
  pub worst : (k : ℕ) → k < n → get_or a.worst k 0 < 2 ^ 32
  pub idle : Wide a.idle
  pub verdict : VerdictWide v
