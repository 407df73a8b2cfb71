-- What a line can have wrong: the number of each fault, and what a result says of a fault and of values.
use Rattle.std.specs.Prelude.{List, [], ℕ}
use Rattle.std.specs.declared.result.Result.{Result}
use Rattle.std.specs.declared.result.Result.TheVariants.{Ok, Err}
use Rattle.model.specs.Values.{Line}
use Rattle.values.specs.declared.Entry.{Entry}
use Rattle.values.specs.declared.Fault.{Fault}
use Rattle.values.specs.Numbers.{number_of}

-- The number of the fault, or 0; and the value, or 0, or the values, or none.
abbrev pub fault_in : {A : Type 0} → Result A Fault → ℕ
fault_in (Ok v) = 0
fault_in (Err f) = number_of f

abbrev pub value_in : Result ℕ Fault → ℕ
value_in (Ok v) = v
value_in (Err f) = 0

abbrev pub values_in : Result (List ℕ) Fault → List ℕ
values_in (Ok vs) = vs
values_in (Err f) = []

-- What a line says, as a line with a fault says it.
abbrev pub said : Result Entry Fault → Line
said (Ok l) = Ok l
said (Err f) = Err (number_of f)
