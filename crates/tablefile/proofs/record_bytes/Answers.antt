use native.Mathlib.Omega.{arith}
use Rattle.tablefile.specs.Reading.{record_size_lem}
use Rattle.tablefile.proofs.record_bytes.Goals as goal

pub overflow_add-result : goal.overflow_add-result
overflow_add-result c = omega (arith, c.body_bytes.ensures, record_size_lem c.is_button.result)

pub returns : goal.returns
returns c = rw (← c.is_button.ensures) (omega (arith, c.body_bytes.ensures, record_size_lem c.is_button.result))
