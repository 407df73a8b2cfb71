-- An instant that was found before stays.
use native.Mathlib.Omega.{arith}
use borrow.Author.Tests.{lt-ltb}
use Rattle.plain.proofs.first_idle.Goals as goal

pub returns-then-idle-gt0 : goal.returns-then-idle-gt0
returns-then-idle-gt0 c = rw (lt-ltb 0 c.args.idle (omega arith))
