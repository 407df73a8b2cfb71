-- The answer is the refusal.
use native.Mathlib.Omega.{arith}
use Rattle.checkcalls.proofs.refuse.Goals as goal

pub returns : goal.returns
returns c = record { result_value = rw c.refuse.ensures; tasks_le_task_limit = omega arith }
