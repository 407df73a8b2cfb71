-- The table that is built task by task.
use Rattle.std.specs.Prelude.{◌≡◌, List, [], ◌∷◌, ◌++◌, suc, ◌+◌, ◌-◌, ◌<◌, length, set}
use Rattle.std.proofs.Common.{append_assoc, arith, length-append}
use Rattle.std.proofs.Math.Seq.{set-append_seam}
use Rattle.values.specs.declared.Task.{Task}
use Rattle.values.specs.declared.Table.{Table}
use Rattle.model.specs.Limits.{task_limit}
use Rattle.model.specs.TableFile.{table_of}

abbrev pub with_task : Table → Task → Table
with_task t k = record { count = t.count + 1; tasks = set t.tasks t.count k }

-- Storing at the count is appending.
pub stored : (ks : List Task) (k : Task) → length ks < task_limit → with_task (table_of ks) k ≡ table_of (ks ++ (k ∷ []))
stored ks k few =
    let left : task_limit - length ks ≡ suc (task_limit - (length ks + 1)) = omega arith in
    simp (left, length-append, set-append_seam, append_assoc)
