-- The responses that a walk notes.
use Rattle.std.specs.Prelude.{List, Bool, cond, ◌&&◌, ltb, eqb, set, replicate}
use Prim.Native.Nat.{ℕ, zero, suc, ◌-◌, max}
use Rattle.std.proofs.Math.ListN.{get_or}
use Rattle.values.specs.declared.Table.{Table}
use Rattle.model.specs.Limits.{task_limit}
use Rattle.model.specs.Tasks.{task}
use Rattle.model.specs.Run.{Order, tie_order}
use Rattle.model.specs.Dispatcher.{wait_of, left_of}
use Rattle.model.specs.History.{state_at_by, owner_at_by}
use Rattle.backlog.specs.Walk.{quiet}

-- Slot n finishes the job that it is given to.
abbrev pub finishing : Table → Order → ℕ → Bool
finishing t rank n = ltb (owner_at_by t rank quiet n) t.count && eqb (left_of (state_at_by t rank quiet (suc n)) (owner_at_by t rank quiet n)) 0

-- A response of task k, noted where it is larger than those before.
abbrev pub noted : List ℕ → ℕ → ℕ → List ℕ
noted w k x = set w k (max (get_or w k 0) x)

-- The largest responses seen before slot n: a job released r slots ago waits T - r.
unfoldable pub worst_seen : Table → Order → ℕ → List ℕ
worst_seen t rank zero = replicate task_limit 0
worst_seen t rank (suc n) =
    cond (finishing t rank n)
    (noted (worst_seen t rank n) (owner_at_by t rank quiet n)
    ((task t (owner_at_by t rank quiet n)).period - wait_of (state_at_by t rank quiet (suc n)) (owner_at_by t rank quiet n))) (worst_seen t rank n)

-- In our order.
abbrev pub worst_by : Table → ℕ → List ℕ
worst_by t n = worst_seen t (tie_order t) n
