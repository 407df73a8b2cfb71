-- What the walk has noted after a slot.
use Rattle.std.specs.Prelude.{List, cond, ◌&&◌, ℕ, ◌-◌, ltb, eqb, get_or}
use Rattle.model.specs.Limits.{task_limit}
use Rattle.backlog.specs.WalkWorst.{noted}
use Rattle.slots.specs.Slot.{none_left}
use Rattle.walks.specs.Tally.{idle_then}

-- The responses after a slot of this owner, with the lists after the slot.
abbrev pub noted_of : List ℕ → ℕ → List ℕ → List ℕ → List ℕ → List ℕ
noted_of worst owner period wait left =
    cond (ltb owner task_limit && eqb (get_or left owner 0) 0) (noted worst owner (get_or period owner 0 - get_or wait owner 0)) worst

-- The first idle instant after 0, up to n: the one found before, or n if the n tasks have no slot left then, or 0.
abbrev pub idle_noted : ℕ → List ℕ → ℕ → ℕ → ℕ
idle_noted idle left tasks n = idle_then idle (none_left left tasks) n
