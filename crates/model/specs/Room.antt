-- The room of a table that may have buttons (ours): the largest cost of one task or button with which the distance test still
-- passes, and the one permitted number for any table and task number.
use Rattle.values.specs.declared.ByDistance.{ByDistance}
use Rattle.std.specs.Prelude.{List, Bool, cond, ℕ, suc, ◌+◌, min, ltb, Ok, Err}
use Rattle.model.specs.Notation.{last}
use Rattle.model.specs.Values.{Table, Judgement, DistanceAnswer, refusal}
use Rattle.model.specs.Limits.{slot_limit}
use Rattle.model.specs.Tasks.{task, judged_mixed}
use Rattle.model.specs.Patterns.{distance_pass, distance_answer}
use Rattle.model.specs.Report.{refusal_number, file_number}
use Rattle.model.specs.Largest.{with_cost}

-- With cost c of task i, and the rest as it is, the distance test passes.
abbrev pub room_with : Table → ℕ → ℕ → Bool
room_with t i c = distance_pass (with_cost t i c)

-- The largest cost of task i, up to its deadline, with which it does.
unfoldable pub room : Table → ℕ → ℕ
room t i = last (room_with t i) (suc (task t i).deadline)

-- What is told, by the test's answer to the table as it is: the room, or behind the largest cost 1 for overload
-- and 3 for no answer.
abbrev pub room_told : Table → ℕ → DistanceAnswer → ℕ
room_told t i (Err r) = refusal_number r
room_told t i (Ok ByDistance.Overload) = slot_limit + 1
room_told t i (Ok ByDistance.Pass) = room t i
room_told t i (Ok ByDistance.NoAnswer) = slot_limit + 3

-- By what the table is judged to be: its refusal; 12 for a number that is none of its tasks', at that number;
-- or what is told.
abbrev pub room_judged : Table → ℕ → Judgement → ℕ
room_judged t i (Err r) = refusal_number r
room_judged t i (Ok m) =
    cond (ltb i t.count) (room_told t i (distance_answer t)) (refusal_number (refusal 12 i))

unfoldable pub room_answer : Table → ℕ → ℕ
room_answer t i = room_judged t i (judged_mixed t)

-- The number that the exported call returns of any file and task number; no table has a task 65,535.
abbrev pub room_exported : List ℕ → ℕ → ℕ
room_exported file i = file_number file (λ t. room_answer t (min i 65535))
