-- What each rule of a slot makes of the lists of waits and of slots left, of which a table's tasks have the first n numbers.
use Rattle.std.specs.Prelude.{List, Bool, cond, ◌&&◌, ℕ, ltb, eqb, get_or, set}
use Rattle.model.specs.Limits.{task_limit}
use Rattle.values.specs.declared.Table.{Table}
use Rattle.model.specs.Notation.{every, in_set, fill}
use Rattle.model.specs.Tasks.{task, is_button}

-- The number that a list has for task i.
abbrev pub at : List ℕ → ℕ → ℕ
at l i = get_or l i 0

-- The job of one task is closed; no task has none.
unfoldable pub closed : List ℕ → ℕ → List ℕ
closed left task = cond (ltb task task_limit) (set left task 0) left

-- Task i is one of the n, and its open job is at its deadline.
abbrev pub is_late : List ℕ → List ℕ → List ℕ → ℕ → ℕ → Bool
is_late wait left slack n i = ltb i n && (ltb 0 (at left i) && eqb (at wait i) (at slack i))

-- Each task of a set of bits gets this number.
unfoldable pub put_all : List ℕ → ℕ → ℕ → ℕ → List ℕ
put_all numbers tasks number n = fill n (λ i. cond (in_set tasks i) number (at numbers i)) numbers

-- Task i is a button that may be pressed.
abbrev pub is_free : Table → List ℕ → ℕ → Bool
is_free t wait i = ltb i t.count && (is_button (task t i) && eqb (at wait i) 0)

-- None of the n tasks has a slot left.
abbrev pub none_left : List ℕ → ℕ → Bool
none_left left n = every (λ i. eqb (at left i) 0) n

-- Where the wait is 0 a job is released, and the wait is a period.
abbrev pub wait_released : List ℕ → List ℕ → ℕ → ℕ
wait_released wait period i = cond (eqb (at wait i) 0) (at period i) (at wait i)

abbrev pub left_released : List ℕ → List ℕ → List ℕ → ℕ → ℕ
left_released wait left cost i = cond (eqb (at wait i) 0) (at cost i) (at left i)
