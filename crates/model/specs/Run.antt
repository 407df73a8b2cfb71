-- The run: in each slot the released, unfinished job with the earliest deadline, ties by a fixed order of the tasks.
use Rattle.std.specs.Prelude.{◌≡◌, List, Bool, cond, ◌&&◌, ◌||◌, ℕ, zero, suc, ◌+◌, ◌-◌, ◌/◌, ◌≤◌, leb, ltb, eqb, get_or, set, replicate}
use Rattle.model.specs.Notation.{Least}
use Rattle.model.specs.Values.{Table}
use Rattle.model.specs.Limits.{task_limit}
use Rattle.model.specs.Tasks.{task, release, due}
use Rattle.model.specs.Schedule.{none, job, Schedule, given}

-- An order of the tasks: of two that tie, the one of lower rank goes first, and of one rank the lower number.
abbrev pub Order : Type 0
Order = ℕ → ℕ

-- The order by which ties go: the shorter period, and so of one period the lower number.
abbrev pub tie_order : Table → Order
tie_order t i = (task t i).period

-- Task i comes before task k: by the earlier deadline, and where these are equal by the order.
abbrev pub precedes : (ℕ → ℕ) → Order → ℕ → ℕ → Bool
precedes deadline rank i k = ltb (deadline i) (deadline k) || (eqb (deadline i) (deadline k) && ltb (rank i) (rank k))

-- Of the open tasks below n the one that comes before the others, or `task_limit` where none is open.
unfoldable pub choose : (ℕ → Bool) → (ℕ → ℕ) → Order → ℕ → ℕ
choose open? deadline rank zero = task_limit
choose open? deadline rank (suc n) =
    let best = choose open? deadline rank n in
    cond (open? n && (eqb best task_limit || precedes deadline rank n best)) n best

-- The job that task i is at, with s the slots given to each task: the first that has not had its C slots.
abbrev pub current : Table → List ℕ → ℕ → ℕ
current t s i = get_or s i 0 / (task t i).cost

-- Who owns slot u, with s the slots given to each task before.
-- Of a task's unfinished jobs the one it is at has the earliest deadline.
unfoldable pub owner_of : Table → Order → ℕ → List ℕ → ℕ
owner_of t rank u s =
    choose (λ i. leb (release (task t i) (current t s i)) u) (λ i. due (task t i) (current t s i)) rank t.count

-- The slots given to each task before slot u; who owns slot u.
unfoldable pub served : Table → Order → ℕ → List ℕ
served t rank zero = replicate t.count 0
served t rank (suc u) = let s = served t rank u in let k = owner_of t rank u s in set s k (get_or s k 0 + 1)

unfoldable pub owner : Table → Order → ℕ → ℕ
owner t rank u = owner_of t rank u (served t rank u)

-- The run as a schedule.
unfoldable pub run : Table → Order → Schedule
run t rank u = let k = owner t rank u in cond (ltb k t.count) (job k (current t (served t rank u) k)) none

-- Job j of task i finishes at f: the end of the last of its C slots.
unfoldable pub Finishes : Table → Order → ℕ → ℕ → ℕ → Type 0
Finishes t rank i j = Least (λ u. (task t i).cost ≤ given (run t rank) i j 0 u)

-- The response of job j of task i, if it finishes at f: finish minus release.
abbrev pub response : Table → ℕ → ℕ → ℕ → ℕ
response t i j f = f - release (task t i) j

-- The worst response of task i: some job of it has this response, and no job has a larger one, for ever.
pub record Worst (t : Table) (rank : Order) (i w : ℕ) : Type 0 where
  pub attained : (j : ℕ) × (f : ℕ) × Finishes t rank i j f × (response t i j f ≡ w)
  pub bound : (j f : ℕ) → Finishes t rank i j f → response t i j f ≤ w
