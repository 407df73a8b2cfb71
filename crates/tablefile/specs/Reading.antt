-- What reading at a place comes to: the checks in their order, over the rest of the file after the kind byte.
use Rattle.std.specs.Prelude.{Result, Ok, Err, List, ◌≡◌, refl, Bool, true, false, cond, ℕ, ◌+◌, ◌-◌, ◌≤◌, ltb, leb, eqb, get_or, length, drop}
use Rattle.std.proofs.Common.{arith}
use Rattle.values.specs.declared.Task.{Task}
use Rattle.tablefile.specs.declared.Record.{Record}
use Rattle.values.specs.declared.Refusal.{Refusal}
use Rattle.model.specs.Limits.{task_limit, budget_bytes, task_bytes, button_bytes}
use Rattle.model.specs.Tasks.{is_button}
use Rattle.model.specs.TableFile.{eight, task_in, button_in}

-- The bytes of a body: those of the record without its kind.
abbrev pub budget_body : ℕ
budget_body = budget_bytes - 1

abbrev pub record_size : Bool → ℕ
record_size button = cond button button_bytes task_bytes

abbrev pub body_bytes : Bool → ℕ
body_bytes button = record_size button - 1

-- The bytes of a task's record, and a body of either sort as a task.
abbrev pub record_bytes : Task → ℕ
record_bytes k = record_size (is_button k)

abbrev pub body_in : Bool → List ℕ → ℕ → Task
body_in true s at = button_in s at
body_in false s at = task_in s at

-- What reading at a place comes to.
abbrev pub Reading : Type 0
Reading = Result Record Refusal

abbrev pub refused : ℕ → ℕ → Reading
refused n p = Err (record { number = n; place = p })

pub record_size_lem : (button : Bool) → (button_bytes ≤ record_size button) × (record_size button ≤ task_bytes)
record_size_lem true = omega arith
record_size_lem false = omega arith

pub body_sort : (button : Bool) (s : List ℕ) (at : ℕ) → is_button (body_in button s at) ≡ button
body_sort true s at = refl
body_sort false s at = refl

-- A budget, a task of either sort after n tasks, an end: its kind byte stands at this place, and this is the rest of the file.
abbrev pub budget_reading : List ℕ → ℕ → Reading
budget_reading rest at =
    cond (ltb 0 at) (refused 23 at)
    (cond (ltb (length rest) budget_body) (refused 20 at)
    (cond (eqb (eight rest 0) 0) (refused 27 at) (Ok (Record.Budget (eight rest 0)))))

abbrev pub task_reading : Bool → List ℕ → ℕ → ℕ → Reading
task_reading button rest at n =
    cond (eqb at 0) (refused 22 at)
    (cond (leb task_limit n) (refused 25 at)
    (cond (ltb (length rest) (body_bytes button)) (refused 20 at) (Ok (Record.OneTask (body_in button rest 0)))))

abbrev pub end_reading : List ℕ → ℕ → Reading
end_reading rest at =
    cond (eqb at 0) (refused 22 at)
    (cond (ltb 0 (length rest)) (refused 24 (at + 1)) (Ok Record.End))

-- What stands at a place of the file, after n tasks.
unfoldable pub reading_at : List ℕ → ℕ → ℕ → Reading
reading_at s at n =
    cond (leb (length s) at) (cond (eqb at 0) (refused 22 at) (refused 26 at))
    (cond (eqb (get_or s at 0) 1) (budget_reading (drop (at + 1) s) at)
    (cond (eqb (get_or s at 0) 2) (task_reading false (drop (at + 1) s) at n)
    (cond (eqb (get_or s at 0) 4) (task_reading true (drop (at + 1) s) at n)
    (cond (eqb (get_or s at 0) 3) (end_reading (drop (at + 1) s) at) (refused 21 at)))))

-- What holds of both readings that a test decides between holds of the one that it takes.
pub either : (P : Reading → Type 0) (test : Bool) (x y : Reading) → (test ≡ true → P x) → (test ≡ false → P y) → P (cond test x y)
either P true x y f g = f refl
either P false x y f g = g refl
