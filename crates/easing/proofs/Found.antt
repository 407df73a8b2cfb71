-- What the search for a task finds, in the model's words.
use Rattle.std.proofs.Common.{◌≡◌, ◌∙◌, sym, ℕ, ◌+◌, ◌-◌, ◌≤◌, ◌<◌, length, take, drop, length-take, length-drop, arith, Option, Some, None}
use Rattle.std.specs.List.{position}
use Rattle.values.specs.declared.Task.{Task}
use Rattle.values.specs.declared.Table.{Table}
use Rattle.model.specs.Tasks.{no_task}
use Rattle.model.specs.Easing.{eases, next_eased}
use Rattle.counting.specs.Listed.{first_taken, position_some, position_none}

module _ (old : Table) (k : Task) (from : ℕ) (few : old.count ≤ length old.tasks) (within : from ≤ old.count) {r : Option ℕ}
    (e : r ≡ position (λ j. eases j k) (take (old.count - from) (drop from old.tasks))) where
  long : length (take (old.count - from) (drop from old.tasks)) ≡ old.count - from
  long = omega (arith, length-take (old.count - from) (drop from old.tasks), length-drop from old.tasks)

  pub some_found : {p : ℕ} → r ≡ Some p → (from + p ≡ next_eased old k from) × (from + p < old.count)
  some_found {p} f =
      let (same, l) = position_some (λ j. eases j k) no_task (take (old.count - from) (drop from old.tasks)) p (sym e ∙ f) in
      let g = first_taken (λ j. eases j k) no_task old.tasks from (old.count - from) (omega arith) in
      (omega (arith, same, g), omega (arith, long, l))

  pub none_found : r ≡ None → old.count ≤ next_eased old k from
  none_found f =
      let l = position_none (λ j. eases j k) no_task (take (old.count - from) (drop from old.tasks)) (sym e ∙ f) in
      omega (arith, long, l, first_taken (λ j. eases j k) no_task old.tasks from (old.count - from) (omega arith))
