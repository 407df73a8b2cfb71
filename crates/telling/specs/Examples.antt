-- EXAMPLES (`g_formed`): the file of table g has a good form and a well-formed table;
-- a longer deadline alone is an easing (`due_eased`).
use Rattle.std.specs.Prelude.{◌≡◌, refl, zero, suc, ◌<◌, Ok}
use Rattle.std.proofs.Common.{arith, lit≤}
use Rattle.model.specs.Notation.{sum, largest, count, first}
use Rattle.model.specs.Tasks.{task, task_fault, first_faulty, first_button, round, load, horizon, judged_mixed, judged}
use Rattle.model.specs.TableFile.{read_from, form_of}
use Rattle.model.specs.Easing.{EasedTask, Eased}
use Rattle.model.specs.Examples.{table_g, file_g, two_due}

pub g_formed : ((form_of file_g).admission ≡ Ok tt) × ((form_of file_g).table ≡ table_g)
    × (judged table_g ≡ Ok (record { round = 4; load = 4; horizon = 8 }))
unfolding form_of read_from judged judged_mixed first_button first_faulty
    task_fault first round load horizon largest sum count
g_formed = (refl, refl, refl)

pub due_eased : Eased (two_due 1) (two_due 3)
due_eased = record {
  kept = λ i. i;
  in_order = λ i k l m. l;
  of_before = λ i l. l;
  each = λ i. elim i as (λ n. n < 2 → EasedTask (task (two_due 1) n) (task (two_due 3) n)) [
    | zero ↦ λ l. record { same_sort = refl; same_offset = refl; same_period = refl; lower_cost = lit≤ tt; longer_deadline = lit≤ tt }
    | suc k ↦ λ l. record {
      same_sort = refl;
      same_offset = refl;
      same_period = refl;
      lower_cost = omega arith;
      longer_deadline = omega arith;
    }
  ];
}
