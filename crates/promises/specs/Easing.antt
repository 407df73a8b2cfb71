-- WHAT MAY BE EASED SAFELY (section 3.10 of the specification): a table that passes still passes with lower costs,
-- longer deadlines up to the period and fewer tasks, all of that together too,
-- given a budget that reaches the new horizon; with costs alone lowered no worst response grows.
use Rattle.std.specs.Prelude.{◌≡◌, refl, ◌↔◌, List, [], ◌∷◌, ℕ, suc, ◌/◌, ◌%◌, ◌^◌, ◌≤◌, ◌<◌, eqb, get_or, Ok}
use Rattle.std.proofs.Common.{ap, subst, arith}
use Rattle.values.specs.declared.Table.{Table}
use Rattle.values.specs.declared.Measure.{Measure}
use Rattle.values.specs.declared.Verdict.{Verdict}
use Rattle.values.specs.declared.Answer.{Answer}
use Rattle.values.specs.declared.Easing.{Easing}
use Rattle.model.specs.Notation.{bit, sum, largest, count, some, first, last, fill}
use Rattle.model.specs.Tasks.{task_fault, first_faulty, round, load, horizon, judged_mixed, first_button, judged}
use Rattle.model.specs.Demand.{arrived_in, demand, late_at}
use Rattle.model.specs.Run.{Order, tie_order, choose, owner_of, served, Worst}
use Rattle.model.specs.Idle.{idle_at, first_idle}
use Rattle.model.specs.Verdict.{needed, late_start, verdict, settled_by, Permitted}
use Rattle.model.specs.Dispatcher.{start_of, owner_now_by, after_by}
use Rattle.model.specs.History.{state_at_by}
use Rattle.model.specs.TableFile.{table_of, periodic_from}
use Rattle.model.specs.Easing.{Eased, Lowered, easing, first_tasks, eased_exported}
use Rattle.model.specs.Examples.{of, table_e, two_due}
use Rattle.wellformed.specs.WellFormed.{well_formed}
use Rattle.backlog.proofs.Eased.{eased_passes, eased_again, eased_of_lowered}
use Rattle.backlog.specs.FirstChoice.{Told, first_choice, eased_told}
use Rattle.backlog.proofs.Lowered.{lowered_worst}
use Rattle.backlog.specs.WalkWorst.{worst_seen}
use Rattle.backlog.proofs.Computed.{answer_of}
use Rattle.tablefile.specs.Periodic.{well_periodic}
pub use Rattle.telling.specs.Easings.{EasedMeans}
use Rattle.telling.specs.Answers.{only_answer}
use Rattle.telling.specs.Easings.{kept_below, eased_told_as, files_eased}
use Rattle.telling.specs.Examples.{due_eased}
use Rattle.promises.specs.Demand2.{passed_exactly}

-- Easings may follow one another: what is eased and eased again is eased. Lowering costs alone is an easing.
pub easing_again : (a b c : Table) → Eased a b → Eased b c → Eased a c
easing_again = eased_again

pub lowering_eases : (before after : Table) → Lowered before after → Eased before after
lowering_eases = eased_of_lowered

module _ (before after : Table) (m n : Measure) (well : judged before ≡ Ok m)
    (well-after : judged after ≡ Ok n) where
  -- If a table passes, with whatever budget, so does every well-formed table eased from it,
  -- with every budget that reaches its horizon.
  pub easing_is_safe : Eased before after → (budget budget' : ℕ)
      → verdict before budget ≡ Verdict.Passes → horizon after ≤ budget' → verdict after budget' ≡ Verdict.Passes
  easing_is_safe e =
      eased_passes before after e (well_formed before m well).ranged (well_formed after n well-after).ranged

  -- With costs alone lowered no worst response grows, in any order of the tasks that both tables have.
  pub lowering_slows_none_by : Lowered before after → (rank rank' : Order) → ((i : ℕ) → i < before.count → rank' i ≡ rank i)
      → (i w w' : ℕ) → i < before.count → Worst before rank i w → Worst after rank' i w' → w' ≤ w
  lowering_slows_none_by e =
      lowered_worst before after (well_formed before m well).ranged (well_formed after n well-after).ranged e

  -- And in ours, which goes by the periods and the numbers.
  pub lowering_slows_none : Lowered before after → (i w w' : ℕ) → i < before.count
      → Worst before (tie_order before) i w → Worst after (tie_order after) i w' → w' ≤ w
  lowering_slows_none e = lowering_slows_none_by e (tie_order before) (tie_order after) (λ i l. (e.each i l).same_period)

  -- So none that is reported grows.
  pub lowering_reports_less : Lowered before after → (budget budget' : ℕ) (a a' : Answer)
      → Permitted before budget a → a.outcome ≡ Ok Verdict.Passes → Permitted after budget' a'
      → a'.outcome ≡ Ok Verdict.Passes
      → (i : ℕ) → i < before.count → get_or a'.worst i 0 ≤ get_or a.worst i 0
  lowering_reports_less e budget budget' a a' p o p' o' i l =
      let (v, w, u) = passed_exactly before budget a p o in
      let (v', w', u') = passed_exactly after budget' a' p' o' in
      lowering_slows_none e i (get_or a.worst i 0) (get_or a'.worst i 0) l
      (w.worst i l) (w'.worst i (omega (arith, e.same_count)))

-- A longer period is no easing: table e passes, and with the second period 3 it is late at 4.
pub longer_period_late :
    (verdict table_e 1000 ≡ Verdict.Passes)
    × (verdict (table_of (of 1 1 1 2 ∷ of 0 1 1 3 ∷ [])) 1000 ≡ Verdict.Late 3 4 2)
unfolding verdict needed late_start late_at first last round load horizon largest sum count demand arrived_in
longer_period_late = (refl, refl)

-- Longer deadlines may slow a task: with deadline 3 for 1, and else the same table,
-- the worst response of task 0 grows from 1 to 2.
pub longer_deadline_slows :
    Eased (two_due 1) (two_due 3)
    × ((a a' : Answer) → Permitted (two_due 1) 8 a → Permitted (two_due 3) 8 a'
    → (get_or a.worst 0 0 ≡ 1) × (get_or a'.worst 0 0 ≡ 2))
unfolding answer_of judged judged_mixed first_button first_faulty task_fault first last round load horizon
    largest sum count verdict settled_by needed late_start late_at demand arrived_in worst_seen state_at_by
    start_of after_by owner_now_by choose fill first_idle idle_at owner_of served
longer_deadline_slows =
    let worst : Answer → ℕ = λ a. get_or a.worst 0 0 in
    (due_eased, λ a a' p p'. (ap worst (only_answer (two_due 1) 8 a p), ap worst (only_answer (two_due 3) 8 a' p')))

module _ (before after : Table) where
  -- Whether a table is an easing of another is told exactly.
  pub easing_exactly : ((set : ℕ) × (easing before after ≡ Easing.Kept set)) ↔ Eased before after
  easing_exactly = (λ (set, e). (subst (Told before after) e (first_choice before after)).0, eased_told before after)

  -- The choice that is told is the first in order: no other has any task earlier.
  -- Bit k of the set says whether task k is kept.
  pub kept_exactly : (set : ℕ) → easing before after ≡ Easing.Kept set → (e : Eased before after)
      × ((d : Eased before after) (i : ℕ) → i < after.count → e.kept i ≤ d.kept i)
      × ((k : ℕ) → k < before.count → set / 2 ^ k % 2 ≡ bit (some (λ i. eqb (e.kept i) k) after.count))
  kept_exactly set e = subst (Told before after) e (first_choice before after)

  -- The set has no other members: it is one of the old table's tasks.
  pub kept_within : (set : ℕ) → easing before after ≡ Easing.Kept set → set < 2 ^ before.count
  kept_within = kept_below before after

  -- The task that is told to be none is the first: the tasks before it are an easing, and with it they are not.
  pub unmatched_exactly : (i : ℕ) → easing before after ≡ Easing.Unmatched i
      → (i < after.count) × Eased before (first_tasks after i) × (Eased before (first_tasks after (suc i)) → ⊥)
  unmatched_exactly i e = subst (Told before after) e (first_choice before after)

-- What the number means, by its remainder by 4 and its quotient.
pub eased_means : (old new : List ℕ) → EasedMeans old new (eased_exported old new % 4) (eased_exported old new / 4)
eased_means = eased_told_as

-- Where it says that the new file's table is an easing of the old one's, it is one: if the old one passes,
-- the new one needs no test.
pub eased_files_pass : (old new : List ℕ) → eased_exported old new % 4 ≡ 1 → (budget budget' : ℕ)
    → verdict (periodic_from old).table budget ≡ Verdict.Passes → horizon (periodic_from new).table ≤ budget'
    → verdict (periodic_from new).table budget' ≡ Verdict.Passes
eased_files_pass old new one =
    let (p, q, e) = files_eased old new one in
    let (m, well) = well_periodic old p in
    let (n, well-after) = well_periodic new q in
    easing_is_safe (periodic_from old).table (periodic_from new).table m n well well-after e
