-- The specification's tables a to j, the budgets that it names, and the lamp (section 10):
-- one statement over a list of them, by one computed test and a law.
use Rattle.std.specs.Prelude.{◌≡◌, refl, List, [], ◌∷◌, map, ℕ, Ok}
use Rattle.std.proofs.Common.{lit<}
use Rattle.values.specs.declared.Table.{Table}
use Rattle.values.specs.declared.Measure.{Measure}
use Rattle.values.specs.declared.Verdict.{Verdict}
use Rattle.values.specs.declared.Answer.{Answer}
use Rattle.model.specs.Values.{answer_said}
use Rattle.model.specs.Notation.{sum, largest, count, first, last, fill}
use Rattle.model.specs.Tasks.{task_fault, first_faulty, round, load, horizon, judged_mixed, first_button, judged}
use Rattle.model.specs.Demand.{arrived_in, demand, late_at}
use Rattle.model.specs.Run.{Worst, choose, owner_of, served}
use Rattle.model.specs.Idle.{idle_at, first_idle}
use Rattle.model.specs.Verdict.{needed, late_start, verdict, settled_by, brief}
use Rattle.model.specs.Dispatcher.{start_of, owner_now_by, after_by}
use Rattle.model.specs.History.{state_at_by}
use Rattle.model.specs.Examples.{padded, table_a, table_b, table_c, table_d, table_e, table_f, table_g, table_h}
use Rattle.model.specs.Examples.{table_i, table_j, table_lamp}
use Rattle.wellformed.specs.WellFormed.{well_formed}
use Rattle.backlog.proofs.PassedWorst.{met_of_passed}
use Rattle.backlog.specs.WalkWorst.{worst_seen}
use Rattle.backlog.proofs.WalkWorst.{walk_worst}
use Rattle.backlog.proofs.Computed.{answer_of}
pub use Rattle.telling.specs.Rows.{Row, AllPermitted}
use Rattle.telling.specs.Rows.{all_permitted}

abbrev measured : ℕ → ℕ → ℕ → Measure
measured round load horizon = record { round = round; load = load; horizon = horizon }

abbrev passes : Measure → List ℕ → ℕ → Answer
passes m worst idle =
    record { outcome = Ok Verdict.Passes; measure = m; settled = m.horizon; worst = worst; idle = idle }

abbrev told : Verdict → Measure → ℕ → Answer
told v m settled = brief (Ok v) m settled

abbrev row : Table → ℕ → Answer → Row
row t budget a = record { table = t; budget = budget; answer = a }

abbrev pub rows : List Row
rows =
    row table_a 1000 (passes (measured 1 1 2) (padded 0 (1 ∷ [])) 1)
    ∷ row table_b 1000 (passes (measured 15 11 38) (padded 0 (7 ∷ 2 ∷ [])) 2)
    ∷ row table_c 1000 (told (Verdict.Late 8 15 8) (measured 15 12 38) 15)
    ∷ row table_d 1000 (told (Verdict.Late 0 7 9) (measured 15 11 30) 7)
    ∷ row table_e 1000 (passes (measured 2 2 5) (padded 0 (1 ∷ 1 ∷ [])) 1)
    ∷ row table_f 1000 (told (Verdict.Late 0 1 2) (measured 2 2 4) 1)
    ∷ row table_g 1000 (passes (measured 4 4 8) (padded 0 (2 ∷ 4 ∷ [])) 4)
    ∷ row table_h 1000 (told (Verdict.Late 4 7 4) (measured 4 4 12) 7)
    ∷ row table_i 1000 (told Verdict.Overload (measured 5 6 12) 0)
    ∷ row table_j 1000 (passes (measured 2 1 8) (padded 0 (1 ∷ [])) 1)
    ∷ row table_b 37 (told Verdict.Undecided (measured 15 11 38) 37)
    ∷ row table_b 38 (passes (measured 15 11 38) (padded 0 (7 ∷ 2 ∷ [])) 2)
    ∷ row table_c 14 (told Verdict.Undecided (measured 15 12 38) 14)
    ∷ row table_c 15 (told (Verdict.Late 8 15 8) (measured 15 12 38) 15)
    ∷ row table_lamp 1000 (passes (measured 6 6 15) (padded 0 (6 ∷ 1 ∷ [])) 5)
    ∷ []

-- Every row's answer is the one permitted.
pub tables_answered : AllPermitted rows
unfolding answer_of judged judged_mixed first_button first_faulty task_fault first last round load horizon
    largest sum count verdict settled_by needed late_start late_at demand arrived_in worst_seen state_at_by
    start_of after_by owner_now_by choose fill first_idle idle_at owner_of served
tables_answered = all_permitted rows refl

-- In the specification's numbers, each with the settled count: 4 passes, with the first idle instant and the worst responses;
-- 3 late, with its interval and demand; 2 undecided; 1 overload.
pub tables_said :
    map (λ r. answer_said r.answer) rows
    ≡ (0 ∷ 4 ∷ 2 ∷ 1 ∷ padded 0 (1 ∷ []))
    ∷ (0 ∷ 4 ∷ 38 ∷ 2 ∷ padded 0 (7 ∷ 2 ∷ []))
    ∷ (0 ∷ 3 ∷ 15 ∷ 8 ∷ 15 ∷ 8 ∷ [])
    ∷ (0 ∷ 3 ∷ 7 ∷ 0 ∷ 7 ∷ 9 ∷ [])
    ∷ (0 ∷ 4 ∷ 5 ∷ 1 ∷ padded 0 (1 ∷ 1 ∷ []))
    ∷ (0 ∷ 3 ∷ 1 ∷ 0 ∷ 1 ∷ 2 ∷ [])
    ∷ (0 ∷ 4 ∷ 8 ∷ 4 ∷ padded 0 (2 ∷ 4 ∷ []))
    ∷ (0 ∷ 3 ∷ 7 ∷ 4 ∷ 7 ∷ 4 ∷ [])
    ∷ (0 ∷ 1 ∷ 0 ∷ [])
    ∷ (0 ∷ 4 ∷ 8 ∷ 1 ∷ padded 0 (1 ∷ []))
    ∷ (0 ∷ 2 ∷ 37 ∷ [])
    ∷ (0 ∷ 4 ∷ 38 ∷ 2 ∷ padded 0 (7 ∷ 2 ∷ []))
    ∷ (0 ∷ 2 ∷ 14 ∷ [])
    ∷ (0 ∷ 3 ∷ 15 ∷ 8 ∷ 15 ∷ 8 ∷ [])
    ∷ (0 ∷ 4 ∷ 15 ∷ 5 ∷ padded 0 (6 ∷ 1 ∷ []))
    ∷ []
tables_said = refl

-- The lamp with ties by number alone, as they went before T-06: 5 and 3, where our order has 6 and 1.
pub lamp_by_number : Worst table_lamp (λ i. i) 0 5 × Worst table_lamp (λ i. i) 1 3
unfolding judged judged_mixed first_button first_faulty task_fault first last round load horizon largest sum count
    verdict needed late_start late_at demand arrived_in worst_seen state_at_by start_of after_by owner_now_by choose fill
lamp_by_number =
    let ranged = (well_formed table_lamp (measured 6 6 15) refl).ranged in
    let met = met_of_passed table_lamp ranged 1000 refl (λ i. i) in
    (walk_worst table_lamp ranged (λ i. i) met 0 (lit< tt), walk_worst table_lamp ranged (λ i. i) met 1 (lit< tt))
