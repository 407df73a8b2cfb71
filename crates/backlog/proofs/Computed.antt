-- THE PERMITTED ANSWER, COMPUTED (`computed`): of any table and budget, with the worst responses that a walk to the horizon sees. So the answers of
-- given tables are found by computing.
use Rattle.model.specs.Values.{Judgement}
use Rattle.std.specs.Prelude.{◌≡◌, refl, ℕ, Ok, Err}
use Rattle.values.specs.declared.Table.{Table}
use Rattle.values.specs.declared.Measure.{Measure}
use Rattle.values.specs.declared.Verdict.{Verdict}
use Rattle.values.specs.declared.Answer.{Answer}
use Rattle.model.specs.Tasks.{horizon, judged}
use Rattle.model.specs.Run.{tie_order}
use Rattle.model.specs.Idle.{first_idle}
use Rattle.model.specs.Verdict.{verdict, settled_by, brief, Answers, PermittedBy, Permitted}
use Rattle.wellformed.specs.WellFormed.{well_formed}
use Rattle.wellformed.specs.Ranges.{Ranged}
use Rattle.backlog.proofs.PassedWorst.{met_of_passed}
use Rattle.backlog.specs.WalkWorst.{worst_by}
use Rattle.backlog.proofs.WalkWorst.{walk_worsts}

-- The answer by its verdict, and by the judgement of the table.
abbrev pub answer_by : Table → ℕ → Measure → Verdict → Answer
answer_by t budget m Verdict.Passes =
    record {
      outcome = Ok Verdict.Passes;
      measure = m;
      settled = settled_by t budget;
      worst = worst_by t (horizon t);
      idle = first_idle t (tie_order t);
    }
answer_by t budget m Verdict.Overload = brief (Ok Verdict.Overload) m (settled_by t budget)
answer_by t budget m (Verdict.Late from to asked) = brief (Ok (Verdict.Late from to asked)) m (settled_by t budget)
answer_by t budget m Verdict.Undecided = brief (Ok Verdict.Undecided) m (settled_by t budget)

abbrev pub answer_judged : Table → ℕ → Judgement → Answer
answer_judged t budget (Err r) = brief (Err r) (record { round = 0; load = 0; horizon = 0 }) 0
answer_judged t budget (Ok m) = answer_by t budget m (verdict t budget)

unfoldable pub answer_of : Table → ℕ → Answer
answer_of t budget = answer_judged t budget (judged t)

answers : (t : Table) → Ranged t → (budget : ℕ) (m : Measure) (v : Verdict) → verdict t budget ≡ v → Answers t budget m (answer_by t budget m v) v
answers t r budget m Verdict.Passes e =
    (worst_by t (horizon t), walk_worsts t r (met_of_passed t r budget e _), refl)
answers t r budget m Verdict.Overload e = refl
answers t r budget m (Verdict.Late from to asked) e = refl
answers t r budget m Verdict.Undecided e = refl

judged_answer : (t : Table) (budget : ℕ) (j : Judgement) → judged t ≡ j → PermittedBy t budget (answer_judged t budget j) j
judged_answer t budget (Err r) e = refl
judged_answer t budget (Ok m) e = answers t (well_formed t m e).ranged budget m (verdict t budget) refl

pub computed : (t : Table) (budget : ℕ) → Permitted t budget (answer_of t budget)
unfolding Permitted answer_of
computed t budget = judged_answer t budget (judged t) refl
