-- What is said of a table that is refused, and at the end of a walk.
use Rattle.std.specs.Prelude.{List, cond, ℕ, ltb, Ok, Err}
use Rattle.values.specs.declared.Measure.{Measure}
use Rattle.values.specs.declared.Refusal.{Refusal}
use Rattle.values.specs.declared.Verdict.{Verdict}
use Rattle.values.specs.declared.Answer.{Answer}
use Rattle.model.specs.Verdict.{brief}

abbrev pub refused_by : Refusal → Answer
refused_by why = brief (Err why) (record { round = 0; load = 0; horizon = 0 }) 0

abbrev pub overloaded : Measure → Answer
overloaded m = brief (Ok Verdict.Overload) m 0

-- What a walk that ended at n says, with an interval from `from` that asks for some slots or else 0.
abbrev pub concluded : Measure → ℕ → ℕ → ℕ → List ℕ → ℕ → Answer
concluded m from asked n worst idle =
    cond (ltb 0 asked) (brief (Ok (Verdict.Late from n asked)) m n)
    (cond (ltb n m.horizon) (brief (Ok Verdict.Undecided) m n)
    (record { outcome = Ok Verdict.Passes; measure = m; settled = n; worst = worst; idle = idle }))
