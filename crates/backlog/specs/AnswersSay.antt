-- WHAT AN ANSWER SAYS (`answers_say`): one that is permitted by a verdict says it, the settled count and the measures.
use Rattle.std.specs.Prelude.{◌≡◌, ℕ, Ok}
use Rattle.std.proofs.Common.{ap}
use Rattle.values.specs.declared.Table.{Table}
use Rattle.values.specs.declared.Measure.{Measure}
use Rattle.values.specs.declared.Verdict.{Verdict}
use Rattle.values.specs.declared.Answer.{Answer}
use Rattle.model.specs.Verdict.{settled_by, Answers}

parts : (a b : Answer) → a ≡ b → (a.outcome ≡ b.outcome) × (a.settled ≡ b.settled) × (a.measure ≡ b.measure)
parts a b e = (ap (λ (x : Answer). x.outcome) e, ap (λ (x : Answer). x.settled) e, ap (λ (x : Answer). x.measure) e)

pub answers_say : (t : Table) (budget : ℕ) (m : Measure) (a : Answer) (v : Verdict) → Answers t budget m a v → (a.outcome ≡ Ok v)
    × (a.settled ≡ settled_by t budget) × (a.measure ≡ m)
answers_say t budget m a Verdict.Passes (w, p, e) = parts a _ e
answers_say t budget m a Verdict.Overload e = parts a _ e
answers_say t budget m a (Verdict.Late f k d) e = parts a _ e
answers_say t budget m a Verdict.Undecided e = parts a _ e
