-- A PASSING ANSWER (`passing`): it is given only of a table that passes, its worst responses are exact,
-- and its idle instant is the run's first after 0.
use Rattle.model.specs.Values.{Judgement}
use Rattle.std.specs.Prelude.{◌≡◌, refl, ℕ, Ok, Err}
use Rattle.std.proofs.Common.{sym, ap, subst, arith}
use Rattle.values.specs.declared.Table.{Table}
use Rattle.values.specs.declared.Measure.{Measure}
use Rattle.values.specs.declared.Verdict.{Verdict}
use Rattle.values.specs.declared.Answer.{Answer}
use Rattle.model.specs.Tasks.{judged}
use Rattle.model.specs.Run.{tie_order}
use Rattle.model.specs.Idle.{first_idle}
use Rattle.model.specs.Verdict.{verdict, Worsts, Answers, PermittedBy, Permitted}

-- The answer to a table tells of a pass with this verdict.
abbrev Passing : Table → Answer → Verdict → Type 0
Passing t a v = (v ≡ Verdict.Passes) × Worsts t a.worst × (a.idle ≡ first_idle t (tie_order t))

module _ (t : Table) (budget : ℕ) (a : Answer) (o : a.outcome ≡ Ok Verdict.Passes) where
  by_verdict : (m : Measure) (v : Verdict) → Answers t budget m a v → Passing t a v
  by_verdict m Verdict.Passes (w, p, e) =
      let q : a.worst ≡ w = ap (λ (x : Answer). x.worst) e in
      (refl, subst (Worsts t) (sym q) p, ap (λ (x : Answer). x.idle) e)
  by_verdict m Verdict.Overload e =
      let z : ◌≡◌ {A = ℕ} 0 1 = cc (ap (λ (x : Answer). x.outcome) e) in absurd (omega arith)
  by_verdict m (Verdict.Late f k d) e =
      let z : ◌≡◌ {A = ℕ} 0 1 = cc (ap (λ (x : Answer). x.outcome) e) in absurd (omega arith)
  by_verdict m Verdict.Undecided e =
      let z : ◌≡◌ {A = ℕ} 0 1 = cc (ap (λ (x : Answer). x.outcome) e) in absurd (omega arith)

  by_judgement : (j : Judgement) → PermittedBy t budget a j → Passing t a (verdict t budget)
  by_judgement (Err r) e =
      let z : ◌≡◌ {A = ℕ} 0 1 = cc (ap (λ (x : Answer). x.outcome) e) in absurd (omega arith)
  by_judgement (Ok m) h = by_verdict m (verdict t budget) h

  pub passing : Permitted t budget a
      → (verdict t budget ≡ Verdict.Passes) × Worsts t a.worst × (a.idle ≡ first_idle t (tie_order t))
  unfolding Permitted
  passing = by_judgement (judged t)
