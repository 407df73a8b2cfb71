-- ONE PERMITTED ANSWER (`permitted_unique`): any two to a table and a budget are equal.
use Rattle.model.specs.Values.{Judgement}
use Rattle.std.specs.Prelude.{◌≡◌, List, ℕ, Ok, Err}
use Rattle.std.proofs.Common.{sym, ◌∙◌, arith, ext_get_or}
use Rattle.std.proofs.Math.Decide.{dec_lt}
use Rattle.values.specs.declared.Table.{Table}
use Rattle.values.specs.declared.Measure.{Measure}
use Rattle.values.specs.declared.Verdict.{Verdict}
use Rattle.values.specs.declared.Answer.{Answer}
use Rattle.model.specs.Tasks.{judged}
use Rattle.model.specs.Verdict.{verdict, Worsts, Answers, PermittedBy, Permitted}
use Rattle.backlog.proofs.Worst.{worst_unique}

-- Two lists of worst responses of a table are equal.
worsts_unique : (t : Table) (v w : List ℕ) → Worsts t v → Worsts t w → v ≡ w
worsts_unique t v w a b = ext_get_or 0 v w (a.size ∙ sym b.size) (λ i l. elim (dec_lt i t.count) [
  | yes m ↦ worst_unique _ _ (a.worst i m) (b.worst i m)
  | no m ↦ a.past i (omega arith) ∙ sym (b.past i (omega arith))
])

answers_unique : (t : Table) (budget : ℕ) (m : Measure) (a b : Answer) (v : Verdict) → Answers t budget m a v → Answers t budget m b v → a ≡ b
answers_unique t budget m a b Verdict.Passes (v, p, e) (w, q, f) = let g : v ≡ w = worsts_unique t v w p q in cc
answers_unique t budget m a b Verdict.Overload e f = cc
answers_unique t budget m a b (Verdict.Late x y z) e f = cc
answers_unique t budget m a b Verdict.Undecided e f = cc

judged_unique : (t : Table) (budget : ℕ) (a b : Answer) (j : Judgement) → PermittedBy t budget a j → PermittedBy t budget b j → a ≡ b
judged_unique t budget a b (Err r) e f = cc
judged_unique t budget a b (Ok m) e f = answers_unique t budget m a b (verdict t budget) e f

pub permitted_unique : (t : Table) (budget : ℕ) (a b : Answer) → Permitted t budget a → Permitted t budget b → a ≡ b
unfolding Permitted
permitted_unique t budget a b = judged_unique t budget a b (judged t)
