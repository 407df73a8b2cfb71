-- THE ANSWER, COMPUTED (`only_answer`): an answer that is permitted is the computed one,
-- and the other way (`permitted_of`).
use Rattle.std.specs.Prelude.{◌≡◌, ℕ}
use Rattle.std.proofs.Common.{subst}
use Rattle.values.specs.declared.Table.{Table}
use Rattle.values.specs.declared.Answer.{Answer}
use Rattle.model.specs.Verdict.{Permitted}
use Rattle.backlog.proofs.Unique.{permitted_unique}
use Rattle.backlog.proofs.Computed.{answer_of, computed}

module _ (t : Table) (budget : ℕ) (a : Answer) where
  pub only_answer : Permitted t budget a → a ≡ answer_of t budget
  only_answer p = permitted_unique t budget a (answer_of t budget) p (computed t budget)

  pub permitted_of : answer_of t budget ≡ a → Permitted t budget a
  permitted_of e = subst (Permitted t budget) e (computed t budget)
