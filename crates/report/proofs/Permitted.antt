-- The report of a permitted verdict fits a report buffer.
use Rattle.model.specs.Values.{Judgement}
use Rattle.std.specs.Prelude.{◌≡◌, refl, Bool, ℕ, Ok, Err}
use Rattle.std.proofs.Common.{sym, subst}
use Rattle.values.specs.declared.Table.{Table}
use Rattle.values.specs.declared.Answer.{Answer}
use Rattle.model.specs.Tasks.{judged}
use Rattle.model.specs.Verdict.{verdict, PermittedBy, Permitted}
use Rattle.wellformed.specs.Refused.{JudgementTellable, judged_tellable}
use Rattle.wellformed.specs.WellFormed.{well_formed}
use Rattle.backlog.specs.AnswersSay.{answers_say}
use Rattle.report.specs.Permitted.{Fitting, printable}
use Rattle.report.proofs.Fits.{fits}

pub permitted_fits : (t : Table) (budget : ℕ) (quick : Bool) (a : Answer) → Permitted t budget a → Fitting t.count quick a a.outcome
unfolding Permitted
permitted_fits t budget quick a p = go (judged t) refl p (judged_tellable t)
  where
    go : (j : Judgement) → judged t ≡ j → PermittedBy t budget a j → JudgementTellable j → Fitting t.count quick a a.outcome
    go (Err r) q f h = rw f h
    go (Ok m) q f h =
        subst (Fitting t.count quick a) (sym (answers_say t budget m a (verdict t budget) f).0)
        (fits t.count quick a (verdict t budget) (printable t m (well_formed t m q) budget a (verdict t budget) refl f))
