-- A LONGER BUDGET (`still_permitted`): it alters no answer but undecided.
use Rattle.model.specs.Values.{Judgement}
use Rattle.std.specs.Prelude.{◌≡◌, ◌≢◌, ℕ, ◌≤◌, Ok, Err}
use Rattle.std.proofs.Common.{sym, ap, subst, ◌∙◌}
use Rattle.values.specs.declared.Table.{Table}
use Rattle.values.specs.declared.Measure.{Measure}
use Rattle.values.specs.declared.Verdict.{Verdict}
use Rattle.values.specs.declared.Answer.{Answer}
use Rattle.model.specs.Tasks.{judged}
use Rattle.model.specs.Verdict.{verdict, settled_by, Answers, PermittedBy, Permitted}
use Rattle.backlog.specs.Longer.{longer}
use Rattle.backlog.specs.AnswersSay.{answers_say}

module _ (t : Table) (budget more : ℕ) (a : Answer) where
  longer_answers : (m : Measure) (v : Verdict)
      → settled_by t more ≡ settled_by t budget → Answers t budget m a v → Answers t more m a v
  longer_answers m Verdict.Passes s (w, p, e) = (w, p, rw s e)
  longer_answers m Verdict.Overload s e = rw s e
  longer_answers m (Verdict.Late f k d) s e = rw s e
  longer_answers m Verdict.Undecided s e = rw s e

  module _ (l : budget ≤ more) (u : a.outcome ≢ Ok Verdict.Undecided) where
    longer_judged : (j : Judgement) → PermittedBy t budget a j → PermittedBy t more a j
    longer_judged (Err r) h = h
    longer_judged (Ok m) h =
        let tested = (answers_say t budget m a (verdict t budget) h).0 in
        let (v, s) = longer t budget more l (λ e. u (tested ∙ ap Ok e)) in
        subst (Answers t more m a) (sym v) (longer_answers m (verdict t budget) s h)

    pub still_permitted : Permitted t budget a → Permitted t more a
    unfolding Permitted
    still_permitted = longer_judged (judged t)
