-- Refused as the survey is; by 11 at the first button; or admitted.
use Rattle.std.proofs.lemmas.Result.{err_from_is_err_and}
use Rattle.table.specs.Survey.{unseen, seen_so, judged_unseen, admitted_seen, fits_seen}
use Rattle.table.proofs.admit.Goals as goal

pub refuse_button-requires : goal.refuse_button-requires
refuse_button-requires c = fits_seen c.args.t _ (seen_so _ _ _ c.in_ok-found.was c.survey.ensures)

pub returns-in_err-found : goal.returns-in_err-found
returns-in_err-found c =
    let p = err_from_is_err_and c.from_residual.result c.from_residual.ensures.1 in
    rw (p.1, p.2, judged_unseen c.args.t _ (unseen _ _ _ c.in_err-found.was c.survey.ensures))

pub returns : goal.returns
returns c = rw (c.refuse_button.ensures, admitted_seen c.args.t _ (seen_so _ _ _ c.in_ok-found.was c.survey.ensures))
