-- Refused as the survey is; by 11 at the first button; or measured.
use mathlib.Core.Path.{sym, ◌∙◌}
use Rattle.std.specs.Prelude.{Ok}
use Rattle.std.proofs.lemmas.Result.{err_from_is_err_and}
use Rattle.table.specs.Survey.{Surveyed, unseen, seen_so, judged_unseen, judged_seen, refused_seen, fits_seen}
use Rattle.table.proofs.judge.Goals as goal
use Rattle.table.proofs.judge.Goals.{In_ok-seen}

so : (c : In_ok-seen) → Surveyed c.args.t (Ok c.in_ok-seen.seen)
so c = seen_so _ _ _ c.in_ok-seen.was c.survey.ensures

pub refuse_button-requires : goal.refuse_button-requires
refuse_button-requires c = fits_seen c.args.t _ (so (goal.at.refuse_button-requires c).In_ok-seen)

pub measure_of-requires : goal.measure_of-requires
measure_of-requires c = let s = so (goal.at.measure_of-requires c).In_ok-seen in record { ranged = s.0; round_kept = s.1 }

pub returns-in_err-seen : goal.returns-in_err-seen
returns-in_err-seen c =
    let p = err_from_is_err_and c.from_residual.result c.from_residual.ensures.1 in
    rw (p.1, p.2, judged_unseen c.args.t _ (unseen _ _ _ c.in_err-seen.was c.survey.ensures))

pub returns-in_err-refuse_button : goal.returns-in_err-refuse_button
returns-in_err-refuse_button c =
    let p = err_from_is_err_and c.from_residual-in_err-refuse_button.result c.from_residual-in_err-refuse_button.ensures.1 in
    rw (p.1, p.2, refused_seen c.args.t _ (so (goal.at.returns-in_err-refuse_button c).In_ok-seen) _ (sym c.refuse_button.ensures ∙ c.in_err-refuse_button.was))

pub returns : goal.returns
returns c =
    rw (c.measure_of.ensures, judged_seen c.args.t _ (so (goal.at.returns c).In_ok-seen) _ (sym c.refuse_button.ensures ∙ c.in_ok-refuse_button.was))
