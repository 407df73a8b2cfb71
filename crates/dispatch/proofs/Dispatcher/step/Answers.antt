-- Refused as the table is, or a step on a well-formed table.
use mathlib.Core.Path.{sym, ◌∙◌}
use Rattle.model.specs.Tasks.{judged}
use Rattle.model.specs.Dispatcher.{admitted, stepped_by}
use Rattle.wellformed.specs.WellFormed.{well_formed, refused_is, admitted_is}
use Rattle.dispatch.proofs.Dispatcher.step.Goals as goal

pub step_well_formed-requires : goal.step_well_formed-requires
step_well_formed-requires c =
    let (m, well) = admitted_is (judged _) (sym c.admit.ensures ∙ c.in-Ok.is) in
    (well_formed _ m well).ranged

pub returns-in-Err : goal.returns-in-Err
unfolding stepped_by admitted
returns-in-Err c =
    rw (refused_is (judged _) _ (sym c.admit.ensures ∙ c.in-Err.is)) c.handed_back.ensures

pub returns-in-Ok : goal.returns-in-Ok
unfolding stepped_by admitted
returns-in-Ok c =
    let (m, well) = admitted_is (judged _) (sym c.admit.ensures ∙ c.in-Ok.is) in
    rw well c.step_well_formed.ensures
