-- Refused as the table is, or a step on a well-formed table.
use mathlib.Core.Path.{sym, ◌∙◌}
use Rattle.model.specs.Tasks.{judged_mixed}
use Rattle.model.specs.Presses.{admitted_mixed, stepped_pressed}
use Rattle.wellformed.specs.WellFormed.{well_mixed, refused_is, admitted_is}
use Rattle.presses.proofs.Presses.step.Goals as goal

pub step_well_formed-requires : goal.step_well_formed-requires
step_well_formed-requires c =
    let (m, well) = admitted_is (judged_mixed _) (sym c.admit_mixed.ensures ∙ c.in-Ok.is) in
    (well_mixed _ m well).ranged

pub returns-in-Err : goal.returns-in-Err
unfolding stepped_pressed admitted_mixed
returns-in-Err c =
    rw (refused_is (judged_mixed _) _ (sym c.admit_mixed.ensures ∙ c.in-Err.is))
    c.handed_back.ensures

pub returns-in-Ok : goal.returns-in-Ok
unfolding stepped_pressed admitted_mixed
returns-in-Ok c =
    let (m, well) = admitted_is (judged_mixed _) (sym c.admit_mixed.ensures ∙ c.in-Ok.is) in
    rw well c.step_well_formed.ensures
