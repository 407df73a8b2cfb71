-- Refused as the table is, or started.
use mathlib.Core.Path.{sym, ◌∙◌}
use Rattle.model.specs.Tasks.{judged_mixed}
use Rattle.model.specs.Presses.{started_mixed}
use Rattle.wellformed.specs.WellFormed.{well_mixed, refused_is, admitted_is}
use Rattle.presses.proofs.Presses.start.Goals as goal

pub first_state-requires : goal.first_state-requires
first_state-requires c =
    let (m, well) = admitted_is (judged_mixed _) (sym c.admit_mixed.ensures ∙ c.in-Ok.is) in
    (well_mixed _ m well).ranged.few

pub returns-in-Err : goal.returns-in-Err
unfolding started_mixed
returns-in-Err c = rw (refused_is (judged_mixed _) _ (sym c.admit_mixed.ensures ∙ c.in-Err.is))

pub returns-in-Ok : goal.returns-in-Ok
unfolding started_mixed
returns-in-Ok c =
    let (m, well) = admitted_is (judged_mixed _) (sym c.admit_mixed.ensures ∙ c.in-Ok.is) in
    rw (well, c.first_state.ensures)
