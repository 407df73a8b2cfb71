-- Refused as the table is, or started.
use mathlib.Core.Path.{sym, ◌∙◌}
use Rattle.model.specs.Tasks.{judged}
use Rattle.model.specs.Dispatcher.{started}
use Rattle.wellformed.specs.WellFormed.{well_formed, refused_is, admitted_is}
use Rattle.dispatch.proofs.Dispatcher.start.Goals as goal

pub first_state-requires : goal.first_state-requires
first_state-requires c =
    let (m, well) = admitted_is (judged _) (sym c.admit.ensures ∙ c.in-Ok.is) in
    (well_formed _ m well).ranged.few

pub returns-in-Err : goal.returns-in-Err
unfolding started
returns-in-Err c = rw (refused_is (judged _) _ (sym c.admit.ensures ∙ c.in-Err.is))

pub returns-in-Ok : goal.returns-in-Ok
unfolding started
returns-in-Ok c =
    let (m, well) = admitted_is (judged _) (sym c.admit.ensures ∙ c.in-Ok.is) in
    rw (well, c.first_state.ensures)
