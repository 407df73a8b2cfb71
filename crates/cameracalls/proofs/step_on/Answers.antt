-- Each return rewrites with what the form and the step turned out to be.
use mathlib.Core.Path.{◌≡◌}
use mathlib.Core.Bool.{not}
use native.Mathlib.Omega.{arith}
use lib.Dec.{eqb}
use Rattle.std.proofs.lemmas.Result.{err_from_is_err_and}
use Rattle.values.specs.declared.Table.{Table}
use Rattle.model.specs.Report.{Exported, refused}
use Rattle.std.specs.Prelude.{Ok, Err}
use Rattle.model.specs.Dispatcher.{stepped}
use Rattle.model.specs.StateBuffer.{state_bytes, state_in, step_written, step_exported}
use Rattle.numbers.specs.Form.{on_form, right_length}
use Rattle.cameracalls.proofs.step_on.Goals.{After-form_for-form}
use Rattle.cameracalls.proofs.step_on.Goals as goal

-- What the call comes to, by the form that was found.
go : (c : After-form_for-form) → Table → Exported
go c t = let s = stepped t (state_in c.args.state.now) (not (eqb c.args.done 0)) in step_written c.args.state.now s.state s.answer

by : (c : After-form_for-form) → ◌≡◌ {A = Exported} (step_exported c.args.file.now c.args.state.now c.args.done)
    (elim c.form_for-form.result.admission [ Err r ↦ refused r c.args.state.now | Ok _ ↦ go c c.form_for-form.result.table ])
unfolding go
by c = on_form state_bytes c.args.file.now c.args.state.now c.form_for-form.ensures (go c)

pub state_in-held-requires : goal.state_in-held-requires
state_in-held-requires c = omega (arith, right_length state_bytes c.args.file.now c.args.state.now c.form_for-form.ensures c.in_ok-form.was)

pub write_state-requires : goal.write_state-requires
write_state-requires c = right_length state_bytes c.args.file.now c.args.state.now c.form_for-form.ensures c.in_ok-form.was

pub returns-in_err-form : goal.returns-in_err-form
returns-in_err-form c =
    let p = err_from_is_err_and c.from_residual.result c.from_residual.ensures.1 in
    rw (p.1, p.2, by (goal.at.returns-in_err-form c).After-form_for-form, c.in_err-form.was)

pub returns-in_err-turn : goal.returns-in_err-turn
unfolding go
returns-in_err-turn c =
    let p = err_from_is_err_and c.from_residual-in_err-turn.result c.from_residual-in_err-turn.ensures.1 in
    rw (
      p.1,
      p.2,
      by (goal.at.returns-in_err-turn c).After-form_for-form,
      c.in_ok-form.was,
      ← c.state_in-held.ensures,
      ← c.said_done.ensures,
      ← c.step-stepped.ensures,
      c.in_err-turn.was,
    )

pub returns : goal.returns
unfolding go
returns c =
    rw (
      by (goal.at.returns c).After-form_for-form,
      c.in_ok-form.was,
      ← c.state_in-held.ensures,
      ← c.said_done.ensures,
      ← c.step-stepped.ensures,
      c.in_ok-turn.was,
      c.write_state.ensures,
      c.from.ensures,
    )
