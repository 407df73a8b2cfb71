-- Each return rewrites with what the form and the start turned out to be.
use mathlib.Core.Path.{◌≡◌}
use native.Mathlib.Omega.{arith}
use Rattle.std.proofs.lemmas.Result.{err_from_is_err_and}
use Rattle.values.specs.declared.Table.{Table}
use Rattle.model.specs.Report.{Exported, refused}
use Rattle.std.specs.Prelude.{Ok, Err}
use Rattle.model.specs.Presses.{started_mixed}
use Rattle.model.specs.StateBuffer.{state_bytes, state_in, start_written}
use Rattle.model.specs.PressBuffer.{press_start_exported}
use Rattle.numbers.specs.Form.{on_form, right_length}
use Rattle.presscalls.proofs.start_on.Goals.{After-form_for-form}
use Rattle.presscalls.proofs.start_on.Goals as goal

-- What the call comes to, by the form that was found.
go : (c : After-form_for-form) → Table → Exported
go c t = let s = started_mixed t (state_in c.args.state.now) in start_written c.args.state.now s.state s.admission

by : (c : After-form_for-form) → ◌≡◌ {A = Exported} (press_start_exported c.args.file.now c.args.state.now)
    (elim c.form_for-form.result.admission [ Err r ↦ refused r c.args.state.now | Ok _ ↦ go c c.form_for-form.result.table ])
unfolding go
by c = on_form state_bytes c.args.file.now c.args.state.now c.form_for-form.ensures (go c)

pub state_in-held-requires : goal.state_in-held-requires
state_in-held-requires c = omega (arith, right_length state_bytes c.args.file.now c.args.state.now c.form_for-form.ensures c.in_ok-form.was)

pub write_state-requires : goal.write_state-requires
write_state-requires c = right_length state_bytes c.args.file.now c.args.state.now c.form_for-form.ensures c.in_ok-form.was

pub returns-in_err-form : goal.returns-in_err-form
returns-in_err-form c =
    let p = err_from_is_err_and c.from_residual.result c.from_residual.ensures.1 in
    rw (p.1, p.2, by (goal.at.returns-in_err-form c).After-form_for-form, c.in_err-form.was)

pub returns-in_err-started : goal.returns-in_err-started
unfolding go
returns-in_err-started c =
    let p = err_from_is_err_and c.from_residual-in_err-started.result c.from_residual-in_err-started.ensures.1 in
    rw (
      p.1,
      p.2,
      by (goal.at.returns-in_err-started c).After-form_for-form,
      c.in_ok-form.was,
      ← c.state_in-held.ensures,
      ← c.start-started.ensures,
      c.in_err-started.was,
    )

pub returns : goal.returns
unfolding go
returns c =
    rw (
      by (goal.at.returns c).After-form_for-form,
      c.in_ok-form.was,
      ← c.state_in-held.ensures,
      ← c.start-started.ensures,
      c.in_ok-started.was,
      c.write_state.ensures,
      c.quiet.ensures,
    )
