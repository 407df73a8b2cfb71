-- Each return rewrites with what the form and the call turned out to be.
use Rattle.std.specs.Prelude.{List, ℕ}
use Rattle.std.proofs.lemmas.Result.{err_from_is_err_and}
use Rattle.values.specs.declared.Table.{Table}
use Rattle.model.specs.Report.{Exported}
use Rattle.model.specs.Log.{Log, Fed}
use Rattle.model.specs.LogBuffer.{log_bytes, log_in, log_written}
use Rattle.numbers.specs.Form.{on_form, right_length}
use Rattle.logcalls.proofs.on_log.Goals as goal

-- What the call comes to, by the form that was found.
wrote : List ℕ → (Log → Table → Fed) → Table → Exported
wrote buffer go t = let f = go (log_in buffer) t in log_written buffer f.log f.admission

pub log_in-requires : goal.log_in-requires
log_in-requires g c = right_length log_bytes c.args.file.now c.args.state.now c.form_for-form.ensures c.in_ok-form.was

pub write_log-requires : goal.write_log-requires
write_log-requires g c = right_length log_bytes c.args.file.now c.args.state.now c.form_for-form.ensures c.in_ok-form.was

pub returns-in_err-form : goal.returns-in_err-form
unfolding wrote
returns-in_err-form g c go same =
    let p = err_from_is_err_and c.from_residual.result c.from_residual.ensures.1 in
    rw (p.1, p.2, on_form log_bytes c.args.file.now c.args.state.now c.form_for-form.ensures (wrote c.args.state.now go), c.in_err-form.was)

pub returns-in_err-said : goal.returns-in_err-said
unfolding wrote
returns-in_err-said g c go same =
    let p = err_from_is_err_and c.from_residual-in_err-said.result c.from_residual-in_err-said.ensures.1 in
    let by = on_form log_bytes c.args.file.now c.args.state.now c.form_for-form.ensures (wrote c.args.state.now go) in
    rw (p.1, p.2, by, c.in_ok-form.was, ← c.log_in.ensures, ← same _ _ _ c.call-said.ensures, c.in_err-said.was)

pub returns : goal.returns
unfolding wrote
returns g c go same =
    let by = on_form log_bytes c.args.file.now c.args.state.now c.form_for-form.ensures (wrote c.args.state.now go) in
    rw (by, c.in_ok-form.was, ← c.log_in.ensures, ← same _ _ _ c.call-said.ensures, c.in_ok-said.was, c.write_log.ensures, c.answer_number.ensures)
