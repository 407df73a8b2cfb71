-- Each return goes by what the table turned out to be.
use mathlib.Core.Path.{sym, ◌∙◌}
use Rattle.std.proofs.lemmas.Result.{err_from_is_err_and}
use Rattle.model.specs.PlainText.{text_written}
use Rattle.wellformed.specs.WellFormed.{well_mixed}
use Rattle.plaintext.proofs.write.Goals as goal

pub write_text-requires : goal.write_text-requires
write_text-requires c = (well_mixed _ _ (sym c.judge_mixed.ensures ∙ c.in_ok-judge_mixed.was)).ranged

pub returns-in_err-judge_mixed : goal.returns-in_err-judge_mixed
unfolding text_written
returns-in_err-judge_mixed c =
    let p = err_from_is_err_and c.from_residual.result c.from_residual.ensures.1 in
    rw (p.1, p.2, sym c.judge_mixed.ensures ∙ c.in_err-judge_mixed.was)

pub returns : goal.returns
unfolding text_written
returns c = rw (sym c.judge_mixed.ensures ∙ c.in_ok-judge_mixed.was) c.write_text.ensures
