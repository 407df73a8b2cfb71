-- Each return goes by what the table turned out to be.
use mathlib.Core.Path.{sym, ◌∙◌}
use native.Mathlib.Omega.{arith}
use Rattle.std.proofs.lemmas.Result.{err_from_is_err_and}
use Rattle.model.specs.Writer.{file_written}
use Rattle.wellformed.specs.Ranges.{Ranged}
use Rattle.wellformed.specs.WellFormed.{well_mixed}
use Rattle.writer.proofs.write.Goals.{In_ok-judge_mixed}
use Rattle.writer.proofs.write.Goals as goal

ranged : (c : In_ok-judge_mixed) → Ranged c.args.table
ranged c = (well_mixed _ _ (sym c.judge_mixed.ensures ∙ c.in_ok-judge_mixed.was)).ranged

pub shared_ref_as_front-write_file : goal.shared_ref_as_front-write_file
shared_ref_as_front-write_file c = (ranged (goal.at.shared_ref_as_front-write_file c).In_ok-judge_mixed).few

pub write_file-requires : goal.write_file-requires
write_file-requires c = omega (arith, (ranged (goal.at.write_file-requires c).In_ok-judge_mixed).few)

pub returns-in_err-judge_mixed : goal.returns-in_err-judge_mixed
unfolding file_written
returns-in_err-judge_mixed c =
    let p = err_from_is_err_and c.from_residual.result c.from_residual.ensures.1 in
    rw (p.1, p.2, sym c.judge_mixed.ensures ∙ c.in_err-judge_mixed.was)

pub returns : goal.returns
unfolding file_written
returns c = rw (sym c.judge_mixed.ensures ∙ c.in_ok-judge_mixed.was) c.write_file.ensures
