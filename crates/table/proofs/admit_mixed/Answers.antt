-- Refused as the survey is, or admitted.
use Rattle.table.specs.Survey.{seen_so, mixed_seen}
use Rattle.table.proofs.admit_mixed.Goals as goal

pub returns : goal.returns
returns c = rw (mixed_seen c.args.t _ (seen_so _ _ _ c.in_ok-survey.was c.survey.ensures))
