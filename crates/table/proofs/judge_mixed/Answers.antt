-- Refused as the survey is, or measured.
use Rattle.std.specs.Prelude.{Ok}
use Rattle.table.specs.Survey.{Surveyed, seen_so, mixed_seen}
use Rattle.table.proofs.judge_mixed.Goals as goal
use Rattle.table.proofs.judge_mixed.Goals.{In_ok-seen}

so : (c : In_ok-seen) → Surveyed c.args.t (Ok c.in_ok-seen.seen)
so c = seen_so _ _ _ c.in_ok-seen.was c.survey.ensures

pub measure_of-requires : goal.measure_of-requires
measure_of-requires c = let s = so (goal.at.measure_of-requires c).In_ok-seen in record { ranged = s.0; round_kept = s.1 }

pub returns : goal.returns
returns c = rw (c.measure_of.ensures, mixed_seen c.args.t _ (so (goal.at.returns c).In_ok-seen))
