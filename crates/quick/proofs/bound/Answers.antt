-- The three bounds.
use mathlib.Core.Path.{◌≡◌, ◌∙◌}
use Prim.Native.Nat.{◌-◌, ◌/◌, min}
use native.Mathlib.Omega.{arith}
use Rattle.wellformed.specs.WellFormed.{well_mixed}
use Rattle.patterns.specs.Slack.{slack}
use Rattle.quick.specs.Passing.{kept, beyond_0, beyond_round, beyond_slack}
use Rattle.quick.proofs.bound.Goals as goal

pub slack-slack-requires : goal.slack-slack-requires
slack-slack-requires c = record { ranged = (well_mixed _ _ c.requires.t_value).ranged; round_kept = kept _ c.requires.t_value }

pub returns-then-slack-m : goal.returns-then-slack-m
returns-then-slack-m c = (omega arith, beyond_0 _ c.requires.t_value c.requires.load_le_round (omega (arith, c.slack-slack.ensures, c.if-slack-m.true)))

pub returns-then-spare-eq0 : goal.returns-then-spare-eq0
returns-then-spare-eq0 c = (omega arith, beyond_round _ c.requires.t_value c.requires.load_le_round _ (omega arith))

pub returns : goal.returns
returns c =
    let is : c.min.result ≡ min ((slack c.args.t - c.args.m.round) / (c.args.m.round - c.args.m.load)) c.args.m.round =
    c.min.ensures ∙ rw c.slack-slack.ensures in
    (omega arith, beyond_slack _ c.requires.t_value c.requires.load_le_round (omega (arith, c.if-spare-eq0.false)) _ is)
