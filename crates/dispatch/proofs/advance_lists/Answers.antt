-- The four rules, one after the other.
use Rattle.std.proofs.Common.{rules}
use Rattle.dispatch.specs.Step.{state_with, owner_there, advanced_is}
use Rattle.dispatch.proofs.advance_lists.Goals as goal

pub unwrap-owner-requires : goal.unwrap-owner-requires
unwrap-owner-requires c =
    let (t, given, empty, unpacked, unrefused) = c.requires in
    owner_there t (state_with c.args.waits c.args.lefts c.args.last given empty) c.args.done unrefused
    (record { waits = search rules; lefts = search rules }) unpacked
    c.after_report-left.ensures c.late_set-late.ensures c.close_all.ensures c.serve.ensures

pub returns : goal.returns
returns c t given empty unpacked unrefused =
    advanced_is t (state_with c.args.waits c.args.lefts c.args.last given empty) c.args.done unrefused
    (record { waits = search rules; lefts = search rules }) unpacked
    c.after_report-left.ensures c.late_set-late.ensures c.close_all.ensures c.serve.ensures c.unwrap-owner.ensures
