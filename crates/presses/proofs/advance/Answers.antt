-- The four rules, one after the other.
use Rattle.std.proofs.Common.{rules}
use Rattle.backlog.specs.Taken.{Belongs}
use Rattle.presses.specs.Step.{owner_there, advanced_is}
use Rattle.presses.proofs.advance.Goals.{Start}
use Rattle.presses.proofs.advance.Goals as goal

-- The arrays have their length.
belongs : (c : Start) → Belongs c.args.t c.args.d
belongs c = record { waits = search rules; lefts = search rules; gives = search rules; each = c.requires.fits.each; ran = c.requires.fits.ran }

pub unwrap-owner-requires : goal.unwrap-owner-requires
unwrap-owner-requires c =
    let s = c.args in
    owner_there s.t s.d s.done s.pressed c.requires (belongs (goal.at.unwrap-owner-requires c).Start) c.unpack-columns.ensures
    c.free_set-free.ensures c.only_in-untaken.ensures c.only_in-idle.ensures c.hear_report.ensures
    c.late_set-late.ensures c.close_all.ensures c.put_all.ensures c.serve.ensures

pub returns : goal.returns
returns c =
    let s = c.args in
    advanced_is s.t s.d s.done s.pressed c.requires (belongs (goal.at.returns c).Start) c.unpack-columns.ensures
    c.free_set-free.ensures c.only_in-untaken.ensures c.only_in-idle.ensures c.hear_report.ensures
    c.late_set-late.ensures c.close_all.ensures c.put_all.ensures c.serve.ensures c.unwrap-owner.ensures
