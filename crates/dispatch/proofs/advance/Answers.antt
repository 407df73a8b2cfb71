-- The lists are those of the state.
use Rattle.dispatch.proofs.advance.Goals as goal

pub advance_lists-requires : goal.advance_lists-requires
advance_lists-requires c =
    let (t, unpacked, unrefused) = c.requires in
    (t, c.args.d.given, c.args.d.empty, unpacked, unrefused)

pub returns : goal.returns
returns c t unpacked unrefused = c.advance_lists.ensures t c.args.d.given c.args.d.empty unpacked unrefused
