-- What is admitted may be read.
use Rattle.slotlog.specs.State.{log_state_of}
use Rattle.slotlog.specs.Bytes.{Readable, readable}
use borrow.Author.Rules.{rules}
use Rattle.slotlog.proofs.read_all.Goals.{Start}
use Rattle.slotlog.proofs.read_all.Goals as goal

ready : (c : Start) → Readable c.args.t (log_state_of c.args.log)
ready c = readable _ _ (record { waits = search rules; lefts = search rules; gives = search rules }) c.requires

pub unpack-columns-requires : goal.unpack-columns-requires
unpack-columns-requires c = (ready (goal.at.unpack-columns-requires c).Start).ranged

pub read_blocks-requires : goal.read_blocks-requires
read_blocks-requires c = (c.args.t, c.unpack-columns.ensures, ready (goal.at.read_blocks-requires c).Start)

pub returns : goal.returns
returns c = c.read_blocks.ensures c.args.t c.unpack-columns.ensures (ready (goal.at.returns c).Start)
