use native.Mathlib.Omega.{arith}
use Rattle.counting.specs.Put.{Put}
use Rattle.words.specs.Out.{fresh}
use Rattle.writer.specs.Records.{fits}
use Rattle.plaintext.proofs.copy_text.Goals as goal

pub put-requires : goal.put-requires
put-requires c = fresh c.new-out.ensures.at c.new-out.ensures.buffer (omega arith)

pub returns : goal.returns
returns c =
    let put = c.put.ensures.put in
    let same = c.put.ensures.same_reference in
    let at_end : Put c.args.made.now 0 c.args.buffer.now _ c.at.result = grind arith in
    fits at_end (omega arith)
