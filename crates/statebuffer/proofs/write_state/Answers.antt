-- A state as long as the buffer is all that the buffer then holds.
use mathlib.Core.Path.{◌≡◌, sym, ◌∙◌}
use native.Mathlib.Omega.{arith}
use lib.ListN.{length}
use Rattle.model.specs.StateBuffer.{state_bytes, buffer_of}
use Rattle.counting.specs.Put.{Put}
use Rattle.words.specs.Out.{fresh}
use Rattle.statebuffer.specs.Words.{whole, buffer_length}
use borrow.Author.Rules.{rules}
use Rattle.statebuffer.proofs.write_state.Goals.{Start}
use Rattle.statebuffer.proofs.write_state.Goals as goal

-- The arrays of the state have their length.
size : (c : Start) → length (buffer_of c.args.d c.args.turn) ≡ state_bytes
size c = buffer_length c.args.d c.args.turn (search rules) (search rules) (search rules)

pub put_state-requires : goal.put_state-requires
put_state-requires c =
    let long = size (goal.at.put_state-requires c).Start in
    fresh c.new-out.ensures.at c.new-out.ensures.buffer (omega (arith, long, c.requires))

pub returns : goal.returns
returns c =
    let put = c.put_state.ensures.put in
    let same = c.put_state.ensures.same_reference in
    let at_end : Put (buffer_of c.args.d c.args.turn) 0 c.args.buffer.now _ c.put_state.new.out.at = grind arith in
    whole at_end (c.requires ∙ sym (size (goal.at.returns c).Start))
