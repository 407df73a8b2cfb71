-- The numbers stand one after another.
use Rattle.model.specs.TableFile.{bytes_of}
use Rattle.model.specs.StateBuffer.{halves}
use Rattle.words.specs.Out.{both, first, second}
use Rattle.answerbuffer.proofs.put_longs.Goals as goal

pub put_long-requires : goal.put_long-requires
unfolding bytes_of halves
put_long-requires c =
    first _ c.requires

pub put_long-requires-2 : goal.put_long-requires-2
unfolding bytes_of halves
put_long-requires-2 c =
    first _ (second c.put_long.ensures c.requires)

pub put_long-requires-3 : goal.put_long-requires-3
unfolding bytes_of halves
put_long-requires-3 c =
    first _ (second c.put_long-2.ensures (second c.put_long.ensures c.requires))

pub put_long-requires-4 : goal.put_long-requires-4
unfolding bytes_of halves
put_long-requires-4 c =
    first _ (second c.put_long-3.ensures (second c.put_long-2.ensures (second c.put_long.ensures c.requires)))

pub put_long-requires-5 : goal.put_long-requires-5
unfolding bytes_of halves
put_long-requires-5 c =
    first _ (second c.put_long-4.ensures (second c.put_long-3.ensures (second c.put_long-2.ensures (second c.put_long.ensures c.requires))))

pub put_long-requires-6 : goal.put_long-requires-6
unfolding bytes_of halves
put_long-requires-6 c =
    first _ (second c.put_long-5.ensures (second c.put_long-4.ensures (second c.put_long-3.ensures (second c.put_long-2.ensures
    (second c.put_long.ensures c.requires)))))

pub put_long-requires-7 : goal.put_long-requires-7
unfolding bytes_of halves
put_long-requires-7 c =
    first _ (second c.put_long-6.ensures (second c.put_long-5.ensures (second c.put_long-4.ensures (second c.put_long-3.ensures
    (second c.put_long-2.ensures (second c.put_long.ensures c.requires))))))

pub put_long-requires-8 : goal.put_long-requires-8
unfolding bytes_of halves
put_long-requires-8 c =
    second c.put_long-7.ensures (second c.put_long-6.ensures (second c.put_long-5.ensures (second c.put_long-4.ensures
    (second c.put_long-3.ensures (second c.put_long-2.ensures (second c.put_long.ensures c.requires))))))

pub returns : goal.returns
unfolding bytes_of halves
returns c =
    both c.put_long.ensures (both c.put_long-2.ensures (both c.put_long-3.ensures (both c.put_long-4.ensures
    (both c.put_long-5.ensures (both c.put_long-6.ensures (both c.put_long-7.ensures c.put_long-8.ensures))))))
