-- The sort, then the three words.
use Rattle.model.specs.TableFile.{bytes_of}
use Rattle.words.specs.Out.{both, first, second}
use Rattle.writer.proofs.put_task.Goals as goal

pub put_word-requires : goal.put_word-requires
unfolding bytes_of
put_word-requires c = first _ (second c.put_sort.ensures c.requires)

pub put_word-requires-2 : goal.put_word-requires-2
unfolding bytes_of
put_word-requires-2 c = first _ (second c.put_word.ensures (second c.put_sort.ensures c.requires))

pub put_word-requires-3 : goal.put_word-requires-3
unfolding bytes_of
put_word-requires-3 c = second c.put_word-2.ensures (second c.put_word.ensures (second c.put_sort.ensures c.requires))

pub returns : goal.returns
unfolding bytes_of
returns c = both c.put_sort.ensures (both (both c.put_word.ensures c.put_word-2.ensures) c.put_word-3.ensures)
