-- The parts stand one after another.
use Rattle.model.specs.TableFile.{bytes_of}
use Rattle.model.specs.StateBuffer.{buffer_of}
use Rattle.words.specs.Out.{both, first, second}
use Rattle.statebuffer.proofs.put_state.Goals as goal

pub put_words-requires : goal.put_words-requires
unfolding buffer_of
put_words-requires c = first _ (first _ (first _ (first _ c.requires)))

pub put_words-requires-2 : goal.put_words-requires-2
unfolding buffer_of
put_words-requires-2 c = second c.put_words.ensures (first _ (first _ (first _ c.requires)))

pub put_word-requires : goal.put_word-requires
unfolding buffer_of bytes_of
put_word-requires c = first _ (second (both c.put_words.ensures c.put_words-2.ensures) (first _ (first _ c.requires)))

pub put_word-requires-2 : goal.put_word-requires-2
unfolding buffer_of bytes_of
put_word-requires-2 c =
    first _ (second c.put_word.ensures (second (both c.put_words.ensures c.put_words-2.ensures) (first _ (first _ c.requires))))

pub put_word-requires-3 : goal.put_word-requires-3
unfolding buffer_of bytes_of
put_word-requires-3 c =
    let lists = second (both c.put_words.ensures c.put_words-2.ensures) (first _ (first _ c.requires)) in
    first _ (second c.put_word-2.ensures (second c.put_word.ensures lists))

pub put_word-requires-4 : goal.put_word-requires-4
unfolding buffer_of bytes_of
put_word-requires-4 c =
    let lists = second (both c.put_words.ensures c.put_words-2.ensures) (first _ (first _ c.requires)) in
    second c.put_word-3.ensures (second c.put_word-2.ensures (second c.put_word.ensures lists))

pub put_counts-requires : goal.put_counts-requires
unfolding buffer_of bytes_of
put_counts-requires c =
    let words = both c.put_word.ensures (both c.put_word-2.ensures (both c.put_word-3.ensures c.put_word-4.ensures)) in
    second (both (both c.put_words.ensures c.put_words-2.ensures) words) (first _ c.requires)

pub put_long-requires : goal.put_long-requires
unfolding buffer_of bytes_of
put_long-requires c =
    let words = both c.put_word.ensures (both c.put_word-2.ensures (both c.put_word-3.ensures c.put_word-4.ensures)) in
    second (both (both (both c.put_words.ensures c.put_words-2.ensures) words) c.put_counts.ensures) c.requires

pub returns : goal.returns
unfolding buffer_of bytes_of
returns c =
    let words = both c.put_word.ensures (both c.put_word-2.ensures (both c.put_word-3.ensures c.put_word-4.ensures)) in
    both (both (both (both c.put_words.ensures c.put_words-2.ensures) words) c.put_counts.ensures) c.put_long.ensures
