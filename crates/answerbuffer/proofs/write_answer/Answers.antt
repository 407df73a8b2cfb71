-- The numbers of eight bytes stand before those of four.
use Rattle.std.specs.Prelude.{◌++◌, ◌∷◌, []}
use mathlib.Core.Path.{◌≡◌}
use native.Mathlib.Omega.{arith}
use borrow.Author.Rules.{rules}
use lib.ListN.{length}
use Rattle.model.specs.Limits.{task_limit}
use Rattle.model.specs.TableFile.{bytes_of}
use Rattle.model.specs.AnswerBuffer.{answer_bytes, answer_buffer}
use Rattle.counting.specs.Put.{Put}
use Rattle.words.specs.Out.{Fits, Puts, fresh, both, first, second}
use Rattle.answerbuffer.specs.Written.{answer_length, at_front}
use Rattle.answerbuffer.proofs.write_answer.Goals.{Start, After-new-out, After-put_longs}
use Rattle.answerbuffer.proofs.write_answer.Goals as goal

-- The array of worst responses has its length.
size : (c : Start) → length (answer_buffer c.args.numbers) ≡ answer_bytes
size c = let worst : length c.args.numbers.worst ≡ task_limit = search rules in answer_length c.args.numbers worst

room : (c : After-new-out) → Fits (answer_buffer c.args.numbers) c.new-out.result
room c =
    let long = size (goal.at.After-new-out c).Start in
    fresh c.new-out.ensures.at c.new-out.ensures.buffer (omega (arith, long, c.requires))

pub put_longs-requires : goal.put_longs-requires
unfolding answer_buffer
put_longs-requires c = first _ (room (goal.at.put_longs-requires c).After-new-out)

pub put_word-requires : goal.put_word-requires
unfolding answer_buffer bytes_of
put_word-requires c = first _ (second c.put_longs.ensures (room (goal.at.put_word-requires c).After-new-out))

pub put_word-requires-2 : goal.put_word-requires-2
unfolding answer_buffer bytes_of
put_word-requires-2 c =
    first _ (second c.put_word.ensures (second c.put_longs.ensures (room (goal.at.put_word-requires-2 c).After-new-out)))

pub put_word-requires-3 : goal.put_word-requires-3
unfolding answer_buffer bytes_of
put_word-requires-3 c =
    first _ (second c.put_word-2.ensures (second c.put_word.ensures (second c.put_longs.ensures
    (room (goal.at.put_word-requires-3 c).After-new-out))))

pub put_word-requires-4 : goal.put_word-requires-4
unfolding answer_buffer bytes_of
put_word-requires-4 c =
    first _ (second c.put_word-3.ensures (second c.put_word-2.ensures (second c.put_word.ensures (second c.put_longs.ensures
    (room (goal.at.put_word-requires-4 c).After-new-out)))))

pub put_words-requires : goal.put_words-requires
unfolding answer_buffer bytes_of
put_words-requires c =
    second c.put_word-4.ensures (second c.put_word-3.ensures (second c.put_word-2.ensures (second c.put_word.ensures (second c.put_longs.ensures
    (room (goal.at.put_words-requires c).After-new-out)))))

pub returns : goal.returns
unfolding answer_buffer bytes_of
returns c =
    let words = both c.put_word.ensures (both c.put_word-2.ensures (both c.put_word-3.ensures (both c.put_word-4.ensures c.put_words.ensures))) in
    let all : Puts (answer_buffer c.args.numbers) c.new-out.result c.put_words.new.out = both c.put_longs.ensures words in
    let put = all.put in
    let same = all.same_reference in
    let at_end : Put (answer_buffer c.args.numbers) 0 c.args.buffer.now _ c.put_words.new.out.at = grind arith in
    at_front answer_bytes at_end (size (goal.at.returns c).Start) c.requires
