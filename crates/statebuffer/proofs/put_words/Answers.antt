-- The words passed are put.
use mathlib.Core.Path.{◌≡◌}
use native.Mathlib.Omega.{arith}
use lib.ListN.{length}
use borrow.Author.Rules.{rules}
use Rattle.model.specs.Limits.{task_limit}
use Rattle.model.specs.TableFile.{bytes_of}
use Rattle.words.specs.Out.{none}
use Rattle.words.specs.Bytes.{next_fits, next_word}
use Rattle.statebuffer.proofs.put_words.Goals as goal

pub loop-word-init : goal.loop-word-init
unfolding bytes_of
loop-word-init c = (omega arith, none _)

pub put_word-requires : goal.put_word-requires
put_word-requires c =
    let size : length c.args.words ≡ task_limit = search rules in
    next_fits c.args.words c.loop-word.word-index (omega arith) c.loop-word.invariant.1 c.requires

pub loop-word-preserved : goal.loop-word-preserved
loop-word-preserved c =
    let size : length c.args.words ≡ task_limit = search rules in
    (omega arith, next_word c.args.words c.loop-word.word-index (omega arith) c.loop-word.invariant.1 c.put_word.ensures)
