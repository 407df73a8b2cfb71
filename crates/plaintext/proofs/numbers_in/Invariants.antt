-- The numbers below `i` are read.
use Rattle.std.proofs.Common.{suc}
use Rattle.model.specs.PlainText.{words_of}
use Rattle.plaintext.specs.Numbers.{Reading}
use Rattle.plaintext.proofs.numbers_in.Given as goal

abbrev pub invariant-loop-i : goal.invariant-loop-i
invariant-loop-i g l = Reading (suc l.largest) g.row.N (words_of l.words) l.i l.left l.values
