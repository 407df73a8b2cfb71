-- The words passed are put.
use Prim.Native.Nat.{◌≤◌}
use lib.ListN.{take}
use Rattle.model.specs.Limits.{task_limit}
use Rattle.model.specs.TableFile.{bytes_of}
use Rattle.words.specs.Out.{Puts}
use Rattle.statebuffer.proofs.put_words.Given as goal

abbrev pub invariant-loop-word : goal.invariant-loop-word
invariant-loop-word l = (l.word-index ≤ task_limit) × Puts (bytes_of (take l.word-index l.fn.words)) l.initial.out l.out
