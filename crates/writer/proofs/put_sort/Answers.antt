-- Each return rewrites with the sort.
use Rattle.words.specs.Out.{both, first, second}
use Rattle.writer.proofs.put_sort.Goals as goal

pub put_kind-requires : goal.put_kind-requires
put_kind-requires c = first _ (rw c.in-Periodic.is at c.requires)

pub put_word-requires : goal.put_word-requires
put_word-requires c = second c.put_kind.ensures (rw c.in-Periodic.is at c.requires)

pub returns-in-Periodic : goal.returns-in-Periodic
returns-in-Periodic c = rw c.in-Periodic.is (both c.put_kind.ensures c.put_word.ensures)

pub returns-in-Button : goal.returns-in-Button
returns-in-Button c = rw c.in-Button.is c.put_kind-in-Button.ensures
