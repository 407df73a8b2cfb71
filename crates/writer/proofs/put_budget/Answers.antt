-- The kind, then the number.
use Rattle.words.specs.Out.{both, first, second}
use Rattle.writer.proofs.put_budget.Goals as goal

pub put_kind-requires : goal.put_kind-requires
put_kind-requires c = first _ c.requires

pub put_long-requires : goal.put_long-requires
put_long-requires c = second c.put_kind.ensures c.requires

pub returns : goal.returns
returns c = both c.put_kind.ensures c.put_long.ensures
