-- The place of the first that passes, whatever test the closure computes.
use Rattle.std.proofs.Common.{sym, ◌∙◌, rules}
use Rattle.std.proofs.lemmas.Iterator.{YieldsList-from_slice}
use Rattle.std.proofs.lemmas.Iterator.Search.{position_from_yields_List}
use Rattle.counting.specs.Position.{position_or_length}
use Rattle.pieces.specs.Marks.{length_to_is}
use Rattle.pieces.proofs.find.Goals as goal

pub returns-clause-value : goal.returns-clause-value
returns-clause-value g c = λ test computes.
    let s = c.args.s.now in
    let place = position_from_yields_List test _ _ c.position.result c.position.ensures.ran
    (YieldsList-from_slice s cc) (λ x b q k. (search rules, computes x.now b (search rules))) in
    c.unwrap_or.ensures ∙ rw (place, position_or_length test s) (sym (length_to_is test s))
