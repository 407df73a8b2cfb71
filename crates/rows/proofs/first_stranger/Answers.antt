-- The rows are searched as a list.
use Rattle.std.proofs.Common.{◌∙◌, rules}
use borrow.Author.Tests.{tests}
use Rattle.std.proofs.lemmas.Iterator.{YieldsList-from_slice}
use Rattle.std.proofs.lemmas.Iterator.Search.{position_from_yields_List}
use Rattle.counting.specs.Position.{position_or_length}
use Rattle.rows.proofs.Rows.{is_stranger, stranger_is}
use Rattle.rows.proofs.first_stranger.Goals as goal

pub returns : goal.returns
returns c =
    let rows = c.as_chunks.result.0.now in
    let place = position_from_yields_List is_stranger _ _ c.position.result c.position.ensures.ran
    (YieldsList-from_slice rows cc) (λ x b q k. search (rules, tests)) in
    c.unwrap_or.ensures ∙ rw (place, position_or_length is_stranger rows, c.as_chunks.ensures.front) (stranger_is c.args.words.now)
