-- As the log's own call says.
use borrow.Author.Rules.{rules}
use Rattle.model.specs.Log.{fed}
use Rattle.logcalls.proofs.log_feed.Goals as goal

pub returns : goal.returns
returns c = rw c.told.ensures (c.on_log.ensures (λ l t. fed t l c.args.piece.now) (λ l t f p. search rules))
