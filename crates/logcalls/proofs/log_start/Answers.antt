-- As the log's own call says.
use borrow.Author.Rules.{rules}
use Rattle.model.specs.Log.{log_started}
use Rattle.logcalls.proofs.log_start.Goals as goal

pub returns : goal.returns
returns c = rw c.told.ensures (c.on_log.ensures (λ l t. log_started t l) (λ l t f p. search rules))
