-- The loop has the shares of the tasks that it has passed.
use mathlib.Core.Path.{◌≡◌}
use Rattle.model.specs.Notation.{fill}
use Rattle.model.specs.Fitting.{shared}
use Rattle.changes.proofs.with_share.Given as goal

abbrev pub invariant-loop-i : goal.invariant-loop-i
invariant-loop-i l = (l.shared.count ≡ l.fn.t.count) × (l.shared.tasks ≡ fill l.i (shared l.fn.t l.thousandths) l.fn.t.tasks)
