-- The tasks read keep their ranges, and their multiple and first button are known.
use Rattle.table.specs.Survey.{Read}
use Rattle.table.proofs.survey.Given as goal

abbrev pub invariant-loop-i : goal.invariant-loop-i
invariant-loop-i l = Read l.fn.t l.i l.round l.button
