-- THE PERMITTED ANSWER (`permitted_course`): what is said at the end of a walk is what the model permits, however it ended.
use Rattle.std.specs.Prelude.{◌≡◌, ℕ, ◌≤◌, Ok}
use Rattle.std.proofs.Common.{inl, inr}
use Rattle.values.specs.declared.Table.{Table}
use Rattle.values.specs.declared.Measure.{Measure}
use Rattle.model.specs.Tasks.{judged}
use Rattle.model.specs.Verdict.{Permitted}
use Rattle.walks.specs.declared.Course.{Course}
use Rattle.walks.specs.Course.{Ends}
use Rattle.exact.specs.Concluded.{concluded}
use Rattle.exact.specs.Answers.{permitted_quiet, permitted_late}

module _ (t : Table) (m : Measure) (budget : ℕ) (well : judged t ≡ Ok m) where
  pub permitted_course : m.load ≤ m.round → {c : Course} → Ends t m budget c
      → Permitted t budget (concluded m c.from c.asked c.at c.worst c.idle)
  permitted_course light {c} e = elim e.way [
    | inl q ↦ rw q.none (permitted_quiet t m budget well light e.tally c.from q.clear q.ends)
    | inr l ↦ permitted_late t m budget well light e.tally c.from c.asked l.upto l.clear l.late l.before l.asks l.much l.last
  ]
