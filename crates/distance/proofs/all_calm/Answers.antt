-- A quick pass is a pass; else with a periodic task the patterns decide, and without one the quick test.
use mathlib.Core.Path.{sym, ap, ◌∙◌}
use mathlib.Core.Bool.{not}
use native.Mathlib.Omega.{arith}
use Rattle.model.specs.Tasks.{is_button, no_task}
use Rattle.counting.specs.Listed.{some_taken}
use Rattle.wellformed.specs.Ranges.{holds_all}
use Rattle.wellformed.specs.WellFormed.{well_mixed}
use Rattle.distance.specs.Passing.{quick_decides, quick_calm}
use Rattle.distance.proofs.all_calm.Goals.{else-not-passed-via-then-not-passed+else-some_periodic, else-not-passed-via-else-not-passed}
use Rattle.distance.proofs.all_calm.Goals as goal

pub returns-then-some_periodic : goal.returns-then-some_periodic
returns-then-some_periodic c =
    let few = holds_all _ (well_mixed _ _ c.requires.t_value).ranged in
    let periodic = c.some_periodic.ensures ∙ some_taken (λ k. not (is_button k)) no_task c.args.t.tasks c.args.t.count few in
    rw (← periodic, c.if-some_periodic.true) c.each_calm.ensures

pub returns : goal.returns
returns c =
    let few = holds_all _ (well_mixed _ _ c.requires.t_value).ranged in
    elim c.else-not-passed.branch [
      | else-not-passed-via-then-not-passed+else-some_periodic w ↦
          c.passes-passed.ensures
          ∙ quick_decides _ c.requires.t_value c.requires.load_le_round
          (sym w.if-some_periodic.false ∙ w.some_periodic.ensures ∙ some_taken (λ k. not (is_button k)) no_task c.args.t.tasks c.args.t.count few)
      | else-not-passed-via-else-not-passed w ↦
          quick_calm _ c.requires.t_value c.passes-passed.result (ap not w.if-not-passed.false) c.passes-passed.ensures
    ]

pub shared_ref_as_front-some_periodic : goal.shared_ref_as_front-some_periodic
shared_ref_as_front-some_periodic c = omega (arith, (well_mixed _ _ c.requires.t_value).ranged.few)
