-- CAUGHT UP (`none_left_idle`): a walk that met no late deadline has no slot left before slot n exactly if n is an idle instant.
use Rattle.std.specs.Prelude.{◌≡◌, List, ℕ}
use Rattle.std.proofs.Common.{ap, ◌∙◌}
use Rattle.values.specs.declared.Table.{Table}
use Rattle.model.specs.Run.{tie_order}
use Rattle.model.specs.Idle.{idle_at}
use Rattle.wellformed.specs.Ranges.{Ranged}
use Rattle.patterns.specs.WalkIdle.{walk_idle_at}
use Rattle.slots.specs.Slot.{none_left}
use Rattle.walks.specs.Walked.{Walked}

pub none_left_idle : {t : Table} → Ranged t → {n : ℕ} {wait left : List ℕ} → Walked t n wait left → none_left left t.count ≡ idle_at t (tie_order t) n
none_left_idle {t} r {n} w = ap (λ (l : List ℕ). none_left l t.count) w.lefts ∙ walk_idle_at t r n w.clear
