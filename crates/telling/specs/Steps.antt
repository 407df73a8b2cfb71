-- REFUSED STEPS (`refused_stays`): a step that is refused hands the state back as it came.
-- A state that no place of 8 fits is admitted (`state_admitted`).
use Rattle.model.specs.Values.{Admission}
use Rattle.std.specs.Prelude.{◌≡◌, refl, Bool, true, false, cond, ℕ, ◌≤◌, eqb, Ok, Err}
use Rattle.std.proofs.Common.{arith}
use Rattle.values.specs.declared.Table.{Table}
use Rattle.values.specs.declared.Refusal.{Refusal}
use Rattle.values.specs.declared.Measure.{Measure}
use Rattle.model.specs.Limits.{slot_count_limit}
use Rattle.model.specs.Tasks.{judged}
use Rattle.model.specs.Run.{tie_order}
use Rattle.model.specs.Dispatcher.{State, Stepped, slot_count, first_strange, last_strange}
use Rattle.model.specs.Dispatcher.{admitted, step_admitted_by, stepped, stepped_by}
use Rattle.wellformed.specs.Admitted.{admitted_iff}

pub state_admitted : (t : Table) (m : Measure) → judged t ≡ Ok m → (d : State)
    → t.count ≤ first_strange t d → last_strange t d ≡ false → slot_count t d ≤ slot_count_limit
    → admitted t d ≡ Ok tt
state_admitted t m well d each ran room =
    (admitted_iff t d).1 (record { measure = m; well = well; fits = record { each = each; ran = ran; room = room } })

module _ (t : Table) (d : State) (done : Bool) (r : Refusal) where
  either : (full : Bool) (x y : Stepped) → x.state ≡ d → (y.answer ≡ Err r → ⊥)
      → (cond full x y).answer ≡ Err r → (cond full x y).state ≡ d
  either true x y p n e = p
  either false x y p n e = absurd (n e)

  by_admission : (a : Admission) → (step_admitted_by t (tie_order t) d done a).answer ≡ Err r
      → (step_admitted_by t (tie_order t) d done a).state ≡ d
  by_admission (Err w) e = refl
  by_admission (Ok u) e =
      either (eqb (slot_count t d) slot_count_limit) _ _ refl (λ q. let z : ◌≡◌ {A = ℕ} 0 1 = cc in absurd (omega arith)) e

  pub refused_stays : (stepped t d done).answer ≡ Err r → (stepped t d done).state ≡ d
  unfolding stepped_by
  refused_stays = by_admission (admitted t d)
