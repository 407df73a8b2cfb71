-- REFUSED STEPS UNDER PRESSES (`refused_keeps`): a step that is refused hands the state back as it came and takes no press.
use Rattle.model.specs.Values.{Admission}
use Rattle.std.specs.Prelude.{◌≡◌, Bool, true, false, cond, ℕ, eqb, Ok, Err}
use Rattle.std.proofs.Common.{arith}
use Rattle.values.specs.declared.Table.{Table}
use Rattle.values.specs.declared.Refusal.{Refusal}
use Rattle.model.specs.Limits.{slot_count_limit}
use Rattle.model.specs.Dispatcher.{State, slot_count}
use Rattle.model.specs.Presses.{Pressed, admitted_mixed, refuse_pressed, press_admitted, stepped_pressed}

module _ (t : Table) (d : State) (done : Bool) (pressed : ℕ) (r : Refusal) where
  either : (full : Bool) (w : Refusal) (y : Pressed) → (y.answer ≡ Err r → ⊥)
      → (cond full (refuse_pressed w d pressed) y).answer ≡ Err r
      → cond full (refuse_pressed w d pressed) y ≡ refuse_pressed r d pressed
  either true w y n e = cc
  either false w y n e = absurd (n e)

  by_admission : (a : Admission) → (press_admitted t d done pressed a).answer ≡ Err r
      → press_admitted t d done pressed a ≡ refuse_pressed r d pressed
  by_admission (Err w) e = cc
  by_admission (Ok u) e =
      either (eqb (slot_count t d) slot_count_limit) _ _ (λ q. let z : ◌≡◌ {A = ℕ} 0 1 = cc in absurd (omega arith)) e

  pub refused_keeps : (stepped_pressed t d done pressed).answer ≡ Err r
      → stepped_pressed t d done pressed ≡ refuse_pressed r d pressed
  unfolding stepped_pressed
  refused_keeps = by_admission (admitted_mixed t d)
