-- When a dispatcher's state is admitted.
use Rattle.model.specs.Values.{Judgement, Admission}
use Rattle.std.specs.Prelude.{◌≡◌, refl, ◌↔◌, Bool, true, false, cond, ℕ, ◌≤◌, ltb, Ok, Err}
use Rattle.std.proofs.Common.{arith, ltb-false, le-ltb}
use Rattle.values.specs.declared.Table.{Table}
use Rattle.values.specs.declared.Refusal.{Refusal}
use Rattle.values.specs.declared.Measure.{Measure}
use Rattle.model.specs.Limits.{slot_count_limit}
use Rattle.model.specs.Tasks.{judged}
use Rattle.model.specs.Dispatcher.{State, slot_count, first_strange, last_strange, admitted_by, admitted}

-- No place of 8 fits the state; and the table is well-formed.
pub record Fitting (t : Table) (d : State) : Type 0 where
  pub each : t.count ≤ first_strange t d
  pub ran : last_strange t d ≡ false
  pub room : slot_count t d ≤ slot_count_limit

pub record Admissible (t : Table) (d : State) : Type 0 where
  pub measure : Measure
  pub well : judged t ≡ Ok measure
  pub fits : Fitting t d

-- What one test does not refuse goes on to the next.
pub unrefused : (p : Bool) (r : Refusal) {a : Admission} → cond p (Err r) a ≡ Ok tt → (p ≡ false) × (a ≡ Ok tt)
unrefused true r e = let z : ◌≡◌ {A = ℕ} 0 1 = cc in absurd (omega arith)
unrefused false r e = (refl, e)

pub fitting : (t : Table) (d : State) (m : Measure) → admitted_by t d (Ok m) ≡ Ok tt → Fitting t d
fitting t d m e =
    let (a, e₁) = unrefused (ltb (first_strange t d) t.count) _ e in
    let (b, e₂) = unrefused (last_strange t d) _ e₁ in
    let (c, e₃) = unrefused (ltb slot_count_limit (slot_count t d)) _ e₂ in
    record { each = ltb-false (first_strange t d) t.count a; ran = b; room = ltb-false slot_count_limit (slot_count t d) c }

-- EXACTLY: a state is admitted if its table is judged well-formed and no place of 8 fits the state.
abbrev pub AdmissibleBy : Table → State → Judgement → Type 0
AdmissibleBy t d j = ((m : Measure) × (j ≡ Ok m)) × Fitting t d

pub admitted_by_iff : (t : Table) (d : State) (j : Judgement) → (admitted_by t d j ≡ Ok tt) ↔ AdmissibleBy t d j
admitted_by_iff t d j = (fwd j, λ ((m, e), f). rw (e, le-ltb (first_strange t d) t.count f.each, f.ran, le-ltb slot_count_limit (slot_count t d) f.room))
  where
    fwd : (j : Judgement) → admitted_by t d j ≡ Ok tt → AdmissibleBy t d j
    fwd (Err r) e = let z : ◌≡◌ {A = ℕ} 0 1 = cc in absurd (omega arith)
    fwd (Ok m) e = ((m, refl), fitting t d m e)

pub admitted_iff : (t : Table) (d : State) → (admitted t d ≡ Ok tt) ↔ Admissible t d
unfolding admitted
admitted_iff t d = (
  λ e. let ((m, w), f) = (admitted_by_iff t d (judged t)).0 e in record { measure = m; well = w; fits = f },
  λ a. (admitted_by_iff t d (judged t)).1 ((a.measure, a.well), a.fits),
)
