-- REFUSALS (`admitted_or_told`): a file is admitted, or refused by a number above 0 and a place below 65,536.
use Rattle.model.specs.Values.{Admission}
use Rattle.std.specs.Prelude.{◌≡◌, refl, ◌⊎◌, Ok, Err}
use Rattle.std.proofs.Common.{inl, inr}
use Rattle.values.specs.declared.Refusal.{Refusal}
use Rattle.wellformed.specs.Refused.{Tellable}
use Rattle.tablefile.specs.Refused.{AdmissionTellable}

pub admitted_or_told : (a : Admission) → AdmissionTellable a
    → (a ≡ Ok tt) ⊎ ((r : Refusal) × (a ≡ Err r) × Tellable r)
admitted_or_told (Err r) h = inr (r, refl, h)
admitted_or_told (Ok u) h = inl refl
