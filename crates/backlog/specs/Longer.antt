-- A LONGER BUDGET (`longer`) alters no verdict but undecided, nor the settled count of another.
use Rattle.std.specs.Prelude.{◌≡◌, refl, ◌≢◌, ℕ, ◌≤◌}
use Rattle.std.proofs.Common.{arith}
use Rattle.values.specs.declared.Table.{Table}
use Rattle.values.specs.declared.Verdict.{Verdict}
use Rattle.model.specs.Verdict.{verdict, settled_by}
use Rattle.backlog.specs.Verdicts.{is_overload, is_late_lem, is_passed_lem, Case, the_case, overload, undecided, late, passed}

pub longer : (t : Table) (budget more : ℕ) → budget ≤ more → verdict t budget ≢ Verdict.Undecided → (verdict t more ≡ verdict t budget)
    × (settled_by t more ≡ settled_by t budget)
longer t budget more l h = go (verdict t budget) (settled_by t budget) (the_case t budget) h
  where
    go : (v : Verdict) (n : ℕ) → Case t budget v n → v ≢ Verdict.Undecided → (verdict t more ≡ v) × (settled_by t more ≡ n)
    go v n (overload g) u = is_overload t more g
    go v n (undecided g b) u = absurd (u refl)
    go v n (late g b w) u = is_late_lem t more g (omega arith) w
    go v n (passed g b w) u = is_passed_lem t more g (omega arith) w
