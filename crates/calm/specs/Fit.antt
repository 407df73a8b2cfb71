-- A well-formed table without overload, with other offsets in range, is one to walk.
use Rattle.std.specs.Prelude.{◌≡◌, ℕ, ◌≤◌, ◌<◌, Ok}
use Rattle.std.proofs.Common.{arith}
use Rattle.values.specs.declared.Table.{Table}
use Rattle.values.specs.declared.Measure.{Measure}
use Rattle.model.specs.Limits.{slot_limit, round_limit}
use Rattle.model.specs.Tasks.{round, load, judged_mixed}
use Rattle.model.specs.Patterns.{starting_at}
use Rattle.wellformed.specs.Ranges.{Ranged}
use Rattle.wellformed.specs.WellFormed.{mixed_iff, well_mixed}
use Rattle.patterns.specs.Starting.{starting_mixed}

pub starting_fits : (t : Table) {m : Measure} → judged_mixed t ≡ Ok m → m.load ≤ m.round → (start : ℕ → ℕ)
    → ((i : ℕ) → i < t.count → start i ≤ slot_limit)
    → let s = starting_at t start in Ranged s × ((load s ≤ round s) × (round s ≤ round_limit))
starting_fits t {m} well light start low =
    let e = starting_mixed t m start well low in
    let f = well_mixed _ _ e in
    let (r, h, same) = (mixed_iff _ _).0 e in
    (r, (omega (arith, f.round_is, f.load_is), omega arith))
