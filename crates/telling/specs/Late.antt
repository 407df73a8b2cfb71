-- A LATE VERDICT (`late_named`): it names the smallest late deadline, the largest start that asks too much up to there,
-- and that interval's demand.
use Rattle.std.specs.Prelude.{◌≡◌, ℕ, ◌<◌, T}
use Rattle.std.proofs.Common.{sym, ◌∙◌}
use Rattle.values.specs.declared.Table.{Table}
use Rattle.values.specs.declared.Verdict.{Verdict}
use Rattle.model.specs.Notation.{Least}
use Rattle.model.specs.Demand.{demand, asks_too_much, late_at}
use Rattle.model.specs.Verdict.{needed, late_start, verdict, settled_by}
use Rattle.backlog.specs.Needed.{none_before}
use Rattle.backlog.specs.LateStart.{start_asks, start_largest}
use Rattle.backlog.specs.Verdicts.{late_needed}

-- The deadline is the needed count, and the start the one that belongs to it.
at_needed : (t : Table) → T (late_at t (needed t))
    → let to = needed t in let from = late_start t to in
    Least (λ u. T (late_at t u)) to × T (asks_too_much t from to)
    × ((later : ℕ) → from < later → T (asks_too_much t later to) → ⊥)
at_needed t l =
    ((l, λ u m h. none_before t u m h), start_asks t (needed t) l, λ later m h. start_largest t (needed t) later m h)

pub late_named : (t : Table) (budget from to asked : ℕ) → verdict t budget ≡ Verdict.Late from to asked
    → Least (λ u. T (late_at t u)) to × T (asks_too_much t from to)
    × ((later : ℕ) → from < later → T (asks_too_much t later to) → ⊥)
    × (asked ≡ demand t from to) × (settled_by t budget ≡ to)
late_named t budget from to asked e =
    let (l, q, n) = late_needed t budget from to asked e in
    let f : late_start t (needed t) ≡ from = cc in
    let k : needed t ≡ to = cc in
    let d : demand t (late_start t (needed t)) (needed t) ≡ asked = cc in
    let (least, asks, largest) = at_needed t l in
    (rw (← k) least, rw (← f, ← k) asks, rw (← f, ← k) largest, rw (← f, ← k) (sym d), n ∙ k)
