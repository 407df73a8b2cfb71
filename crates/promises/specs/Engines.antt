-- TWO ENGINES, ONE ANSWER (section 3.6): `leaping::walk` goes from one release or finish to the next, `plain::walk` slot
-- by slot, and `exact::test` makes the answer of either. `exact::by_both_engines` calls both, and ensures that their answers
-- are equal and permitted. The contract of both exported checks is `Checked`, which permits one result.
use Rattle.std.specs.Prelude.{◌≡◌, refl, List, ℕ}
use Rattle.std.proofs.Common.{sym, ap₂, ◌∙◌}
use Rattle.values.specs.declared.Table.{Table}
use Rattle.values.specs.declared.Answer.{Answer}
use Rattle.exact.specs.declared.Twice.{Twice}
use Rattle.model.specs.Values.{answer_said}
use Rattle.model.specs.Verdict.{Permitted}
use Rattle.model.specs.Report.{Exported, Checked}
use Rattle.promises.specs.Demand1.{one_answer, one_export}

-- For every table and budget they give equal verdicts and intervals, as values and in the specification's numbers,
-- equal worst responses, settled counts and idle instants, and measure the same.
pub engines_agree : (t : Table) (budget : ℕ) (leaping plain : Answer)
    → Permitted t budget leaping → Permitted t budget plain
    → (leaping.outcome ≡ plain.outcome) × (answer_said leaping ≡ answer_said plain)
    × (leaping.worst ≡ plain.worst) × (leaping.settled ≡ plain.settled)
    × (leaping.idle ≡ plain.idle) × (leaping.measure ≡ plain.measure)
engines_agree t budget leaping plain p q =
    rw (one_answer t budget leaping plain p q) (refl, refl, refl, refl, refl, refl)

-- What `exact::by_both_engines` may hand back is one pair.
pub one_both : (t : Table) (budget : ℕ) (a b : Twice)
    → Permitted t budget a.leaping × (a.leaping ≡ a.plain) → Permitted t budget b.leaping × (b.leaping ≡ b.plain) → a ≡ b
one_both t budget a b (p, e) (q, f) =
    let same = one_answer t budget a.leaping b.leaping p q in
    ap₂ (λ (x y : Answer). record { leaping = x; plain = y }) same (sym e ∙ same ∙ f)

-- So `yolizadwa_check` and `yolizadwa_check_plainly` return one number and leave one buffer,
-- for every file and report buffer.
pub checks_agree : (file buffer : List ℕ) (leaping plain : Exported) → Checked file buffer leaping
    → Checked file buffer plain → (leaping.number ≡ plain.number) × (leaping.buffer ≡ plain.buffer)
checks_agree file buffer leaping plain p q = rw (one_export file buffer leaping plain p q) (refl, refl)
