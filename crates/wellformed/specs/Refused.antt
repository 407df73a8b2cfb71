-- Every refusal of a table has a number above 0 and a place below 65,536.
use Rattle.std.specs.Prelude.{◌≡◌, refl, Bool, true, false, cond, ◌≤◌, ◌<◌, ltb, eqb, Ok, Err}
use Rattle.std.proofs.Common.{arith, pos_of_ne-zero, ltb-true, ltb-false}
use Rattle.values.specs.declared.Table.{Table}
use Rattle.values.specs.declared.Refusal.{Refusal}
use Rattle.values.specs.declared.Measure.{Measure}
use Rattle.model.specs.Values.{refusal, Judgement}
use Rattle.model.specs.Limits.{task_limit, round_limit}
use Rattle.model.specs.Tasks.{task, task_fault, first_faulty, first_button, round, measure, judged_mixed, periodic_only, judged}
use Rattle.counting.specs.Search.{first_passes}
use Rattle.wellformed.specs.Ranges.{faulty, unmarked}
use Rattle.wellformed.specs.WellFormed.{mixed_iff}

-- A refusal of which 65,536 · number + place tells both, and that it is a refusal.
abbrev pub Tellable : Refusal → Type 0
Tellable r = (0 < r.number) × (r.place < 65536)

-- A judgement that is tellable if it refuses.
abbrev pub JudgementTellable : Judgement → Type 0
JudgementTellable (Err r) = Tellable r
JudgementTellable (Ok m) = Unit

-- The number of the first faulty task's fault is above 0.
fault_pos : (t : Table) → first_faulty t < t.count → 0 < task_fault (task t (first_faulty t))
unfolding first_faulty
fault_pos t l = pos_of_ne-zero (λ e. unmarked _ e (first_passes (faulty t) 0 t.count (omega arith)))

pub mixed_tellable : (t : Table) → JudgementTellable (judged_mixed t)
unfolding judged_mixed
mixed_tellable t = go (eqb t.count 0) (ltb task_limit t.count) (ltb (first_faulty t) t.count) (ltb round_limit (round t)) refl refl
  where
    go : (a b c d : Bool) → ltb task_limit t.count ≡ b → ltb (first_faulty t) t.count ≡ c
        → JudgementTellable (cond a (Err (refusal 1 0))
        (cond b (Err (refusal 2 task_limit))
        (cond c (Err (refusal (task_fault (task t (first_faulty t))) (first_faulty t)))
        (cond d (Err (refusal 7 0)) (Ok (measure t))))))
    go true b c d few e = (omega arith, omega arith)
    go false true c d few e = (omega arith, omega arith)
    go false false true d few e = let l : first_faulty t < t.count = ltb-true _ _ e in (fault_pos t l, omega (arith, ltb-false task_limit t.count few))
    go false false false true few e = (omega arith, omega arith)
    go false false false false few e = tt

-- A table that is not refused for its count has few tasks, so the place of 11 is low.
few_mixed : (t : Table) (m : Measure) → judged_mixed t ≡ Ok m → t.count ≤ task_limit
few_mixed t m e = ((mixed_iff t m).0 e).0.few

pub judged_tellable : (t : Table) → JudgementTellable (judged t)
unfolding judged
judged_tellable t = go (judged_mixed t) refl (mixed_tellable t)
  where
    button : (b : Bool) (m : Measure) → ltb (first_button t) t.count ≡ b → judged_mixed t ≡ Ok m
        → JudgementTellable (cond b (Err (refusal 11 (first_button t))) (Ok m))
    button true m e w = (omega arith, omega (arith, ltb-true (first_button t) t.count e, few_mixed t m w))
    button false m e w = tt

    go : (j : Judgement) → judged_mixed t ≡ j → JudgementTellable j → JudgementTellable (periodic_only t j)
    go (Err r) w h = h
    go (Ok m) w h = button (ltb (first_button t) t.count) m refl w
