-- A LARGEST COST (`cost_case`): it is told only of a task of a table that passes, and is the largest cost there is;
-- what is told is told apart as a number (`cost_apart`).
use Rattle.values.specs.declared.Limit.{Limit}
use Rattle.std.specs.Prelude.{◌≡◌, ◌⊎◌, Bool, true, false, cond, ℕ, ◌+◌, ◌≤◌, ◌<◌, ltb, Ok, Err}
use Rattle.std.proofs.Math.Path.{refl}
use Rattle.std.proofs.Common.{subst, inl, inr, arith, lit<, ltb-true}
use Rattle.values.specs.declared.Table.{Table}
use Rattle.values.specs.declared.Refusal.{Refusal}
use Rattle.values.specs.declared.Measure.{Measure}
use Rattle.values.specs.declared.Verdict.{Verdict}
use Rattle.model.specs.Values.{refusal, Judgement, LargestCost}
use Rattle.model.specs.Limits.{slot_limit}
use Rattle.model.specs.Tasks.{judged}
use Rattle.model.specs.Verdict.{verdict}
use Rattle.model.specs.Report.{refusal_number}
use Rattle.model.specs.Largest.{largest_cost, cost_told, cost_judged, cost_answer, cost_number}
use Rattle.wellformed.specs.WellFormed.{well_formed}
use Rattle.wellformed.specs.Refused.{Tellable, JudgementTellable, judged_tellable}
use Rattle.backlog.proofs.Largest.{largest_cost_lem}

-- By number, what it takes for a cost to be told of a task.
by_number : (p : Bool) (a : LargestCost) (r : Refusal) (c : ℕ) → cond p a (Err r) ≡ Ok (Limit.At c)
    → (p ≡ true) × (a ≡ Ok (Limit.At c))
by_number true a r c e = (refl, e)
by_number false a r c e = let z : ◌≡◌ {A = ℕ} 0 1 = cc in absurd (omega arith)

module _ (t : Table) (i budget c : ℕ) where
  by_verdict : (v : Verdict) → cost_told t i budget v ≡ Ok (Limit.At c)
      → (v ≡ Verdict.Passes) × (largest_cost t i budget ≡ c)
  by_verdict Verdict.Passes e = let q : largest_cost t i budget ≡ c = cc in (refl, q)
  by_verdict Verdict.Overload e = let z : ◌≡◌ {A = ℕ} 0 1 = cc in absurd (omega arith)
  by_verdict (Verdict.Late from to asked) e = let z : ◌≡◌ {A = ℕ} 0 1 = cc in absurd (omega arith)
  by_verdict Verdict.Undecided e = let z : ◌≡◌ {A = ℕ} 0 1 = cc in absurd (omega arith)

  by_judgement : (j : Judgement) → judged t ≡ j → cost_judged t i budget j ≡ Ok (Limit.At c)
      → (i < t.count) × (verdict t budget ≡ Verdict.Passes) × ((m : Measure) × (judged t ≡ Ok m)) × (largest_cost t i budget ≡ c)
  by_judgement (Err r) w e = let z : ◌≡◌ {A = ℕ} 0 1 = cc in absurd (omega arith)
  by_judgement (Ok m) w e =
      let (n, told) = by_number (ltb i t.count) (cost_told t i budget (verdict t budget)) (refusal 12 i) c e in
      let (pass, same) = by_verdict (verdict t budget) told in
      (ltb-true i t.count n, pass, (m, w), same)

  pub cost_case : cost_answer t i budget ≡ Ok (Limit.At c)
      → (i < t.count) × (verdict t budget ≡ Verdict.Passes) × ((m : Measure) × (judged t ≡ Ok m)) × (largest_cost t i budget ≡ c)
  unfolding cost_answer
  cost_case = by_judgement (judged t) refl

  -- A cost that is told is 1 to 60,000.
  pub cost_in_range : cost_answer t i budget ≡ Ok (Limit.At c) → (1 ≤ c) × (c ≤ slot_limit)
  cost_in_range e =
      let (l, pass, (m, well), same) = cost_case e in
      let r = (well_formed t m well).ranged in
      let (least, most, passes, none) = largest_cost_lem t r i l budget pass in
      let k = r.each i l in
      (omega (arith, k.cost_pos), omega (arith, k.deadline_le, k.period_le))

module _ (t : Table) (i budget : ℕ) (l : i < 65536) where
  none_refused : (r : Refusal) (v : Verdict) → cost_told t i budget v ≡ Err r → ⊥
  none_refused r Verdict.Passes f = let z : ◌≡◌ {A = ℕ} 0 1 = cc in omega arith
  none_refused r Verdict.Overload f = let z : ◌≡◌ {A = ℕ} 0 1 = cc in omega arith
  none_refused r (Verdict.Late from to asked) f = let z : ◌≡◌ {A = ℕ} 0 1 = cc in omega arith
  none_refused r Verdict.Undecided f = let z : ◌≡◌ {A = ℕ} 0 1 = cc in omega arith

  task_tellable : (r : Refusal) (p : Bool)
      → cond p (cost_told t i budget (verdict t budget)) (Err (refusal 12 i)) ≡ Err r
      → Tellable r
  task_tellable r true f = absurd (none_refused r (verdict t budget) f)
  task_tellable r false f = let q : refusal 12 i ≡ r = cc in subst Tellable q (lit< tt, l)

  table_tellable : (r : Refusal) (j : Judgement)
      → JudgementTellable j → cost_judged t i budget j ≡ Err r → Tellable r
  table_tellable r (Err w) h f = let q : w ≡ r = cc in subst Tellable q h
  table_tellable r (Ok m) h f = task_tellable r (ltb i t.count) f

  -- A refusal has a number above 0 and a place below 65,536.
  pub refusal_tellable : (r : Refusal) → cost_answer t i budget ≡ Err r → Tellable r
  unfolding cost_answer
  refusal_tellable r = table_tellable r (judged t) (judged_tellable t)

  apart_by : (a : LargestCost) → cost_answer t i budget ≡ a
      → (cost_number a ≤ slot_limit + 3) ⊎ ((r : Refusal) × (cost_number a ≡ refusal_number r) × Tellable r)
  apart_by (Err r) e = inr (r, refl, refusal_tellable r e)
  apart_by (Ok Limit.Overload) e = inl (omega arith)
  apart_by (Ok Limit.Undecided) e = inl (omega arith)
  apart_by (Ok Limit.Late) e = inl (omega arith)
  apart_by (Ok (Limit.At c)) e = inl (omega (arith, cost_in_range t i budget c e))

  pub cost_apart : let n = cost_number (cost_answer t i budget) in
      (n ≤ slot_limit + 3) ⊎ ((r : Refusal) × (n ≡ refusal_number r) × Tellable r)
  cost_apart = apart_by (cost_answer t i budget) refl
