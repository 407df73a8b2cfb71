-- WHAT FITS AT A STEP (`fits_easier`): a table that fits at a step of a change, with any budget, fits at every easier one, with every budget
-- that reaches its horizon.
use Rattle.model.specs.Values.{Judgement}
use Rattle.std.specs.Prelude.{◌≡◌, refl, ◌↔◌, Bool, true, false, ℕ, ◌≤◌, ◌<◌, T, leb, Ok, Err}
use Rattle.std.proofs.Common.{sym, ap, ◌∙◌, arith, leb→le, le→leb}
use Rattle.values.specs.declared.Table.{Table}
use Rattle.values.specs.declared.Measure.{Measure}
use Rattle.values.specs.declared.Verdict.{Verdict}
use Rattle.model.specs.Notation.{every}
use Rattle.model.specs.Tasks.{task, button_sort, sort_offset, round, horizon, measure, judged}
use Rattle.model.specs.Verdict.{verdict}
use Rattle.model.specs.Easing.{Eased}
use Rattle.model.specs.Largest.{is_pass}
use Rattle.model.specs.Fitting.{fits_by, fits}
use Rattle.counting.specs.Count.{is_false, every_iff}
use Rattle.wellformed.specs.Ranges.{Ranged}
use Rattle.wellformed.specs.Round.{RoundKept, round_same}
use Rattle.wellformed.specs.WellFormed.{horizon_same, judged_iff}
use Rattle.backlog.specs.Verdicts.{passes_needed_iff}
use Rattle.backlog.specs.Needed.{none_within}
use Rattle.backlog.proofs.Eased.{eased_passes}
use Rattle.backlog.proofs.Largest.{pass_iff}
use Rattle.changes.specs.Hardening.{Hardening}

-- No cost is above its deadline, and the test for it.
abbrev pub CostsKept : Table → Type 0
CostsKept t = (k : ℕ) → k < t.count → (task t k).cost ≤ (task t k).deadline

abbrev cost_kept : Table → ℕ → Bool
cost_kept t i = leb (task t i).cost (task t i).deadline

abbrev pub costs_kept : Table → Bool
costs_kept t = every (cost_kept t) t.count

pub costs_kept_lem : (t : Table) → costs_kept t ≡ true → CostsKept t
costs_kept_lem t e k l = leb→le _ _ ((every_iff (cost_kept t) t.count).0 (rw e tt) k l)

-- A table fits exactly if it is well-formed and passes.
pub fits_iff : (t : Table) (budget : ℕ)
    → T (fits t budget) ↔ (((m : Measure) × (judged t ≡ Ok m)) × (verdict t budget ≡ Verdict.Passes))
unfolding fits
fits_iff t budget = (fwd (judged t) refl, λ ((m, well), pass). rw (well, pass) tt)
  where
    fwd : (j : Judgement) → judged t ≡ j → T (fits_by j (verdict t budget))
        → ((m : Measure) × (judged t ≡ Ok m)) × (verdict t budget ≡ Verdict.Passes)
    fwd (Err r) e h = absurd h
    fwd (Ok m) e h = ((m, e), (pass_iff (verdict t budget)).0 h)

-- Where it is well-formed, the verdict decides.
pub fits_by_verdict : (t : Table) (m : Measure) → judged t ≡ Ok m → (budget : ℕ) → fits t budget ≡ is_pass (verdict t budget)
unfolding fits
fits_by_verdict t m well budget = rw well

-- A table that fits keeps its ranges, and its budget reaches its horizon.
pub fits_ranged : (t : Table) (budget : ℕ) → T (fits t budget) → Ranged t
fits_ranged t budget h = let ((m, well), pass) = (fits_iff t budget).0 h in ((judged_iff t m).0 well).0

pub fits_enough : (t : Table) (budget : ℕ) → T (fits t budget) → horizon t ≤ budget
fits_enough t budget h =
    let ((m, well), pass) = (fits_iff t budget).0 h in
    let (light, reach, quiet) = (passes_needed_iff t budget).0 pass in
    omega (arith, (none_within t quiet).0)

-- A table with a cost above its deadline does not fit.
pub fits_not : (t : Table) (budget : ℕ) → costs_kept t ≡ false → fits t budget ≡ false
fits_not t budget e =
    is_false (fits t budget)
    (λ h. let all = (every_iff (cost_kept t) t.count).1 (λ k l. le→leb _ _ ((fits_ranged t budget h).each k l).cost_le) in rw e at all)

module _ (t : Table) (m : Measure) (well : judged t ≡ Ok m) (u : ℕ → Table) (h : Hardening t u) (x : ℕ) (some : 1 ≤ x) where
  -- With its costs within their deadlines, a table at a step keeps its ranges.
  pub step_ranged : CostsKept (u x) → Ranged (u x)
  step_ranged within =
      let (r, _, _, _) = (judged_iff t m).0 well in
      record {
        some = omega (arith, r.some, h.count x);
        few = omega (arith, r.few, h.count x);
        each = λ k l.
            let a : k < t.count = omega (arith, h.count x) in
            let q = r.each k a in
            let p = h.kept x k some a in
            record {
              period_pos = omega (arith, q.period_pos, p.period);
              period_le = omega (arith, q.period_le, p.period);
              deadline_pos = omega (arith, p.some, within k l);
              deadline_le = omega (arith, p.due, p.period);
              cost_pos = p.some;
              cost_le = within k l;
              offset_le = omega (arith, q.offset_le, ap sort_offset p.sort);
            };
      }

  -- It has the table's round and horizon.
  pub step_round : Ranged (u x) → round (u x) ≡ round t
  step_round q =
      let (r, _, _, _) = (judged_iff t m).0 well in
      round_same t (u x) r q (h.count x) (λ k l. (h.kept x k some l).period)

  pub step_horizon : Ranged (u x) → horizon (u x) ≡ horizon t
  step_horizon q =
      let (r, _, _, _) = (judged_iff t m).0 well in
      horizon_same t (u x) r q (h.count x) (λ k l. let p = h.kept x k some l in (ap sort_offset p.sort, p.period))

  pub step_kept : Ranged (u x) → RoundKept (u x) m.round
  step_kept q =
      let (_, le, same, _) = (judged_iff t m).0 well in
      record { is = ap (λ (y : Measure). y.round) same ∙ sym (step_round q); le = omega (arith, ap (λ (y : Measure). y.round) same) }

  -- So it is well-formed.
  pub step_well : Ranged (u x) → judged (u x) ≡ Ok (measure (u x))
  step_well q =
      let (_, le, _, none) = (judged_iff t m).0 well in
      (judged_iff (u x) (measure (u x))).1 (
        q,
        omega (arith, step_round q),
        refl,
        λ k l. let a : k < t.count = omega (arith, h.count x) in rw (h.kept x k some a).sort (none k a),
      )

module _ (t : Table) (m : Measure) (well : judged t ≡ Ok m) (u : ℕ → Table) (h : Hardening t u)
    (x y : ℕ) (some : 1 ≤ x) (le : x ≤ y) where
  -- An easier step eases the table.
  step_eases : Eased (u y) (u x)
  step_eases = record {
    kept = λ i. i;
    in_order = λ i k l m. l;
    of_before = λ i l. omega (arith, h.count x, h.count y);
    each = λ i l.
        let a : i < t.count = omega (arith, h.count x) in
        let p = h.kept x i some a in
        let q = h.kept y i (omega arith) a in
        record {
          same_sort = ap button_sort (p.sort ∙ sym q.sort);
          same_offset = ap sort_offset (p.sort ∙ sym q.sort);
          same_period = p.period ∙ sym q.period;
          lower_cost = (h.harder x y i le a).cost;
          longer_deadline = (h.harder x y i le a).deadline;
        };
  }

  pub fits_easier : (budget budget' : ℕ) → horizon t ≤ budget' → T (fits (u y) budget) → T (fits (u x) budget')
  fits_easier budget budget' enough hard =
      let (_, pass) = (fits_iff (u y) budget).0 hard in
      let r = fits_ranged (u y) budget hard in
      let within : CostsKept (u x) = λ k l.
      let a : k < t.count = omega (arith, h.count x) in
      omega (arith, (h.harder x y k le a).cost, (h.harder x y k le a).deadline, (r.each k (omega (arith, h.count y))).cost_le) in
      let q = step_ranged t m well u h x some within in
      (fits_iff (u x) budget').1 (
        (_, step_well t m well u h x some q),
        eased_passes (u y) (u x) step_eases r q budget budget' pass (omega (arith, step_horizon t m well u h x some q)),
      )

  -- With the same budget too: one that fits reaches the horizon.
  pub fits_falls : (budget : ℕ) → T (fits (u y) budget) → T (fits (u x) budget)
  fits_falls budget hard =
      fits_easier budget budget
      (omega (arith, fits_enough (u y) budget hard, step_horizon t m well u h y (omega arith) (fits_ranged (u y) budget hard))) hard
