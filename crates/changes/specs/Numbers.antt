-- THE NUMBER OF AN EDGE (`edge_number`): the last step at which a table fits stands for the number that the question asks for.
use Rattle.std.specs.Prelude.{◌≡◌, Bool, T, Ok}
use Rattle.std.proofs.Common.{ap, ◌∙◌, arith}
use Prim.Native.Nat.{ℕ, suc, ◌-◌, ◌≤◌, ◌<◌}
use Rattle.values.specs.declared.Table.{Table}
use Rattle.values.specs.declared.Measure.{Measure}
use Rattle.values.specs.declared.Verdict.{Verdict}
use Rattle.values.specs.declared.Change.{Change}
use Rattle.model.specs.Limits.{share_limit}
use Rattle.model.specs.Tasks.{task, measure, judged}
use Rattle.model.specs.Verdict.{verdict}
use Rattle.model.specs.Largest.{with_cost, largest_cost}
use Rattle.model.specs.Fitting.{fits, with_deadline, fitting_cost, fitting_deadline, fitting_share, fitting, easiest, task_of}
use Rattle.counting.specs.Search.{first_is}
use Rattle.counting.specs.Halving.{Edge, edge_last}
use Rattle.wellformed.specs.Ranges.{Ranged}
use Rattle.wellformed.specs.WellFormed.{judged_iff}
use Rattle.backlog.proofs.Largest.{pass_iff, ranged_with, largest_is}
use Rattle.changes.specs.Hardening.{hardened, steps, number_at, hardening, own_step, own_step_lem, own_within, first_step}
use Rattle.changes.specs.Fits.{fits_iff, step_ranged, step_well, fits_falls}

-- The table fits at a step.
abbrev pub fits_at : Table → Change → ℕ → ℕ → Bool
fits_at t c budget x = fits (hardened t c x) budget

module _ (t : Table) (m : Measure) (well : judged t ≡ Ok m) where
  ranged : Ranged t
  ranged = ((judged_iff t m).0 well).0

  module _ (c : Change) (l : task_of c < t.count) (budget : ℕ) where
    -- What fits goes down.
    pub falls : (x y : ℕ) → 1 ≤ x → x ≤ y → T (fits_at t c budget y) → T (fits_at t c budget x)
    falls x y some le = fits_falls t m well (hardened t c) (hardening t ranged c l) x y some le budget

  pub edge_number : (c : Change) → task_of c < t.count → (budget x : ℕ) → Edge (fits_at t c budget) (steps t c) x
      → fitting t c budget ≡ number_at t c x
  unfolding fitting_cost fitting_deadline fitting_share
  edge_number (Change.Cost i) l budget x e = edge_last (fits_at t (Change.Cost i) budget) (task t i).deadline (falls (Change.Cost i) l budget) x e
  edge_number (Change.Deadline i) l budget x e =
      let last = suc (task t i).period in
      let q = ranged.each i l in
      first_is (λ d. fits (with_deadline t i d) budget) (task t i).cost (last - (task t i).cost) (last - x)
      (omega (arith, e.upto, q.cost_le, q.deadline_le)) (omega (arith, e.some, q.cost_le, q.deadline_le)) e.here
      (λ d a b h.
      let back : last - (last - d) ≡ d = omega (arith, q.cost_le) in
      e.next (omega (arith, q.cost_le)) (falls (Change.Deadline i) l budget (suc x) (last - d) (omega arith) (omega arith) (rw back h)))
  edge_number Change.Share l budget x e = edge_last (fits_at t Change.Share budget) share_limit (falls Change.Share l budget) x e

  -- At its easiest the table is well-formed, for it is easier than it is as it is.
  module _ (c : Change) (l : task_of c < t.count) where
    pub easiest_ranged : Ranged (hardened t c 1)
    easiest_ranged =
        let h = hardening t ranged c l in
        let (some, _) = own_within t ranged c l in
        let own = own_step_lem t ranged c l in
        step_ranged t m well (hardened t c) h 1 (omega arith)
        (λ k a.
        let b : k < t.count = omega (arith, h.count 1) in
        let e = h.harder 1 (own_step t c) k some b in
        omega (
          arith,
          e.cost,
          e.deadline,
          ap (λ (u : Table). (task u k).cost) own,
          ap (λ (u : Table). (task u k).deadline) own,
          (ranged.each k b).cost_le,
        ))

    pub easiest_well : judged (hardened t c 1) ≡ Ok (measure (hardened t c 1))
    easiest_well = step_well t m well (hardened t c) (hardening t ranged c l) 1 (omega arith) easiest_ranged

    -- Where that passes, it fits.
    pub easiest_fits : (budget : ℕ) → verdict (easiest t c) budget ≡ Verdict.Passes → T (fits_at t c budget 1)
    easiest_fits budget pass =
        (fits_iff (hardened t c 1) budget).1 ((_, easiest_well), ap (λ (u : Table). verdict u budget) (first_step t c) ∙ pass)

    -- And where the table passes as it is, that step fits.
    pub own_fits : (budget : ℕ) → verdict t budget ≡ Verdict.Passes → T (fits_at t c budget (own_step t c))
    own_fits budget pass = rw (own_step_lem t ranged c l) ((fits_iff t budget).1 ((m, well), pass))

  -- The largest cost of a table that passes is the edge too.
  pub edge_largest : (i budget x : ℕ) → i < t.count → verdict t budget ≡ Verdict.Passes
      → Edge (fits_at t (Change.Cost i) budget) (steps t (Change.Cost i)) x → largest_cost t i budget ≡ x
  edge_largest i budget x l pass e =
      largest_is t ranged i l budget pass x e.some e.upto ((pass_iff _).1 ((fits_iff (with_cost t i x) budget).0 e.here).1)
      (λ a h.
      let c = Change.Cost i in
      let q = ranged_with t ranged i l (suc x) (omega arith) a in
      e.next a ((fits_iff (with_cost t i (suc x)) budget).1 (
        (_, step_well t m well (hardened t c) (hardening t ranged c l) (suc x) (omega arith) q),
        (pass_iff _).0 h,
      )))
