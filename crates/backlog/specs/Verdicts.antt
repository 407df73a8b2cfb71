-- FOUR CASES (`the_case`): one of them holds, and says the verdict and the settled count.
use Rattle.std.specs.Prelude.{◌≡◌, refl, ◌↔◌, ℕ, ◌≤◌, ◌<◌, T}
use Rattle.std.proofs.Math.Decide.{dec_lt}
use Rattle.std.proofs.Common.{arith}
use borrow.Author.Tests.{lt-ltb, le-ltb}
use Rattle.values.specs.declared.Table.{Table}
use Rattle.values.specs.declared.Verdict.{Verdict}
use Rattle.model.specs.Tasks.{round, load}
use Rattle.model.specs.Demand.{demand, late_at}
use Rattle.model.specs.Verdict.{needed, late_start, verdict, settled_by}
use Rattle.counting.specs.Count.{is_true, is_false, dec_t}

-- The late verdict on a deadline.
abbrev pub late_verdict : Table → ℕ → Verdict
late_verdict t to = Verdict.Late (late_start t to) to (demand t (late_start t to) to)

module _ (t : Table) (budget : ℕ) where
  -- What decides each case, and what it says.
  pub is_overload : round t < load t → (verdict t budget ≡ Verdict.Overload) × (settled_by t budget ≡ 0)
  unfolding verdict settled_by
  is_overload h = rw (lt-ltb (round t) (load t) h) (refl, refl)

  module _ (light : load t ≤ round t) where
    pub is_undecided : budget < needed t → (verdict t budget ≡ Verdict.Undecided) × (settled_by t budget ≡ budget)
    unfolding verdict settled_by
    is_undecided h = rw (le-ltb (round t) (load t) light, lt-ltb budget (needed t) h) (refl, refl)

    pub is_late_lem : needed t ≤ budget → T (late_at t (needed t)) → (verdict t budget ≡ late_verdict t (needed t)) × (settled_by t budget ≡ needed t)
    unfolding verdict settled_by
    is_late_lem h w = rw (le-ltb (round t) (load t) light, le-ltb budget (needed t) h, is_true (late_at t (needed t)) w) (refl, refl)

    pub is_passed_lem : needed t ≤ budget → (T (late_at t (needed t)) → ⊥) → (verdict t budget ≡ Verdict.Passes) × (settled_by t budget ≡ needed t)
    unfolding verdict settled_by
    is_passed_lem h w = rw (le-ltb (round t) (load t) light, le-ltb budget (needed t) h, is_false (late_at t (needed t)) w) (refl, refl)

  -- The cases, by verdict and settled count.
  pub data Case : Verdict → ℕ → Type 0 where
    overload : round t < load t → Case Verdict.Overload 0
    undecided : load t ≤ round t → budget < needed t → Case Verdict.Undecided budget
    late : load t ≤ round t → needed t ≤ budget → T (late_at t (needed t)) → Case (late_verdict t (needed t)) (needed t)
    passed : load t ≤ round t → needed t ≤ budget → (T (late_at t (needed t)) → ⊥) → Case Verdict.Passes (needed t)

  pub the_case : Case (verdict t budget) (settled_by t budget)
  the_case = go (dec_lt (round t) (load t)) (dec_lt budget (needed t)) (dec_t (late_at t (needed t)))
    where
      go : Dec (round t < load t) → Dec (budget < needed t) → Dec (T (late_at t (needed t))) → Case (verdict t budget) (settled_by t budget)
      go (yes h) b l = rw ((is_overload h).0, (is_overload h).1) (overload h)
      go (no h) (yes b) l = let g : load t ≤ round t = omega arith in rw ((is_undecided g b).0, (is_undecided g b).1) (undecided g b)
      go (no h) (no b) (yes l) =
          let g : load t ≤ round t = omega arith in
          let c : needed t ≤ budget = omega arith in
          rw ((is_late_lem g c l).0, (is_late_lem g c l).1) (late g c l)
      go (no h) (no b) (no l) =
          let g : load t ≤ round t = omega arith in
          let c : needed t ≤ budget = omega arith in
          rw ((is_passed_lem g c l).0, (is_passed_lem g c l).1) (passed g c l)

  -- Overload exactly if the load is above 1, whatever the budget.
  overload_case : {n : ℕ} → Case Verdict.Overload n → round t < load t
  overload_case (overload g) = g

  pub overload_iff : (verdict t budget ≡ Verdict.Overload) ↔ (round t < load t)
  overload_iff = (λ e. overload_case (rw e at the_case), λ h. (is_overload h).0)

  -- Late is said of the needed count alone.
  late_case : {n : ℕ} (from to asked : ℕ) → Case (Verdict.Late from to asked) n → T (late_at t (needed t))
      × (late_verdict t (needed t) ≡ Verdict.Late from to asked) × (n ≡ needed t)
  late_case from to asked (late g b l) = (l, refl, refl)

  pub late_needed : (from to asked : ℕ) → verdict t budget ≡ Verdict.Late from to asked → T (late_at t (needed t))
      × (late_verdict t (needed t) ≡ Verdict.Late from to asked) × (settled_by t budget ≡ needed t)
  late_needed from to asked e = late_case from to asked (rw e at the_case)

  -- Undecided exactly below the needed count, where there is no overload.
  undecided_case : {n : ℕ} → Case Verdict.Undecided n → (load t ≤ round t) × (budget < needed t)
  undecided_case (undecided g b) = (g, b)

  pub undecided_iff : (verdict t budget ≡ Verdict.Undecided) ↔ ((load t ≤ round t) × (budget < needed t))
  undecided_iff = (λ e. undecided_case (rw e at the_case), λ h. (is_undecided h.0 h.1).0)

  -- Passes exactly from the needed count on, where there is neither overload nor a late deadline.
  passed_case : {n : ℕ} → Case Verdict.Passes n → (load t ≤ round t) × (needed t ≤ budget) × (T (late_at t (needed t)) → ⊥)
  passed_case (passed g b l) = (g, b, l)

  pub passes_needed_iff : (verdict t budget ≡ Verdict.Passes) ↔ ((load t ≤ round t) × (needed t ≤ budget) × (T (late_at t (needed t)) → ⊥))
  passes_needed_iff = (λ e. passed_case (rw e at the_case), λ h. (is_passed_lem h.0 h.1 h.2).0)
