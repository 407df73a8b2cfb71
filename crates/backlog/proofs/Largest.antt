-- THE LARGEST COST (`largest_cost_lem`): of a table that passes, the largest cost of a task passes, is at least the present one and at most the deadline,
-- and no larger one up to there ever passes.
use Rattle.std.specs.Prelude.{◌≡◌, refl, ◌↔◌, ◌≢◌, T, length, Ok}
use Rattle.std.proofs.Common.{ap, ◌∙◌, add-mul, arith, get_or-set_same, get_or-set_other}
use Rattle.std.proofs.Math.Bool.{Bool}
use Prim.Native.Nat.{ℕ, suc, ◌+◌, ◌-◌, ◌*◌, ◌/◌, ◌≤◌, ◌<◌}
use Rattle.std.proofs.Math.Decide.{ℕ_discrete, dec_lt, dec_le}
use Rattle.std.proofs.Math.ListN.{get_or-eq_default}
use Rattle.std.proofs.lemmas.List.{set-get_or}
use Rattle.values.specs.declared.Task.{Task}
use Rattle.values.specs.declared.Table.{Table}
use Rattle.values.specs.declared.Measure.{Measure}
use Rattle.values.specs.declared.Verdict.{Verdict}
use Rattle.model.specs.Notation.{last}
use Rattle.model.specs.Tasks.{no_task, task, offset, round, load, horizon, judged}
use Rattle.model.specs.Verdict.{verdict}
use Rattle.model.specs.Easing.{EasedTask, Lowered}
use Rattle.model.specs.Largest.{costing, with_cost, is_pass, passes_with, largest_cost}
use Rattle.counting.specs.Sum.{sum_by}
use Rattle.counting.specs.Search.{last_lt, last_is, last_passes, last_behind}
use Rattle.wellformed.specs.Ranges.{InRange, Ranged}
use Rattle.wellformed.specs.Round.{round_same}
use Rattle.wellformed.specs.WellFormed.{Buttonless, horizon_same, judged_iff}
use Rattle.backlog.specs.Verdicts.{passes_needed_iff}
use Rattle.backlog.specs.Needed.{none_within}
use Rattle.backlog.proofs.Eased.{eased_passes, eased_of_lowered}

-- The test for a pass, read.
pub pass_iff : (v : Verdict) → T (is_pass v) ↔ (v ≡ Verdict.Passes)
pass_iff Verdict.Passes = (λ h. refl, λ e. tt)
pass_iff Verdict.Overload = (λ h. absurd h, λ e. let z : ◌≡◌ {A = ℕ} 0 1 = cc in absurd (omega arith))
pass_iff (Verdict.Late from to asked) = (λ h. absurd h, λ e. let z : ◌≡◌ {A = ℕ} 0 1 = cc in absurd (omega arith))
pass_iff Verdict.Undecided = (λ h. absurd h, λ e. let z : ◌≡◌ {A = ℕ} 0 1 = cc in absurd (omega arith))

-- With its own cost a table is what it was.
pub own_cost : (t : Table) (i : ℕ) → with_cost t i (task t i).cost ≡ t
own_cost t i = rw (set-get_or t.tasks i no_task)

module _ (t : Table) (r : Ranged t) (i : ℕ) (l : i < t.count) where
  -- A task that keeps its ranges stands in the list.
  listed : i < length t.tasks
  listed = elim (dec_lt i (length t.tasks)) [
    | yes h ↦ h
    | no h ↦ absurd (omega (arith, (r.each i l).period_pos, ap (λ (k : Task). k.period) (get_or-eq_default t.tasks no_task {n = i} (omega arith))))
  ]

  with_own : (c : ℕ) → task (with_cost t i c) i ≡ costing (task t i) c
  with_own c = get_or-set_same t.tasks i _ no_task listed

  with_other : (c k : ℕ) → k ≢ i → task (with_cost t i c) k ≡ task t k
  with_other c k h = get_or-set_other t.tasks i k _ no_task h

  -- Such a table keeps its ranges.
  pub ranged_with : (c : ℕ) → 1 ≤ c → c ≤ (task t i).deadline → Ranged (with_cost t i c)
  ranged_with c a b = record { some = r.some; few = r.few; each = λ k m. each k m (ℕ_discrete k i) }
    where
      each : (k : ℕ) → k < t.count → Dec (k ≡ i) → InRange (task (with_cost t i c) k)
      each k m (no h) = rw (with_other c k h) (r.each k m)
      each k m (yes h) =
          let q = r.each i l in
          rw (h, with_own c) (record {
            period_pos = q.period_pos;
            period_le = q.period_le;
            deadline_pos = q.deadline_pos;
            deadline_le = q.deadline_le;
            cost_pos = a;
            cost_le = b;
            offset_le = q.offset_le;
          })

  -- A task keeps its sort.
  pub buttonless_with : (c : ℕ) → Buttonless t → Buttonless (with_cost t i c)
  buttonless_with c none k m = elim (ℕ_discrete k i) [ yes h ↦ rw (h, with_own c) (none i l) | no h ↦ rw (with_other c k h) (none k m) ]

  -- Each task has its offset and its period still; so the table has its H and its horizon.
  released_with : (c k : ℕ) → (offset (task (with_cost t i c) k) ≡ offset (task t k)) × ((task (with_cost t i c) k).period ≡ (task t k).period)
  released_with c k = elim (ℕ_discrete k i) [ yes h ↦ rw (h, with_own c) (refl, refl) | no h ↦ rw (with_other c k h) (refl, refl) ]

  pub round_with : (c : ℕ) → 1 ≤ c → c ≤ (task t i).deadline → round (with_cost t i c) ≡ round t
  round_with c a b = round_same t (with_cost t i c) r (ranged_with c a b) refl (λ k m. (released_with c k).1)

  pub horizon_with : (c : ℕ) → 1 ≤ c → c ≤ (task t i).deadline → horizon (with_cost t i c) ≡ horizon t
  horizon_with c a b = horizon_same t (with_cost t i c) r (ranged_with c a b) refl (λ k m. released_with c k)

  -- A higher cost adds what each job has more to the load.
  pub load_with : (c : ℕ) → (task t i).cost ≤ c → c ≤ (task t i).deadline
      → load (with_cost t i c) ≡ load t + (c - (task t i).cost) * (round t / (task t i).period)
  unfolding load
  load_with c a b = rw (round_with c (omega (arith, (r.each i l).cost_pos)) b) (sum_by t.count _ _ i _ l own other)
    where
      share : ℕ
      share = round t / (task t i).period

      own : (task (with_cost t i c) i).cost * (round t / (task (with_cost t i c) i).period) ≡ (task t i).cost * share + (c - (task t i).cost) * share
      own = rw (with_own c) (let e : (task t i).cost + (c - (task t i).cost) ≡ c = omega arith in rw (← add-mul (task t i).cost (c - (task t i).cost) share, e))

      other : (k : ℕ) → k < t.count → k ≢ i
          → (task (with_cost t i c) k).cost * (round t / (task (with_cost t i c) k).period) ≡ (task t k).cost * (round t / (task t k).period)
      other k m h = rw (with_other c k h)

  -- With more of that cost, up to the deadline, the table is well-formed too: its load grows, and nothing else.
  pub well_with : (m : Measure) → judged t ≡ Ok m → (c : ℕ) → (task t i).cost ≤ c → c ≤ (task t i).deadline
      → judged (with_cost t i c) ≡ Ok
      (record { round = m.round; load = m.load + (c - (task t i).cost) * (m.round / (task t i).period); horizon = m.horizon })
  well_with m w c a b =
      let (_, h, same, none) = (judged_iff t m).0 w in
      let some : 1 ≤ c = omega (arith, (r.each i l).cost_pos) in
      (judged_iff (with_cost t i c) _).1 (
        ranged_with c some b,
        omega (arith, round_with c some b),
        rw (same, round_with c some b, load_with c a b, horizon_with c some b),
        buttonless_with c none,
      )

  -- With less of that cost, costs alone are lowered.
  pub lowered_with : (less more : ℕ) → less ≤ more → Lowered (with_cost t i more) (with_cost t i less)
  lowered_with less more h = record { same_count = refl; each = λ k m. each k (ℕ_discrete k i); same_deadline = λ k m. same k (ℕ_discrete k i) }
    where
      each : (k : ℕ) → Dec (k ≡ i) → EasedTask (task (with_cost t i more) k) (task (with_cost t i less) k)
      each k (no e) =
          rw (with_other less k e, with_other more k e)
          (record { same_sort = refl; same_offset = refl; same_period = refl; lower_cost = omega arith; longer_deadline = omega arith })
      each k (yes e) =
          rw (e, with_own less, with_own more)
          (record { same_sort = refl; same_offset = refl; same_period = refl; lower_cost = h; longer_deadline = omega arith })

      same : (k : ℕ) → Dec (k ≡ i) → (task (with_cost t i less) k).deadline ≡ (task (with_cost t i more) k).deadline
      same k (no e) = rw (with_other less k e, with_other more k e)
      same k (yes e) = rw (e, with_own less, with_own more)

  -- What passes with more of that cost, with any budget, passes with less, with one that reaches the horizon.
  passes_down : (less more budget budget' : ℕ) → 1 ≤ less → less ≤ more → more ≤ (task t i).deadline → horizon t ≤ budget'
      → verdict (with_cost t i more) budget ≡ Verdict.Passes → verdict (with_cost t i less) budget' ≡ Verdict.Passes
  passes_down less more budget budget' a b c enough pass =
      eased_passes (with_cost t i more) (with_cost t i less) (eased_of_lowered _ _ (lowered_with less more b)) (ranged_with more (omega arith) c)
      (ranged_with less a (omega arith)) budget budget' pass (omega (arith, horizon_with less a (omega arith)))

  module _ (budget : ℕ) (pass : verdict t budget ≡ Verdict.Passes) where
    -- The budget of a pass reaches the horizon.
    enough : horizon t ≤ budget
    enough = let (light, reach, quiet) = (passes_needed_iff t budget).0 pass in omega (arith, (none_within t quiet).0)

    -- The present cost passes.
    pub own_passes : T (passes_with t i budget (task t i).cost)
    own_passes = (pass_iff _).1 (ap (λ (u : Table). verdict u budget) (own_cost t i) ∙ pass)

    -- A cost that passes, while the next one up to the deadline does not, is the largest.
    pub largest_is : (c : ℕ) → 1 ≤ c → c ≤ (task t i).deadline → T (passes_with t i budget c)
        → (suc c ≤ (task t i).deadline → T (passes_with t i budget (suc c)) → ⊥) → largest_cost t i budget ≡ c
    unfolding largest_cost
    largest_is c a b h next = last_is (passes_with t i budget) (suc (task t i).deadline) c (omega arith) h
        (λ d m n w. next (omega arith) ((pass_iff _).1 (passes_down (suc c) d budget budget (omega arith) m (omega arith) enough ((pass_iff _).0 w))))

    pub largest_cost_lem :
        let c = largest_cost t i budget in ((task t i).cost ≤ c) × (c ≤ (task t i).deadline) × (verdict (with_cost t i c) budget ≡ Verdict.Passes)
        × ((d : ℕ) → c < d → d ≤ (task t i).deadline → (b : ℕ) → verdict (with_cost t i d) b ≡ Verdict.Passes → ⊥)
    unfolding largest_cost
    largest_cost_lem = (
      elim (dec_le (task t i).cost c) [ yes h ↦ h | no h ↦ absurd (last_behind p n (task t i).cost (omega arith) own own_passes) ],
      omega (arith, last_lt p n (omega arith)),
      (pass_iff _).0 (last_passes p n (task t i).cost own own_passes),
      λ d m h b w. last_behind p n d m (omega arith) ((pass_iff _).1 (passes_down d d b budget (omega arith) (omega arith) h enough w)),
    )
      where
        p : ℕ → Bool
        p = passes_with t i budget

        n : ℕ
        n = suc (task t i).deadline

        c : ℕ
        c = last p n

        own : (task t i).cost < n
        own = omega (arith, (r.each i l).cost_le)
