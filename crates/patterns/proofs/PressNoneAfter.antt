-- NONE GETS A SLOT AFTER ITS END, UNDER PRESSES (`none_after`): no slot goes to a job that is finished. Of any table that keeps its ranges.
use Rattle.std.specs.Prelude.{◌≡◌, refl, ◌⊎◌, Bool, true, false, cond, ℕ, zero, suc, ◌+◌, ◌-◌, ◌≤◌, ◌<◌, T, eqb}
use Rattle.std.proofs.Common.{◌∙◌, inl, inr, le_refl, add-zero, add-suc, eq-eqb}
use native.Mathlib.Omega.{arith}
use Rattle.values.specs.declared.Table.{Table}
use Rattle.model.specs.Notation.{bit, count}
use Rattle.model.specs.Tasks.{task}
use Rattle.model.specs.Dispatcher.{left_of, is_late, left_done, left_late, left_come}
use Rattle.model.specs.Presses.{comes, state_under, arrivals, owner_under, done_under, had_under, FinishedUnder}
use Rattle.counting.specs.Count.{is_true, is_false}
use Rattle.counting.specs.Below.{between_none}
use Rattle.wellformed.specs.Ranges.{Ranged}
use Rattle.backlog.proofs.Had.{since_next}
use Rattle.backlog.specs.Taken.{late_le}
use Rattle.backlog.specs.Coming.{ready_come, left_come_lem}
use Rattle.patterns.proofs.Arrivals.{comes_apart, comes_enumerates}
use Rattle.patterns.specs.TakenArrivals.{taken_respects, belongs_under}
use Rattle.patterns.proofs.PressHistory.{J, rel, arrives_at}
use Rattle.patterns.proofs.PressNeverMore.{never_more}
use Rattle.patterns.proofs.PressSettled.{finished_iff}

module _ (t : Table) (r : Ranged t) (done : ℕ → Bool) (pressed : ℕ → ℕ) (i u : ℕ) (l : i < t.count) (x : T (arrivals t done pressed i u)) where
  -- No other job comes within a period.
  none_comes : (v : ℕ) → u < v → v < u + (task t i).period → arrivals t done pressed i v ≡ false
  none_comes v a b = is_false (arrivals t done pressed i v) (λ h.
      let k = taken_respects t r done pressed in
      let here = arrives_at t r done pressed (suc v) i u l (omega arith) x in
      let (j, e) = (comes_enumerates t (arrivals t done pressed) k (suc v) i l v (le_refl (suc v))).0 h in
      between_none (rel t r done pressed (suc v) i) ((J t r done pressed (suc v)).rel_grows i l) v (count (arrivals t done pressed i) u)
      (omega (arith, here)) (omega (arith, here, comes_apart t (arrivals t done pressed) k (suc v) i (count (arrivals t done pressed i) u) l)) j e)

  -- What slot n may serve of the task's job; where no job comes it is what rules 1 and 2 leave.
  abbrev ready : ℕ → ℕ
  ready n = left_come t (state_under t done pressed n) (done n) (comes t (state_under t done pressed n) (pressed n)) i

  kept : (v : ℕ) → u < v → v < u + (task t i).period → ready v ≡ left_late t (state_under t done pressed v) (done v) i
  kept v a b = rw (none_comes v a b)

  -- A report closes the job, and what is closed stays so.
  report_closes : (v : ℕ) → u < v → v < u + (task t i).period → T (done_under t done pressed i v) → ready v ≡ 0
  report_closes v a b h = kept v a b ∙ go (is_late t (state_under t done pressed v) (done v) i)
    where
      go : (c : Bool) → cond c 0 (left_done t (state_under t done pressed v) (done v) i) ≡ 0
      go true = refl
      go false = rw (is_true (done_under t done pressed i v) h)

  left_next : (n : ℕ) → left_of (state_under t done pressed (suc n)) i ≤ ready n
  unfolding state_under
  left_next n =
      omega (
        arith,
        left_come_lem t r (state_under t done pressed n) (done n) (comes t (state_under t done pressed n) (pressed n))
            (belongs_under t r done pressed n) i l,
      )

  closed_stays : (v d : ℕ) → u < v → v + d < u + (task t i).period → ready v ≡ 0 → ready (v + d) ≡ 0
  closed_stays v zero a b z = rw (add-zero v) z
  closed_stays v (suc d) a b z =
      rw (add-suc v d) (omega (
        arith,
        kept (suc (v + d)) (omega arith) (omega arith),
        late_le t (state_under t done pressed (suc (v + d))) (done (suc (v + d))) i,
        left_next (v + d),
        closed_stays v d a (omega arith) z,
      ))

  pub none_after : (n : ℕ) → u ≤ n → n < u + (task t i).period → FinishedUnder t done pressed i u n → owner_under t done pressed n ≡ i → ⊥
  unfolding had_under
  none_after n a b f e = go ((finished_iff t done pressed i u n (omega arith)).0 f)
    where
      one : bit (eqb (owner_under t done pressed n) i) ≡ 1
      one = rw (eq-eqb (owner_under t done pressed n) i e)

      go : (had_under t done pressed i u n ≡ (task t i).cost) ⊎ ((v : ℕ) × (u < v) × (v ≤ n) × T (done_under t done pressed i v)) → ⊥
      go (inl h) = omega (arith, h, one, since_next (λ k. eqb (owner_under t done pressed k) i) u n a, never_more t r done pressed i u l x (suc n) b)
      go (inr (v, y, z, h)) =
          let d : v + (n - v) ≡ n = omega arith in
          let shut = closed_stays v (n - v) y (omega arith) (report_closes v y (omega arith) h) in
          omega (arith, rw d at shut, ready_come t r (state_under t done pressed n) (done n) (comes t (state_under t done pressed n) (pressed n)) i l e)
