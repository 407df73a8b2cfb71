-- THE WALK (`agrees`): with no done reports and no late deadline before, what the dispatcher has left and what the run has served make all that was released.
use Rattle.std.specs.Prelude.{◌≡◌, ◌⊎◌, false, cond, ℕ, zero, suc, ◌+◌, ◌-◌, ◌*◌, ◌<◌, T, ltb, eqb}
use Rattle.std.proofs.Common.{sym, ap, ◌∙◌, inl, inr, le_refl, arith, eq-eqb, ne_eqb, ltb→lt, lt→ltb}
use Rattle.std.proofs.Math.Nat.{le_step, div-eq_of_lt-le}
use Rattle.std.proofs.Math.Decide.{ℕ_discrete, dec_lt}
use Rattle.values.specs.declared.Table.{Table}
use Rattle.model.specs.Tasks.{task}
use Rattle.model.specs.Demand.{late_at}
use Rattle.model.specs.Run.{Order, owner}
use Rattle.model.specs.Dispatcher.{wait_of, left_of, is_late}
use Rattle.model.specs.History.{owner_at_by}
use Rattle.counting.specs.Below.{below_none}
use Rattle.wellformed.specs.Ranges.{Ranged}
use Rattle.backlog.specs.Choice.{NoLater, chosen_same}
use Rattle.backlog.specs.System.{System, release_of, due_of, released_by}
use Rattle.backlog.proofs.ModelRun.{served_of, ready_iff, model_run, owner_served, others_served, owned, at}
use Rattle.backlog.proofs.RunSchedule.{undone_iff}
use Rattle.backlog.proofs.TableSystem.{system_of}
use Rattle.backlog.proofs.EveryInstant.{missed_iff}
use Rattle.backlog.specs.Taken.{closed_late_iff, chosen, owner_ready, released_le, due_in}
use Rattle.backlog.proofs.Stepping.{Fresh, Kept, finds, late_is, ready_is, left_next, sound}
use Rattle.backlog.proofs.StepHistory.{ready, step_history}
use Rattle.backlog.specs.Walk.{quiet, walked_by, Clear}

module _ (t : Table) (r : Ranged t) (rank : Order) where
  abbrev S : System
  S = system_of t r rank

  -- What is left in the dispatcher and what the run has served make all that was released.
  abbrev pub Agrees : ℕ → Type 0
  Agrees n = (i : ℕ) → i < t.count → left_of (walked_by t rank n) i + served_of S n i ≡ (task t i).cost * released_by S i n

  -- A job closed as late means a late deadline.
  pub late_missed : (n : ℕ) → Agrees n → (i : ℕ) → T (is_late t (walked_by t rank n) false i) → T (late_at t n)
  late_missed n a i h =
      let l : i < t.count = ((closed_late_iff t (walked_by t rank n) false i).0 h).0 in
      let (p, (j, e, b)) = late_is t r rank quiet n i (sound t r rank quiet n) h in
      (missed_iff S n).0 (i, j, l, omega arith, (undone_iff S i j n l).1 (omega (arith, a i l, ap (λ (y : ℕ). (task t i).cost * y) b)))

  -- Agreement before slot n gives it after the releases of slot n.
  pub ready_agrees : (n : ℕ) → Agrees n → (T (late_at t n) → ⊥) → (i : ℕ) → i < t.count
      → ready t rank quiet n i + served_of S n i ≡ (task t i).cost * released_by S i (suc n)
  ready_agrees n a never i l = go (finds t r rank quiet n i (sound t r rank quiet n) l)
    where
      kept : Kept t r rank quiet n i → ready t rank quiet n i + served_of S n i ≡ (task t i).cost * released_by S i (suc n)
      kept k = elim k.left [
        | inl e ↦ omega (arith, e.0, a i l, ap (λ (y : ℕ). (task t i).cost * y) k.passed)
        | inr e ↦ elim e.1 [ inl x ↦ absurd x | inr x ↦ absurd (never (late_missed n a i x)) ]
      ]

      fresh : (j : ℕ) → Fresh t r rank quiet n i j → ready t rank quiet n i + served_of S n i ≡ (task t i).cost * released_by S i (suc n)
      fresh j f = at (dec_lt 0 (left_of (walked_by t rank n) i))
        where
          at : Dec (0 < left_of (walked_by t rank n) i) → ready t rank quiet n i + served_of S n i ≡ (task t i).cost * released_by S i (suc n)
          at (no p) = omega (arith, f.left, a i l, ap (λ (y : ℕ). (task t i).cost * y) f.earlier, ap (λ (y : ℕ). (task t i).cost * y) f.passed)
          at (yes p) =
              let (k, b, d) = (sound t r rank quiet n).current i l p in
              let e : release_of S i (suc k) ≡ n = ap (release_of S i) (sym b ∙ f.earlier) ∙ f.now in
              let w : wait_of (walked_by t rank n) i + n ≡ release_of S i (suc k) = (sound t r rank quiet n).next i l ∙ ap (release_of S i) b in
              absurd (never (late_missed n a i ((closed_late_iff t (walked_by t rank n) false i).1 (l, p, omega (arith, (r.each i l).deadline_le)))))

      go : ((j : ℕ) × Fresh t r rank quiet n i j) ⊎ Kept t r rank quiet n i → ready t rank quiet n i + served_of S n i ≡ (task t i).cost * released_by
          S i (suc n)
      go (inl (j, f)) = fresh j f
      go (inr k) = kept k

  -- Of a task that the dispatcher may serve, the job that the run is at has the deadline that its wait says.
  at_job : (n : ℕ) → Agrees n → (T (late_at t n) → ⊥) → (i : ℕ) → i < t.count → 0 < ready t rank quiet n i
      → due_of S i (at S n i) ≡ n + due_in t (walked_by t rank n) false i
  at_job n a never i l p =
      let (j, b, e, d) = ready_is t r rank quiet n i (sound t r rank quiet n) l p in
      let q : at S n i ≡ j = div-eq_of_lt-le (task t i).cost
      (omega (
        arith,
        ready_agrees n a never i l,
        released_le t (walked_by t rank n) false (sound t r rank quiet n).belongs i l,
        ap (λ (y : ℕ). (task t i).cost * y) b,
      )) (omega (arith, ready_agrees n a never i l, ap (λ (y : ℕ). (task t i).cost * y) b)) in
      ap (due_of S i) q ∙ e

  -- The dispatcher gives the slot to the task that the run gives it to.
  pub owner_agrees : (n : ℕ) → Agrees n → (T (late_at t n) → ⊥) → owner_at_by t rank quiet n ≡ owner t rank n
  owner_agrees n a never =
      chosen_same (λ i. ltb 0 (ready t rank quiet n i)) _ (due_in t (walked_by t rank n) false) (λ i. due_of S i (at S n i)) rank t.count
      (owner_at_by t rank quiet n) (owner t rank n)
      r.few
      (λ i l p. (ready_iff S i n (served_of S n i) l).1 (omega (arith, ready_agrees n a never i l, ltb→lt 0 (ready t rank quiet n i) p)))
      (λ i l p. lt→ltb 0 (ready t rank quiet n i) (omega (arith, ready_agrees n a never i l, (ready_iff S i n (served_of S n i) l).0 p)))
      (λ i k l m p q x. alike i k (at_job n a never i l (ltb→lt 0 (ready t rank quiet n i) p)) (at_job n a never k m (ltb→lt 0 (ready t rank quiet n k) q)) x)
      (chosen t rank (walked_by t rank n) false r.few)
      (owned S n)
    where
      alike : (i k : ℕ) → due_of S i (at S n i) ≡ n + due_in t (walked_by t rank n) false i
          → due_of S k (at S n k) ≡ n + due_in t (walked_by t rank n) false k
          → NoLater (λ i. due_of S i (at S n i)) rank i k
          → NoLater (due_in t (walked_by t rank n) false) rank i k
      alike i k e f (inl x) = inl (omega arith)
      alike i k e f (inr (x, o)) = inr (omega arith, o)

  -- Agreement, as long as no deadline is late.
  pub agrees : (n : ℕ) → Clear t n → Agrees n
  agrees zero c i l = rw (below_none (release_of S i)) (omega (arith, (step_history t r rank quiet).start i l, (model_run S).start i l))
  agrees (suc n) c i l = step (agrees n (λ u m. c u (le_step m))) (c n (le_refl (suc n)))
    where
      step : Agrees n → (T (late_at t n) → ⊥) → left_of (walked_by t rank (suc n)) i + served_of S (suc n) i ≡ (task t i).cost * released_by S i (suc n)
      step a never = at (ℕ_discrete (owner_at_by t rank quiet n) i) (owner_agrees n a never)
        where
          left_now : left_of (walked_by t rank (suc n)) i ≡ ready t rank quiet n i - cond (eqb (owner_at_by t rank quiet n) i) 1 0
          left_now = left_next t r rank quiet n i (sound t r rank quiet n) l

          at : Dec (owner_at_by t rank quiet n ≡ i) → owner_at_by t rank quiet n ≡ owner t rank n
              → left_of (walked_by t rank (suc n)) i + served_of S (suc n) i ≡ (task t i).cost * released_by S i (suc n)
          at (no e) q =
              rw (left_now, ne_eqb (owner_at_by t rank quiet n) i e, others_served S n i (λ x. e (q ∙ sym x))) (omega (arith, ready_agrees n a never i l))
          at (yes e) q =
              let o : owner t rank n ≡ i = sym q ∙ e in
              let p : 0 < ready t rank quiet n i = owner_ready t rank (walked_by t rank n) false r.few i l e in
              let one : served_of S (suc n) i ≡ served_of S n i + 1 = rw o at (owner_served S n (omega arith)) in
              rw (left_now, eq-eqb (owner_at_by t rank quiet n) i e, one) (omega (arith, ready_agrees n a never i l))
