-- THE KEY LEMMA (`left_is`): the work that a run has left of the jobs up to a key is the backlog of one queue. It depends on the releases alone.
use Rattle.std.specs.Prelude.{◌≡◌}
use Rattle.std.proofs.Math.Path.{sym, subst}
use Rattle.std.proofs.Common.{ap, ◌∙◌, inl, inr, le_refl}
use Prim.Native.Nat.{ℕ, zero, suc, ◌+◌, ◌-◌, ◌*◌, ◌/◌, ◌≤◌, ◌<◌, min}
use Rattle.std.proofs.Math.Nat.{div-eq_of_lt-le}
use Rattle.std.proofs.Math.Decide.{ℕ_discrete, dec_lt, dec_le, le_ind}
use native.Mathlib.Omega.{arith}
use Rattle.model.specs.Notation.{sum}
use Rattle.counting.specs.Sum.{sum_eq, sum_add, sum_zero, sum_by, sum_member}
use Rattle.counting.specs.Below.{below_none, work_le}
use Rattle.backlog.specs.Queue.{backlog}
use Rattle.backlog.specs.Streams.{Jobs, released, work, key_at, SlotOf, Run, Serves, left_of, left, arrive_of, arrive, released_mono, in_class, work_at}

-- Of w class work with s served: what is left once r' is released is what was left at r, and what came between.
merge : (w r r' s : ℕ) → s ≤ r → r ≤ r' → min w r' - min s w ≡ (min w r - min s w) + (min w r' - min w r)
merge w r r' s h k = omega arith

module _ (J : Jobs) (s : ℕ → ℕ → ℕ) where
  left_start : (κ : ℕ) → left J s κ 0 ≡ 0
  unfolding left
  left_start κ = sum_zero J.n _ (λ i l. rw (below_none (J.rel i)) (omega arith))

  -- With no work left up to a key, every released job up to that key is done.
  pub done_of_none_left : (κ t i j : ℕ) → i < J.n → J.key i j ≤ κ → J.rel i j < t → left J s κ t ≡ 0 → J.cost i * suc j ≤ s t i
  unfolding left
  done_of_none_left κ t i j l k r e =
      omega (
        arith,
        sum_member J.n (left_of J κ t (s t)) i l,
        work_le (J.key i) (J.key_grows i l) (J.cost i) (suc κ) j (omega arith),
        work_le (J.rel i) (J.rel_grows i l) (J.cost i) t j r,
      )

module _ (J : Jobs) (s : ℕ → ℕ → ℕ) (R : Run J s) where
  -- No more is served than is released.
  pub served_le : (t i : ℕ) → i < J.n → s t i ≤ released J t i
  served_le zero i l = omega (arith, R.start i l)
  served_le (suc t) i l = go (R.slot t) (served_le t i l) (released_mono J i l t (suc t) (omega arith))
    where
      go : SlotOf J t (s t) (s (suc t)) → s t i ≤ released J t i → released J t i ≤ released J (suc t) i → s (suc t) i ≤ released J (suc t) i
      go (inl d) ih m = omega (arith, d.rest i l)
      go (inr (k, d)) ih m = at (ℕ_discrete i k)
        where
          at : Dec (i ≡ k) → s (suc t) i ≤ released J (suc t) i
          at (yes e) = rw e (omega (arith, d.one, d.ready))
          at (no e) = omega (arith, d.rest i l e)

  -- The class work that is left once the arrivals of slot t are in.
  abbrev due : ℕ → ℕ → ℕ → ℕ
  due κ t i = left_of J κ (suc t) (s t) i

  due_sum : (κ t : ℕ) → left J s κ t + arrive J κ t ≡ sum J.n (due κ t)
  unfolding left arrive
  due_sum κ t =
      sym (sum_add J.n (left_of J κ t (s t)) (arrive_of J κ t))
      ∙ sum_eq J.n _ _ (λ i l. sym
      (merge (work J κ i) (released J t i) (released J (suc t) i) (s t i) (served_le t i l) (released_mono J i l t (suc t) (omega arith))))

  left_step : (κ t : ℕ) → left J s κ (suc t) ≡ (left J s κ t + arrive J κ t) - 1
  unfolding left
  left_step κ t = go (R.slot t)
    where
      none_due : ((i : ℕ) → i < J.n → due κ t i ≡ 0) → ((i : ℕ) → i < J.n → left_of J κ (suc t) (s (suc t)) i ≡ due κ t i)
          → left J s κ (suc t) ≡ (left J s κ t + arrive J κ t) - 1
      none_due z q = omega (arith, due_sum κ t, sum_zero J.n (due κ t) z, sum_eq J.n (left_of J κ (suc t) (s (suc t))) (due κ t) q)

      go : SlotOf J t (s t) (s (suc t)) → left J s κ (suc t) ≡ (left J s κ t + arrive J κ t) - 1
      go (inl d) = none_due (λ i l. omega (arith, d.none i l)) (λ i l. rw (d.rest i l))
      go (inr (k, d)) = at (dec_le (key_at J k (s t k)) κ)
        where
          same : work J κ k ≤ s t k → (i : ℕ) → i < J.n → Dec (i ≡ k) → left_of J κ (suc t) (s (suc t)) i ≡ due κ t i
          same w i l (yes e) = rw e (omega (arith, d.one))
          same w i l (no e) = rw (d.rest i l e)

          over : ¬ (key_at J k (s t k) ≤ κ) → (i : ℕ) → i < J.n → Dec (s t i < released J (suc t) i) → Dec (s t i < work J κ i) → due κ t i ≡ 0
          over p i l (yes a) (yes b) = absurd (omega (arith, d.least i l a, (in_class J κ i l (s t i)).0 b))
          over p i l (yes a) (no b) = omega arith
          over p i l (no a) b = omega arith

          at : Dec (key_at J k (s t k) ≤ κ) → left J s κ (suc t) ≡ (left J s κ t + arrive J κ t) - 1
          at (yes p) =
              let w : s t k < work J κ k = (in_class J κ k d.bound (s t k)).1 p in
              let q : due κ t k ≡ left_of J κ (suc t) (s (suc t)) k + 1 = omega (arith, d.one, d.ready) in
              omega (arith, due_sum κ t, sum_by J.n (due κ t) (left_of J κ (suc t) (s (suc t))) k 1 d.bound q (λ i l e. rw (d.rest i l e)))
          at (no p) =
              let w : work J κ k ≤ s t k = elim (dec_lt (s t k) (work J κ k)) [
                | yes h ↦ absurd (p ((in_class J κ k d.bound (s t k)).0 h))
                | no h ↦ omega arith
              ] in
              none_due (λ i l. over p i l (dec_lt _ _) (dec_lt _ _)) (λ i l. same w i l (ℕ_discrete i k))

  -- The class work that is left is the backlog of the class arrivals.
  pub left_is : (κ t : ℕ) → left J s κ t ≡ backlog (arrive J κ) t
  unfolding backlog
  left_is κ zero = left_start J s κ
  left_is κ (suc t) = rw (← left_is κ t) (left_step κ t)

  -- After the slot that finishes a job no work is left up to its key.
  pub none_left_of_done : (t i j : ℕ) → i < J.n → s t i < J.cost i * suc j → J.cost i * suc j ≤ s (suc t) i → left J s (J.key i j) (suc t) ≡ 0
  unfolding left
  none_left_of_done t i j l a b = go (R.slot t)
    where
      go : SlotOf J t (s t) (s (suc t)) → left J s (J.key i j) (suc t) ≡ 0
      go (inl d) = absurd (omega (arith, d.rest i l))
      go (inr (k, d)) = at (ℕ_discrete i k)
        where
          at : Dec (i ≡ k) → left J s (J.key i j) (suc t) ≡ 0
          at (no e) = absurd (omega (arith, d.rest i l e))
          at (yes e) = sum_zero J.n _ (λ m q. each m q (ℕ_discrete m i) (dec_lt _ _) (dec_lt _ _))
            where
              c : Serves J t (s t) (s (suc t)) i
              c = subst (λ (x : ℕ). Serves J t (s t) (s (suc t)) x) (sym e) d

              now : s t i / J.cost i ≡ j
              now = div-eq_of_lt-le (J.cost i) (omega (arith, c.one, J.cost_pos i l)) (omega arith)

              each : (m : ℕ) → m < J.n → Dec (m ≡ i) → Dec (s t m < released J (suc t) m) → Dec (s t m < work J (J.key i j) m)
                  → left_of J (J.key i j) (suc t) (s (suc t)) m ≡ 0
              each m q (yes f) x y = rw f (omega (arith, work_at J i j l))
              each m q (no f) (yes x) (yes y) =
                  let v : J.key i j ≡ key_at J m (s t m) = omega (arith, ap (J.key i) now, c.least m q x, (in_class J (J.key i j) m q (s t m)).0 y) in
                  absurd (f (sym (J.key_apart i j m (s t m / J.cost m) l q v)))
              each m q (no f) (yes x) (no y) = omega (arith, c.rest m q f)
              each m q (no f) (no x) y = omega (arith, c.rest m q f)

  served_up : (i : ℕ) → i < J.n → (t : ℕ) → s t i ≤ s (suc t) i
  served_up i l t = go (R.slot t)
    where
      go : SlotOf J t (s t) (s (suc t)) → s t i ≤ s (suc t) i
      go (inl d) = omega (arith, d.rest i l)
      go (inr (k, d)) = elim (ℕ_discrete i k) [ yes e ↦ rw e (omega (arith, d.one)) | no e ↦ omega (arith, d.rest i l e) ]

  pub served_mono : (i : ℕ) → i < J.n → (t u : ℕ) → t ≤ u → s t i ≤ s u i
  served_mono i l t u h = le_ind (λ (x : ℕ). s t i ≤ s x i) (le_refl (s t i)) (λ m k ih. omega (arith, served_up i l m)) u h
