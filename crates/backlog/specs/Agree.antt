-- NO FORESIGHT (`slots_agree`): the runs of streams that agree on what is released before t give the slots before t alike.
use Rattle.std.specs.Prelude.{◌≡◌, refl, ℕ, zero, suc, ◌*◌, ◌/◌, ◌≤◌, ◌<◌}
use Rattle.std.proofs.Common.{sym, ap₂, ◌∙◌, inl, inr, le_antisymm, arith}
use Rattle.std.proofs.Math.Decide.{ℕ_discrete}
use Rattle.model.specs.Schedule.{job}
use Rattle.counting.specs.Below.{below_below, work_lt}
use Rattle.backlog.specs.Streams.{Jobs, Run, SlotOf, released, key_at}
use Rattle.backlog.specs.StreamSchedule.{slot_of, schedule_of}

-- What is released before t is the same job, of the same cost and key.
pub record Agree (J J' : Jobs) (t : ℕ) : Type 0 where
  pub same_n : J'.n ≡ J.n
  pub same_cost : (i : ℕ) → i < J.n → J'.cost i ≡ J.cost i
  pub forth : (i j : ℕ) → i < J.n → J.rel i j < t → J'.rel i j ≡ J.rel i j
  pub back : (i j : ℕ) → i < J.n → J'.rel i j < t → J'.rel i j ≡ J.rel i j
  pub same_key : (i j : ℕ) → i < J.n → J.rel i j < t → J'.key i j ≡ J.key i j

module _ (J J' : Jobs) (t : ℕ) (a : Agree J J' t) where
  member : (i : ℕ) → i < J.n → i < J'.n
  member i l = omega (arith, a.same_n)

  released_same : (u i : ℕ) → u ≤ t → i < J.n → released J' u i ≡ released J u i
  released_same u i h l =
      ap₂ (λ (c b : ℕ). c * b) (a.same_cost i l)
      (le_antisymm
      (below_below (J'.rel i) (J.rel i) (J'.rel_grows i (member i l)) (J.rel_grows i l) u u (λ j m. omega (arith, a.back i j l (omega arith))))
      (below_below (J.rel i) (J'.rel i) (J.rel_grows i l) (J'.rel_grows i (member i l)) u u (λ j m. omega (arith, a.forth i j l (omega arith)))))

  module _ (u : ℕ) (h : u < t) (s s' : ℕ → ℕ) (same : (i : ℕ) → i < J.n → s' i ≡ s i) where
    -- The job that a pending stream is at has the same key.
    key_same : (i : ℕ) → i < J.n → s i < released J (suc u) i → key_at J' i (s' i) ≡ key_at J i (s i)
    key_same i l p =
        let r : J.rel i (s i / J.cost i) < suc u = (work_lt (J.rel i) (J.rel_grows i l) (J.cost i) (suc u) (s i) (J.cost_pos i l)).0 p in
        ap₂ (λ (x c : ℕ). J'.key i (x / c)) (same i l) (a.same_cost i l) ∙ a.same_key i (s i / J.cost i) l (omega arith)

    -- So the slot does the same.
    slot_same : (n n' : ℕ → ℕ) (d : SlotOf J u s n) (d' : SlotOf J' u s' n') → (slot_of J' u s' n' d' ≡ slot_of J u s n d) × ((i : ℕ) → i < J.n → n' i ≡ n i)
    slot_same n n' (inl d) (inl d') = (refl, λ i l. d'.rest i (member i l) ∙ same i l ∙ sym (d.rest i l))
    slot_same n n' (inl d) (inr (k, d')) =
        let l : k < J.n = omega (arith, a.same_n, d'.bound) in absurd (omega (arith, d.none k l, d'.ready, same k l, released_same (suc u) k h l))
    slot_same n n' (inr (k, d)) (inl d') =
        let l : k < J.n = d.bound in absurd (omega (arith, d'.none k (member k l), d.ready, same k l, released_same (suc u) k h l))
    slot_same n n' (inr (k, d)) (inr (k', d')) =
        (ap₂ (λ (x y : ℕ). job x y) (sym one) (rw (← one) (ap₂ (λ (x c : ℕ). x / c) (same k l) (a.same_cost k l))), λ i m. at i m (ℕ_discrete i k))
      where
        l : k < J.n
        l = d.bound

        l' : k' < J.n
        l' = omega (arith, a.same_n, d'.bound)

        ready' : s k' < released J (suc u) k'
        ready' = omega (arith, d'.ready, same k' l', released_same (suc u) k' h l')

        keys : key_at J k (s k) ≡ key_at J k' (s k')
        keys =
            omega (
              arith,
              d.least k' l' ready',
              d'.least k (member k l) (omega (arith, d.ready, same k l, released_same (suc u) k h l)),
              key_same k l d.ready,
              key_same k' l' ready',
            )

        one : k ≡ k'
        one = J.key_apart k _ k' _ l l' keys

        at : (i : ℕ) → i < J.n → Dec (i ≡ k) → n' i ≡ n i
        at i m (yes e) = rw e (omega (arith, d.one, rw (← one) at d'.one, same k l))
        at i m (no e) = omega (arith, d.rest i m e, d'.rest i (member i m) (λ q. e (q ∙ sym one)), same i m)

  module _ (s s' : ℕ → ℕ → ℕ) (R : Run J s) (R' : Run J' s') where
    pub served_agree : (u : ℕ) → u ≤ t → (i : ℕ) → i < J.n → s' u i ≡ s u i
    served_agree zero h i l = R'.start i (member i l) ∙ sym (R.start i l)
    served_agree (suc u) h i l = (slot_same u h (s u) (s' u) (served_agree u (omega arith)) (s (suc u)) (s' (suc u)) (R.slot u) (R'.slot u)).1 i l

    pub slots_agree : (u : ℕ) → u < t → schedule_of J' s' R' u ≡ schedule_of J s R u
    slots_agree u h = (slot_same u h (s u) (s' u) (served_agree u (omega arith)) (s (suc u)) (s' (suc u)) (R.slot u) (R'.slot u)).0
