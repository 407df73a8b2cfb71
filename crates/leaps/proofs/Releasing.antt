-- THE RELEASES OF A SLOT (`all_released_lem`): task after task, as long as the next release is now; then the walk holds what the dispatcher holds after
-- its releases.
use Rattle.std.specs.Prelude.{◌≡◌, refl, ◌⊎◌, List, false, ℕ, suc, ◌+◌, ◌-◌, ◌*◌, ◌/◌, ◌%◌, ◌<◌, set}
use Rattle.std.proofs.Common.{sym, ap, ◌∙◌, inl, inr, arith, eq-eqb, ne_eqb}
use Rattle.std.proofs.Math.Decide.{ℕ_discrete}
use Rattle.values.specs.declared.Table.{Table}
use Rattle.model.specs.Tasks.{task}
use Rattle.model.specs.Dispatcher.{wait_of, left_of, wait_released, left_released}
use Rattle.wellformed.specs.Ranges.{Ranged}
use Rattle.backlog.specs.Walk.{walked, Clear}
use Rattle.slots.specs.Slot.{at}
use Rattle.leaps.specs.Leap.{slack, none_closed}
use Rattle.leaps.specs.Queue.{alike, inserted, last_least}
use Rattle.leaps.specs.Entry.{places, span, entry}
use Rattle.leaps.proofs.Entries.{entry_time, entry_le}
use Rattle.leaps.specs.Held.{Held}
use Rattle.leaps.proofs.Held.{but, but_here, but_other, next_of, room, release_later, release_one}

-- What is held by waits and slots left that agree is held by the others.
held_same : (t : Table) {n : ℕ} {W L W' L' : ℕ → ℕ} {releases ready left : List ℕ} {jobs : ℕ} → ((i : ℕ) → i < t.count → W i ≡ W' i)
    → ((i : ℕ) → i < t.count → L i ≡ L' i)
    → Held t n W L releases ready left jobs → Held t n W' L' releases ready left jobs
held_same t {n} w s h = record {
  coming =
      alike h.coming (λ x (i, l, e). (i, l, e ∙ ap (λ (u : ℕ). entry t (n + u) i) (w i l)))
      (λ x (i, l, e). (i, l, e ∙ ap (λ (u : ℕ). entry t (n + u) i) (sym (w i l))));
  waiting =
      alike h.waiting (λ x (i, l, p, e). (i, l, omega (arith, s i l), e ∙ ap (λ (u : ℕ). entry t (n + (u - slack t i)) i) (w i l)))
      (λ x (i, l, p, e). (i, l, omega (arith, s i l), e ∙ ap (λ (u : ℕ). entry t (n + (u - slack t i)) i) (sym (w i l))));
  lefts = λ i l. h.lefts i l ∙ s i l;
  size = h.size;
  ahead = λ i l p. omega (arith, w i l, h.ahead i l (omega (arith, s i l)));
}

-- Some of the jobs of slot n are released: a task is as before, or its wait was 0.
pub record Releasing (t : Table) (n : ℕ) (releases ready left : List ℕ) (jobs : ℕ) : Type 0 where
  waits : ℕ → ℕ
  rests : ℕ → ℕ
  pub held : Held t n waits rests releases ready left jobs
  each : (i : ℕ) → i < t.count → ((waits i ≡ wait_of (walked t n) i) × (rests i ≡ left_of (walked t n) i))
      ⊎ ((wait_of (walked t n) i ≡ 0) × (waits i ≡ (task t i).period) × (rests i ≡ (task t i).cost))

pub none_released : {t : Table} {n : ℕ} {releases ready left : List ℕ} {jobs : ℕ}
    → Held t n (wait_of (walked t n)) (left_of (walked t n)) releases ready left jobs → Releasing t n releases ready left jobs
none_released h = record { waits = _; rests = _; held = h; each = λ i l. inl (refl, refl) }

module _ (t : Table) (r : Ranged t) {n : ℕ} {releases ready left : List ℕ} {jobs : ℕ} (v : Releasing t n releases ready left jobs) where
  abbrev last : ℕ
  last = at releases (t.count - 1)

  last_task : last % places < t.count
  last_task = (next_of t r v.held).0

  last_is : last ≡ entry t (n + v.waits (last % places)) (last % places)
  last_is = (next_of t r v.held).1

  last_time : last / span ≡ n + v.waits (last % places)
  last_time = ap (λ (x : ℕ). x / span) last_is ∙ entry_time t r (n + v.waits (last % places)) (last % places) last_task

  -- The next release is now.
  module _ (now : last / span ≡ n) where
    no_wait : v.waits (last % places) ≡ 0
    no_wait = omega (arith, last_time)

    pub released_task : (last % places < t.count) × (jobs < t.count)
    released_task = (last_task, room t r v.held (last % places) last_task (λ p. absurd (omega (arith, v.held.ahead (last % places) last_task p, no_wait))))

    pub one_released :
        Releasing t n (inserted releases (t.count - 1) (entry t (n + (task t (last % places)).period) (last % places)))
        (inserted ready jobs (entry t (n + (task t (last % places)).deadline) (last % places)))
        (set left (last % places) (task t (last % places)).cost) (jobs + 1)
    one_released = record {
      waits = but v.waits (last % places) (task t (last % places)).period;
      rests = but v.rests (last % places) (task t (last % places)).cost;
      held = release_one t r v.held (last % places) last_task last_is no_wait;
      each = λ i l. elim (ℕ_discrete (last % places) i) [
        | yes q ↦
            inr (rw (← q) (
              was_now,
              but_here v.waits (last % places) (task t (last % places)).period,
              but_here v.rests (last % places) (task t (last % places)).cost,
            ))
        | no q ↦ elim (v.each i l) [
          | inl (x, y) ↦
              inl (
                but_other v.waits (last % places) (task t (last % places)).period i q ∙ x,
                but_other v.rests (last % places) (task t (last % places)).cost i q ∙ y,
              )
          | inr (x, y, z) ↦
              inr (
                x,
                but_other v.waits (last % places) (task t (last % places)).period i q ∙ y,
                but_other v.rests (last % places) (task t (last % places)).cost i q ∙ z,
              )
        ]
      ];
    }
      where
        was_now : wait_of (walked t n) (last % places) ≡ 0
        was_now = elim (v.each (last % places) last_task) [ inl (x, y) ↦ sym x ∙ no_wait | inr (x, y, z) ↦ x ]

    -- The next release after it is later in the order, so that the releases of now come to an end.
    pub later_next : (n + 1) * span - at (inserted releases (t.count - 1) (entry t (n + (task t (last % places)).period) (last % places)))
        (t.count - 1) < (n + 1) * span - last
    later_next = closer ((n + 1) * span) last _ (release_later t r v.held (last % places) last_task last_is no_wait) (omega arith)
      where
        closer : (m x y : ℕ) → x < y → x < m → m - y < m - x
        closer m x y h l = omega arith

  -- The next release is later: all of now are released.
  pub all_released_lem : Clear t (suc n) → (last / span ≡ n → ⊥) → Held t n (wait_released t (walked t n) false)
      (left_released t (walked t n) false) releases ready left jobs
  all_released_lem c not-now = held_same t (λ i l. (go i l (v.each i l)).0) (λ i l. (go i l (v.each i l)).1) v.held
    where
      waiting : (i : ℕ) → i < t.count → 0 < v.waits i
      waiting i l =
          omega (
            arith,
            last_time,
            not-now,
            entry_le t r _ _ _ i last_task l
                (rw last_is at (last_least v.held.coming r.some (entry t (n + v.waits i) i) (i, l, refl))),
          )

      go : (i : ℕ) → i < t.count → ((v.waits i ≡ wait_of (walked t n) i) × (v.rests i ≡ left_of (walked t n) i))
          ⊎ ((wait_of (walked t n) i ≡ 0) × (v.waits i ≡ (task t i).period) × (v.rests i ≡ (task t i).cost))
          → (v.waits i ≡ wait_released t (walked t n) false i) × (v.rests i ≡ left_released t (walked t n) false i)
      go i l (inl (x, y)) =
          let z = ne_eqb (wait_of (walked t n) i) 0 (λ e. absurd (omega (arith, waiting i l))) in (rw z x, rw z (y ∙ sym (none_closed t r n c i l)))
      go i l (inr (x, y, w)) = let z = eq-eqb (wait_of (walked t n) i) 0 x in (rw z y, rw z w)
