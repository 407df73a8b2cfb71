-- WHAT THE WALK HOLDS (`release_one`): the next releases and the open jobs, each as a queue in the order in which they come, and the slots left. A
-- release moves a task in both.
use Rattle.std.specs.Prelude.{◌≡◌, refl, ◌⊎◌, List, cond, ℕ, suc, ◌+◌, ◌-◌, ◌%◌, ◌≤◌, ◌<◌, ltb, eqb, set}
use Rattle.std.proofs.Common.{sym, ap, subst, ◌∙◌, inl, inr, arith, eq-eqb, ne_eqb, lt-ltb, le-ltb, length-set, get_or-set_same, get_or-set_other}
use Rattle.std.proofs.Math.Decide.{ℕ_discrete, dec_lt}
use Rattle.values.specs.declared.Table.{Table}
use Rattle.model.specs.Tasks.{task}
use Rattle.wellformed.specs.Ranges.{Ranged}
use Rattle.slots.specs.Slot.{at}
use Rattle.leaps.specs.Entry.{places, entry}
use Rattle.leaps.proofs.Entries.{entry_task, entry_same}
use Rattle.leaps.specs.Leap.{slack}
use Rattle.leaps.specs.Queue.{Queue, inserted, alike, last_least, but_last, put_in}
use Rattle.leaps.specs.AtMost.{at_most}
use Rattle.leaps.specs.Held.{Coming, Waiting, Held}

-- One number of a function replaced.
abbrev pub but : (ℕ → ℕ) → ℕ → ℕ → ℕ → ℕ
but f i x k = cond (eqb i k) x (f k)

pub but_here : (f : ℕ → ℕ) (i x : ℕ) → but f i x i ≡ x
but_here f i x = rw (eq-eqb i i refl)

pub but_other : (f : ℕ → ℕ) (i x k : ℕ) → (i ≡ k → ⊥) → but f i x k ≡ f k
but_other f i x k h = rw (ne_eqb i k h)

module _ (t : Table) (r : Ranged t) {n : ℕ} {W L : ℕ → ℕ} {releases ready left : List ℕ} {jobs : ℕ} (h : Held t n W L releases ready left jobs) where
  -- The task of the next release, and of the first deadline.
  pub next_of : (at releases (t.count - 1) % places < t.count)
      × (at releases (t.count - 1) ≡ entry t (n + W (at releases (t.count - 1) % places)) (at releases (t.count - 1) % places))
  next_of =
      let (i, l, e) = h.coming.sound (t.count - 1) (omega (arith, r.some)) in
      let f : at releases (t.count - 1) % places ≡ i = ap (λ (x : ℕ). x % places) e ∙ entry_task t r (n + W i) i l in
      rw f (l, e)

  -- The task of each open job.
  open_of : (a : ℕ) → a < jobs → (at ready a % places < t.count) × (0 < L (at ready a % places))
      × (at ready a ≡ entry t (n + (W (at ready a % places) - slack t (at ready a % places))) (at ready a % places))
  open_of a k =
      let (j, m, p, e) = h.waiting.sound a k in
      let f : at ready a % places ≡ j = ap (λ (x : ℕ). x % places) e ∙ entry_task t r (n + (W j - slack t j)) j m in
      rw f (m, p, e)

  open_apart : (a b : ℕ) → a < b → b < jobs → at ready a % places ≡ at ready b % places → ⊥
  open_apart a b k m f =
      let (la, pa, ea) = open_of a (omega arith) in
      let (lb, pb, eb) = open_of b m in
      omega (arith, h.waiting.falls a b k m, ea ∙ ap (λ (j : ℕ). entry t (n + (W j - slack t j)) j) f ∙ sym eb)

  -- There are no more than tasks.
  pub crowd : jobs ≤ t.count
  crowd = at_most t.count jobs (λ a. at ready a % places) (λ a k. (open_of a k).0) open_apart

  -- Where a task is not open, there is room for one more.
  pub room : (i : ℕ) → i < t.count → (0 < L i → ⊥) → jobs < t.count
  room i l shut = at_most t.count (suc jobs) (λ a. cond (ltb a jobs) (at ready a % places) i) low apart
    where
      here : (a : ℕ) → a < jobs → cond (ltb a jobs) (at ready a % places) i ≡ at ready a % places
      here a k = rw (lt-ltb a jobs k)

      last : (a : ℕ) → a < suc jobs → (a < jobs → ⊥) → cond (ltb a jobs) (at ready a % places) i ≡ i
      last a k m = rw (le-ltb a jobs (omega arith))

      low : (a : ℕ) → a < suc jobs → cond (ltb a jobs) (at ready a % places) i < t.count
      low a k = elim (dec_lt a jobs) [ yes m ↦ omega (arith, here a m, (open_of a m).0) | no m ↦ omega (arith, last a k m) ]

      apart : (a b : ℕ) → a < b → b < suc jobs → cond (ltb a jobs) (at ready a % places) i ≡ cond (ltb b jobs) (at ready b % places) i → ⊥
      apart a b k m e = elim (dec_lt b jobs) [
        | yes x ↦ open_apart a b k x (sym (here a (omega arith)) ∙ e ∙ here b x)
        | no x ↦ shut (subst (λ (j : ℕ). 0 < L j) (sym (here a (omega arith)) ∙ e ∙ last b m x) (open_of a (omega arith)).1)
      ]

  -- A job of task i is released: its wait is 0, so that its last job is not open.
  module _ (i : ℕ) (l : i < t.count) (first : at releases (t.count - 1) ≡ entry t (n + W i) i) (now : W i ≡ 0) where
    shut : 0 < L i → ⊥
    shut p = absurd (omega (arith, h.ahead i l p))

    queued : Queue (λ x. (x ≡ entry t (n + (task t i).period) i) ⊎ (Coming t n W x × (at releases (t.count - 1) < x)))
        (inserted releases (t.count - 1) (entry t (n + (task t i).period) i)) t.count
    queued = put_in (but_last h.coming r.some) (omega (arith, r.few)) (entry t (n + (task t i).period) i) fresh t.count (omega (arith, r.some))
      where
        fresh : Coming t n W (entry t (n + (task t i).period) i) × (at releases (t.count - 1) < entry t (n + (task t i).period) i) → ⊥
        fresh ((k, m, e), x) = let (p, q) = entry_same t r _ _ i k l m e in omega (arith, (r.each i l).period_pos, ap W p)

    -- The release that comes next now is later in the order.
    pub release_later : at releases (t.count - 1) < at (inserted releases (t.count - 1) (entry t (n + (task t i).period) i)) (t.count - 1)
    release_later = elim (queued.sound (t.count - 1) (omega (arith, r.some))) [ inl e ↦ omega (arith, e, first, (r.each i l).period_pos) | inr (c, x) ↦ x ]

    comes : Queue (Coming t n (but W i (task t i).period)) (inserted releases (t.count - 1) (entry t (n + (task t i).period) i)) t.count
    comes = alike queued to back
      where
        to : (x : ℕ) → (x ≡ entry t (n + (task t i).period) i) ⊎ (Coming t n W x × (at releases (t.count - 1) < x)) → Coming t n (but W i (task t i).period) x
        to x (inl e) = (i, l, e ∙ ap (λ (w : ℕ). entry t (n + w) i) (sym (but_here W i (task t i).period)))
        to x (inr ((k, m, e), y)) = (
          k,
          m,
          e ∙ ap (λ (w : ℕ). entry t (n + w) k)
              (sym (but_other W i (task t i).period k (λ q. absurd (omega (arith, first, y, e, ap (λ (j : ℕ). entry t (n + W j) j) q))))),
        )

        back : (x : ℕ) → Coming t n (but W i (task t i).period) x → (x ≡ entry t (n + (task t i).period) i)
            ⊎ (Coming t n W x × (at releases (t.count - 1) < x))
        back x (k, m, e) = elim (ℕ_discrete i k) [
          | yes q ↦ inl (e ∙ rw (← q) (ap (λ (w : ℕ). entry t (n + w) i) (but_here W i (task t i).period)))
          | no q ↦
              (let f : x ≡ entry t (n + W k) k = e ∙ ap (λ (w : ℕ). entry t (n + w) k) (but_other W i (task t i).period k q) in
              inr ((k, m, f), less k m q f))
        ]
          where
            less : (k : ℕ) → k < t.count → (i ≡ k → ⊥) → x ≡ entry t (n + W k) k → at releases (t.count - 1) < x
            less k m q f = elim (ℕ_discrete (at releases (t.count - 1)) x) [
              | yes y ↦ absurd (q (entry_same t r (n + W i) (n + W k) i k l m (sym first ∙ y ∙ f)).0)
              | no y ↦ omega (arith, last_least h.coming r.some x (k, m, f))
            ]

    waits : Queue (Waiting t n (but W i (task t i).period) (but L i (task t i).cost)) (inserted ready jobs (entry t (n + (task t i).deadline) i)) (jobs + 1)
    waits =
        alike (put_in h.waiting (omega (arith, room i l shut, r.few)) (entry t (n + (task t i).deadline) i) fresh (jobs + 1) (omega arith)) to back
      where
        due : (task t i).period - slack t i ≡ (task t i).deadline
        due = omega (arith, (r.each i l).deadline_le)

        fresh : Waiting t n W L (entry t (n + (task t i).deadline) i) → ⊥
        fresh (k, m, p, e) = shut (rw (entry_same t r _ _ i k l m e).0 p)

        here : entry t (n + (but W i (task t i).period i - slack t i)) i ≡ entry t (n + (task t i).deadline) i
        here = ap (λ (w : ℕ). entry t (n + (w - slack t i)) i) (but_here W i (task t i).period) ∙ ap (λ (w : ℕ). entry t (n + w) i) due

        other : (k : ℕ) → (i ≡ k → ⊥) → entry t (n + (but W i (task t i).period k - slack t k)) k ≡ entry t (n + (W k - slack t k)) k
        other k q = ap (λ (w : ℕ). entry t (n + (w - slack t k)) k) (but_other W i (task t i).period k q)

        to : (x : ℕ) → (x ≡ entry t (n + (task t i).deadline) i) ⊎ Waiting t n W L x → Waiting t n (but W i (task t i).period) (but L i (task t i).cost) x
        to x (inl e) = (i, l, omega (arith, but_here L i (task t i).cost, (r.each i l).cost_pos), e ∙ sym here)
        to x (inr (k, m, p, e)) = let q : i ≡ k → ⊥ = λ f. shut (rw f p) in (k, m, omega (arith, but_other L i (task t i).cost k q), e ∙ sym (other k q))

        back : (x : ℕ) → Waiting t n (but W i (task t i).period) (but L i (task t i).cost) x → (x ≡ entry t (n + (task t i).deadline) i) ⊎ Waiting t n W L x
        back x (k, m, p, e) = elim (ℕ_discrete i k) [
          | yes q ↦ inl (e ∙ rw (← q) here)
          | no q ↦ inr (k, m, omega (arith, but_other L i (task t i).cost k q), e ∙ other k q)
        ]

    pub release_one :
        Held t n (but W i (task t i).period) (but L i (task t i).cost) (inserted releases (t.count - 1) (entry t (n + (task t i).period) i))
        (inserted ready jobs (entry t (n + (task t i).deadline) i)) (set left i (task t i).cost) (jobs + 1)
    release_one = record {
      coming = comes;
      waiting = waits;
      lefts = λ k m. elim (ℕ_discrete i k) [
        | yes q ↦ rw (← q) (get_or-set_same left i (task t i).cost 0 (omega (arith, h.size, r.few)) ∙ sym (but_here L i (task t i).cost))
        | no q ↦ get_or-set_other left i k (task t i).cost 0 (λ e. q (sym e)) ∙ h.lefts k m ∙ sym (but_other L i (task t i).cost k q)
      ];
      size = length-set left i (task t i).cost ∙ h.size;
      ahead = λ k m p. elim (ℕ_discrete i k) [
        | yes q ↦ rw (← q) (omega (arith, but_here W i (task t i).period, (r.each i l).deadline_pos, (r.each i l).deadline_le))
        | no q ↦ omega (arith, but_other W i (task t i).period k q, h.ahead k m (omega (arith, but_other L i (task t i).cost k q)))
      ];
    }
