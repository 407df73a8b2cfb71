-- WHAT COMES IS A HISTORY (`coming_history`): stepped by arrivals that are streams of jobs, at least a period apart, the dispatcher's steps are a
-- history of these, under any pattern of done reports.
use Rattle.std.specs.Prelude.{◌≡◌, refl, ◌≢◌, ◌↔◌, Bool, true, false, cond, ◌&&◌, T, eqb}
use Rattle.std.proofs.Common.{sym, ◌∙◌, inl, inr, arith, eq-eqb, ne_eqb, ltb→lt, lt→ltb}
use Prim.Native.Nat.{ℕ, zero, suc, ◌+◌, ◌-◌, ◌≤◌, ◌<◌}
use Rattle.std.proofs.Math.Decide.{ℕ_discrete, dec_lt}
use Rattle.values.specs.declared.Table.{Table}
use Rattle.model.specs.Notation.{bit}
use Rattle.model.specs.Tasks.{task}
use Rattle.model.specs.Demand.{Arrivals}
use Rattle.model.specs.Run.{tie_order}
use Rattle.model.specs.Dispatcher.{State, wait_of, left_of, start_of, is_late, left_late, wait_come, left_come}
use Rattle.model.specs.Presses.{owner_come, after_come}
use Rattle.counting.specs.Count.{is_true, is_false}
use Rattle.counting.specs.Below.{below, lt_below}
use Rattle.wellformed.specs.Ranges.{Ranged}
use Rattle.backlog.specs.Streams.{Jobs}
use Rattle.backlog.specs.Criterion.{Dues}
use Rattle.backlog.specs.Domination.{open_key, Releases, releases}
use Rattle.backlog.specs.History.{History, Keeps, Goes}
use Rattle.backlog.specs.Choice.{NoLater}
use Rattle.backlog.specs.System.{System, Apart, due_from, key_from}
use Rattle.backlog.proofs.Keys.{keys_order}
use Rattle.backlog.proofs.System.{coming, coming_dues}
use Rattle.backlog.proofs.TableSystem.{tie_system}
use Rattle.backlog.specs.Taken.{Belongs, KeptOrClosed, known, left_start, belongs_start, closed_late_iff, left_done_le, kept_or_closed, still_open}
use Rattle.backlog.specs.Coming.{due_come, PicksCome, chosen_come, ready_come, wait_come_lem, left_come_lem, belongs_come}

module _ (t : Table) (done : ℕ → Bool) (a : Arrivals) where
  -- The state before slot n, if jobs come as they arrive; who owns it.
  unfoldable pub state_for : ℕ → State
  state_for zero = start_of t
  state_for (suc n) = after_come t (state_for n) (done n) (λ i. a i n)

  abbrev pub owner_for : ℕ → ℕ
  owner_for n = owner_come t (state_for n) (done n) (λ i. a i n)

  -- The slots left of task i's job before slot n; those left after rules 1 to 3; what slot n gives it, 1 or 0.
  abbrev pub open_for : ℕ → ℕ → ℕ
  open_for n i = left_of (state_for n) i

  abbrev pub ready_for : ℕ → ℕ → ℕ
  ready_for n i = left_come t (state_for n) (done n) (λ i. a i n) i

  abbrev pub gave_for : ℕ → ℕ → ℕ
  gave_for n i = bit (eqb (owner_for n) i)

  -- The end of task i's job is reported before slot n.
  abbrev pub told_for : ℕ → ℕ → Type 0
  told_for n i = T (done n && eqb (state_for n).last i)

  -- Nothing is left before slot 0.
  first_open : (i : ℕ) → open_for 0 i ≡ 0
  unfolding state_for
  first_open = left_start t

module _ (t : Table) (r : Ranged t) (done : ℕ → Bool) (a : Arrivals) (rel : ℕ → ℕ → ℕ) (apart : Apart (tie_system t r) rel)
    (exactly : (i u : ℕ) → i < t.count → T (a i u) ↔ ((j : ℕ) × (rel i j ≡ u))) where
  abbrev S : System
  S = tie_system t r

  abbrev J : Jobs
  J = coming S rel apart

  abbrev D : Dues J
  D = coming_dues S rel apart

  abbrev before : ℕ → State
  before n = state_for t done a n

  abbrev waits : ℕ → ℕ → ℕ
  waits n i = wait_come t (before n) (done n) (λ i. a i n) i

  -- What holds of every state: it belongs to the table, and an open job is the last that came, and its wait tells when.
  record Sound (n : ℕ) : Type 0 where
    belongs : Belongs t (before n)
    current : (i : ℕ) → i < t.count → 0 < open_for t done a n i → (j : ℕ) × (below (rel i) n ≡ suc j) × (wait_of (before n) i + n ≡ rel i j + (task t i).period)

  -- A job comes, or none.
  comes_now : (i j n : ℕ) → i < t.count → rel i j ≡ n → a i n ≡ true
  comes_now i j n l e = is_true (a i n) ((exactly i n l).1 (j, e))

  none_now : (i n : ℕ) → i < t.count → ((j : ℕ) → rel i j ≢ n) → a i n ≡ false
  none_now i n l none = is_false (a i n) (λ h. let (j, e) = (exactly i n l).0 h in none j e)

  -- A job that step n may serve is the last that came, and its deadline is as many slots after n as the wait says, and at least one.
  ready_is : (n i : ℕ) → Sound n → i < t.count → 0 < ready_for t done a n i
      → (j : ℕ) × (below (rel i) (suc n) ≡ suc j) × (waits n i + n ≡ rel i j + (task t i).period) × ((task t i).period - (task t i).deadline < waits n i)
  ready_is n i s l p = go (releases J i n l)
    where
      go : Releases J i n → (j : ℕ) × (below (rel i) (suc n) ≡ suc j) × (waits n i + n ≡ rel i j + (task t i).period)
          × ((task t i).period - (task t i).deadline < waits n i)
      go (inl (j, e, b, c)) =
          let w : waits n i ≡ (task t i).period = rw (comes_now i j n l e) in
          (j, c, omega (arith, w), omega (arith, w, (r.each i l).deadline_pos, (r.each i l).period_pos))
      go (inr (none, c)) =
          let w : waits n i ≡ wait_of (before n) i = rw (none_now i n l none) in
          let (some, apart) = still_open t (before n) (done n) i l (rw (none_now i n l none) at p) in
          let (j, b, e) = s.current i l some in
          (j, c ∙ b, omega (arith, w), omega (arith, w, apart, (known t (before n) s.belongs i l).open_from some))

  sound_after : (n : ℕ) → Sound n → Sound (suc n)
  unfolding state_for
  sound_after n s = record {
    belongs = belongs_come t r (before n) (done n) (λ i. a i n) s.belongs;
    current = λ i l p.
        let (j, b, e, d) = ready_is n i s l (omega (arith, left_come_lem t r (before n) (done n) (λ i. a i n) s.belongs i l)) in
        (j, b, omega (arith, wait_come_lem t r (before n) (done n) (λ i. a i n) s.belongs i l));
  }

  sound : (n : ℕ) → Sound n
  unfolding state_for
  sound zero = record { belongs = belongs_start t r; current = λ i l p. absurd (omega (arith, left_start t i)) }
  sound (suc n) = sound_after n (sound n)

  -- A job closed as late is at its deadline, and has slots left.
  pub late_for : (n i : ℕ) → T (is_late t (before n) (done n) i) → (i < t.count) × (0 < open_for t done a n i) × ((j : ℕ) × (due_from S rel i j ≡ n))
  late_for n i h =
      let (l, p, w) = (closed_late_iff t (before n) (done n) i).0 h in
      let some : 0 < open_for t done a n i = omega (arith, left_done_le t (before n) (done n) i) in
      let (j, b, e) = (sound n).current i l some in
      (l, some, (j, omega (arith, (r.each i l).deadline_le)))

  -- A task that owns a slot has a job that came by then and whose deadline is later.
  pub owned_for : (n i : ℕ) → i < t.count → owner_for t done a n ≡ i → (j : ℕ) × (rel i j ≤ n) × (n < due_from S rel i j)
  owned_for n i l e =
      let (j, b, w, d) = ready_is n i (sound n) l (ready_come t r (before n) (done n) (λ i. a i n) i l e) in
      let came : rel i j < suc n = (lt_below (rel i) (J.rel_grows i l) (suc n) j).0 (omega arith) in
      (j, omega arith, omega (arith, (r.each i l).deadline_le))

  -- The keys of the last jobs that came are in the order of the waits.
  key_le : (n i k : ℕ) → i < t.count → k < t.count → 0 < ready_for t done a n i → 0 < ready_for t done a n k
      → NoLater (due_come t r (before n) (done n) (λ i. a i n)) (tie_order t) k i
      → open_key J (suc n) k ≤ open_key J (suc n) i
  key_le n i k l m p q c =
      let (f, x, y, z) = ready_is n i (sound n) l p in
      let (g, u, v, w) = ready_is n k (sound n) m q in
      let e : below (rel i) (suc n) - 1 ≡ f = omega arith in
      let h : below (rel k) (suc n) - 1 ≡ g = omega arith in
      let dues : due_from S rel i f ≡ n + due_come t r (before n) (done n) (λ i. a i n) i = omega (arith, (r.each i l).deadline_le) in
      let dues' : due_from S rel k g ≡ n + due_come t r (before n) (done n) (λ i. a i n) k = omega (arith, (r.each k m).deadline_le) in
      rw (e, h) (go f g dues dues' c)
    where
      go : (f g : ℕ) → due_from S rel i f ≡ n + due_come t r (before n) (done n) (λ i. a i n) i
          → due_from S rel k g ≡ n + due_come t r (before n) (done n) (λ i. a i n) k
          → NoLater (due_come t r (before n) (done n) (λ i. a i n)) (tie_order t) k i
          → key_from S rel k g ≤ key_from S rel i f
      go f g y v (inl h) = keys_order S rel k g i f m (inl (omega arith))
      go f g y v (inr (h, o)) = keys_order S rel k g i f m (inr (omega arith, o))

  -- What a step leaves of a job.
  left_next : (n i : ℕ) → i < t.count → open_for t done a (suc n) i ≡ ready_for t done a n i - cond (eqb (owner_for t done a n) i) 1 0
  unfolding state_for
  left_next n i l = left_come_lem t r (before n) (done n) (λ i. a i n) (sound n).belongs i l

  pub coming_history : History J D (told_for t done a) (open_for t done a) (ready_for t done a) (gave_for t done a)
  coming_history = record {
    start = λ i l. first_open t done a i;
    fresh = λ n i j l e. rw (comes_now i j n l e);
    kept = λ n i l none. kept n i l none (kept_or_closed t (before n) (done n) i);
    spent = λ n i l. spent n i l (ℕ_discrete (owner_for t done a n) i);
    slot = λ n. slot n (chosen_come t r (before n) (done n) (λ i. a i n));
  }
    where
      kept : (n i : ℕ) → i < t.count → ((j : ℕ) → rel i j ≢ n) → KeptOrClosed t (before n) (done n) i (left_late t (before n) (done n) i)
          → Keeps J D (told_for t done a) (open_for t done a) (ready_for t done a) n i
      kept n i l none (inl (e, f, g)) = rw (none_now i n l none) (inl e)
      kept n i l none (inr (e, inl h)) = rw (none_now i n l none) (inr (e, inl h))
      kept n i l none (inr (e, inr h)) = let (m, p, (j, q)) = late_for n i h in rw (none_now i n l none) (inr (e, inr (j, q)))

      spent : (n i : ℕ) → i < t.count → Dec (owner_for t done a n ≡ i) → ready_for t done a n i ≡ open_for t done a (suc n) i + gave_for t done a n i
      spent n i l (no e) = rw (left_next n i l, ne_eqb (owner_for t done a n) i e) (omega arith)
      spent n i l (yes e) = rw (left_next n i l, eq-eqb (owner_for t done a n) i e) (omega (arith, ready_come t r (before n) (done n) (λ i. a i n) i l e))

      slot : (n : ℕ) → PicksCome t r (before n) (done n) (λ i. a i n) → Goes J (ready_for t done a) (gave_for t done a) n
      slot n (inl c) =
          inl (λ i l. elim (dec_lt 0 (ready_for t done a n i)) [ yes p ↦ absurd (c.shut i l (lt→ltb 0 (ready_for t done a n i) p)) | no p ↦ omega arith ])
      slot n (inr c) =
          let p : 0 < ready_for t done a n (owner_for t done a n) = ltb→lt 0 (ready_for t done a n (owner_for t done a n)) c.opened in
          inr (
            owner_for t done a n,
            c.bound,
            p,
            λ i l q. key_le n i (owner_for t done a n) l c.bound q p (c.ahead i l (lt→ltb 0 (ready_for t done a n i) q)),
            rw (eq-eqb (owner_for t done a n) (owner_for t done a n) refl),
            λ i l e. rw (ne_eqb (owner_for t done a n) i (λ x. e (sym x))),
          )
