-- EVERY STATE IS SOUND (`sound`): from a start on a table that keeps its ranges every state belongs to it, a wait tells the next release, and an open
-- job is the last released and not past its deadline.
use Rattle.std.specs.Prelude.{◌≡◌, ◌⊎◌, ◌≢◌, Bool, cond, T, eqb, get_or}
use Rattle.std.proofs.Math.Path.{ap}
use Rattle.std.proofs.Common.{◌∙◌, inl, inr, arith, eq-eqb, ne_eqb}
use Prim.Native.Nat.{ℕ, zero, suc, ◌+◌, ◌-◌, ◌≤◌, ◌<◌}
use Rattle.values.specs.declared.Table.{Table}
use Rattle.model.specs.Limits.{task_limit}
use Rattle.model.specs.Tasks.{task}
use Rattle.model.specs.Run.{Order}
use Rattle.model.specs.Dispatcher.{State, wait_of, left_of, start_of, is_late, wait_released, left_released, after_by}
use Rattle.model.specs.History.{state_at_by, owner_at_by}
use Rattle.counting.specs.Fill.{fill_ahead, get_d_same}
use Rattle.counting.specs.Below.{below_none}
use Rattle.wellformed.specs.Ranges.{Ranged}
use Rattle.backlog.specs.Domination.{Releases, releases}
use Rattle.backlog.specs.System.{System, release_of, due_of, released_by}
use Rattle.backlog.proofs.System.{jobs}
use Rattle.backlog.proofs.TableSystem.{system_of}
use Rattle.backlog.specs.Taken.{Belongs, KeptOrClosed, closed_late_iff, left_done_le, kept_or_closed, wait_start, left_start, belongs_start}
use Rattle.backlog.specs.Taken.{wait_after, left_after, belongs_after, kept_open, due_in}

module _ (t : Table) (r : Ranged t) (rank : Order) (done : ℕ → Bool) where
  abbrev S : System
  S = system_of t r rank

  abbrev before : ℕ → State
  before n = state_at_by t rank done n

  -- What holds of every state.
  pub record Sound (n : ℕ) : Type 0 where
    pub belongs : Belongs t (before n)
    pub next : (i : ℕ) → i < t.count → wait_of (before n) i + n ≡ release_of S i (released_by S i n)
    pub current : (i : ℕ) → i < t.count → 0 < left_of (before n) i → (j : ℕ) × (released_by S i n ≡ suc j) × (n ≤ due_of S i j)

  -- What step n finds of task i once done and late jobs are closed and jobs are released.
  pub record Fresh (n i j : ℕ) : Type 0 where
    pub now : release_of S i j ≡ n
    pub earlier : released_by S i n ≡ j
    pub passed : released_by S i (suc n) ≡ suc j
    pub wait : wait_released t (before n) (done n) i ≡ (task t i).period
    pub left : left_released t (before n) (done n) i ≡ (task t i).cost

  pub record Kept (n i : ℕ) : Type 0 where
    pub none : (j : ℕ) → release_of S i j ≢ n
    pub passed : released_by S i (suc n) ≡ released_by S i n
    pub waited : 0 < wait_of (before n) i
    pub wait : wait_released t (before n) (done n) i ≡ wait_of (before n) i
    pub left : KeptOrClosed t (before n) (done n) i (left_released t (before n) (done n) i)

  pub finds : (n i : ℕ) → Sound n → i < t.count → ((j : ℕ) × Fresh n i j) ⊎ Kept n i
  finds n i s l = go (releases (jobs S) i n l)
    where
      go : Releases (jobs S) i n → ((j : ℕ) × Fresh n i j) ⊎ Kept n i
      go (inl (j, e, b, c)) =
          let z : wait_of (before n) i ≡ 0 = omega (arith, s.next i l, ap (release_of S i) b) in
          inl (j, record { now = e; earlier = b; passed = c; wait = rw (eq-eqb (wait_of (before n) i) 0 z); left = rw (eq-eqb (wait_of (before n) i) 0 z) })
      go (inr (none, c)) =
          let w : wait_of (before n) i ≢ 0 = λ z. none (released_by S i n) (omega (arith, s.next i l)) in
          inr (record {
            none = none;
            passed = c;
            waited = omega arith;
            wait = rw (ne_eqb (wait_of (before n) i) 0 w);
            left = rw (ne_eqb (wait_of (before n) i) 0 w) (kept_or_closed t (before n) (done n) i);
          })

  -- A job closed as late is at its deadline, and has slots left.
  pub late_is : (n i : ℕ) → Sound n → T (is_late t (before n) (done n) i) → (0 < left_of (before n) i)
      × ((j : ℕ) × (due_of S i j ≡ n) × (released_by S i n ≡ suc j))
  late_is n i s h =
      let (l, p, w) = (closed_late_iff t (before n) (done n) i).0 h in
      let some : 0 < left_of (before n) i = omega (arith, left_done_le t (before n) (done n) i) in
      let (j, b, d) = s.current i l some in
      (some, (j, omega (arith, s.next i l, ap (release_of S i) b, (r.each i l).deadline_le), b))

  -- After the step the wait tells the next release too.
  next_wait : (n i : ℕ) → Sound n → i < t.count → (wait_released t (before n) (done n) i - 1) + suc n ≡ release_of S i (released_by S i (suc n))
  next_wait n i s l = elim (finds n i s l) [
    | inl f ↦ omega (arith, f.1.wait, f.1.now, ap (release_of S i) f.1.passed, (r.each i l).period_pos)
    | inr k ↦ omega (arith, k.wait, k.waited, s.next i l, ap (release_of S i) k.passed)
  ]

  -- A job that step n may serve is the last released, and its deadline is as many slots after n as the wait says, and at least one.
  pub ready_is : (n i : ℕ) → Sound n → i < t.count → 0 < left_released t (before n) (done n) i
      → (j : ℕ) × (released_by S i (suc n) ≡ suc j) × (due_of S i j ≡ n + due_in t (before n) (done n) i) × (n < due_of S i j)
  ready_is n i s l p = go (finds n i s l)
    where
      go : ((j : ℕ) × Fresh n i j) ⊎ Kept n i → (j : ℕ) × (released_by S i (suc n) ≡ suc j) × (due_of S i j ≡ n + due_in t (before n) (done n) i)
          × (n < due_of S i j)
      go (inl (j, f)) = (j, f.passed, omega (arith, f.now, f.wait, (r.each i l).deadline_le), omega (arith, f.now, (r.each i l).deadline_pos))
      go (inr k) =
          let (some, apart) = kept_open t (before n) (done n) i l (λ e. absurd (omega (arith, k.waited))) p in
          let (j, b, d) = s.current i l some in
          let w : wait_of (before n) i + n ≡ release_of S i (suc j) = s.next i l ∙ ap (release_of S i) b in
          (j, k.passed ∙ b, omega (arith, k.wait, (r.each i l).deadline_le), omega (arith, apart, (r.each i l).deadline_le))

  -- What a step leaves of a job.
  pub left_next : (n i : ℕ) → Sound n → i < t.count → left_of (before (suc n)) i
      ≡ left_released t (before n) (done n) i - cond (eqb (owner_at_by t rank done n) i) 1 0
  unfolding state_at_by
  left_next n i s l = left_after t r rank (before n) (done n) s.belongs i l

  -- Every state is sound.
  sound_after : (n : ℕ) → Sound n → Sound (suc n)
  unfolding state_at_by
  sound_after n s = record {
    belongs = belongs_after t r rank (before n) (done n) s.belongs;
    next = λ i l. omega (arith, wait_after t r rank (before n) (done n) s.belongs i l, next_wait n i s l);
    current = λ i l p. let (j, b, e, d) = ready_is n i s l (omega (arith, left_next n i s l)) in (j, b, d);
  }

  pub sound : (n : ℕ) → Sound n
  unfolding state_at_by
  sound zero = record {
    belongs = belongs_start t r;
    next = λ i l. omega (arith, wait_start t r i l, ap (release_of S i) (below_none (release_of S i)));
    current = λ i l p. absurd (omega (arith, left_start t i));
  }
  sound (suc n) = sound_after n (sound n)

module _ (t : Table) (rank : Order) (done : ℕ → Bool) where
  -- Entries past the table's last task are 0 from the start on.
  pub past_none : (n i : ℕ) → t.count ≤ i → (get_or (state_at_by t rank done n).wait i 0 ≡ 0) × (get_or (state_at_by t rank done n).left i 0 ≡ 0)
      × (get_or (state_at_by t rank done n).given i 0 ≡ 0)
  unfolding state_at_by start_of after_by
  past_none zero i l = (fill_ahead t.count _ _ i 0 l ∙ get_d_same task_limit 0 i, get_d_same task_limit 0 i, get_d_same task_limit 0 i)
  past_none (suc n) i l = (
    fill_ahead t.count _ _ i 0 l ∙ (past_none n i l).0,
    fill_ahead t.count _ _ i 0 l ∙ (past_none n i l).1,
    fill_ahead t.count _ _ i 0 l
        ∙ (past_none n i l).2,
  )
