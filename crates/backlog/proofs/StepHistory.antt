-- THE DISPATCHER'S STEPS ARE A HISTORY (`step_history`) of the table's streams, in any order of the tasks and under any pattern of done reports.
use Rattle.std.specs.Prelude.{◌≡◌, refl, ◌⊎◌, ◌≢◌, Bool, ℕ, suc, ◌+◌, ◌-◌, ◌≤◌, ◌<◌, T, eqb}
use Rattle.std.proofs.Common.{sym, inl, inr, arith, eq-eqb, ne_eqb, ltb→lt, lt→ltb}
use Rattle.std.proofs.Math.Decide.{ℕ_discrete, dec_lt}
use Rattle.values.specs.declared.Table.{Table}
use Rattle.model.specs.Notation.{bit}
use Rattle.model.specs.Tasks.{task}
use Rattle.model.specs.Run.{Order}
use Rattle.model.specs.Dispatcher.{left_of, left_released}
use Rattle.model.specs.History.{state_at_by, owner_at_by, said_done_by}
use Rattle.counting.specs.Below.{below}
use Rattle.wellformed.specs.Ranges.{Ranged}
use Rattle.backlog.specs.Domination.{open_key}
use Rattle.backlog.specs.History.{History, Keeps, Goes}
use Rattle.backlog.specs.Choice.{NoLater}
use Rattle.backlog.specs.System.{System, release_of, due_of, key_of}
use Rattle.backlog.proofs.Keys.{keys_order}
use Rattle.backlog.proofs.System.{jobs, dues}
use Rattle.backlog.proofs.TableSystem.{system_of}
use Rattle.backlog.specs.Taken.{left_start, chosen, owner_ready, due_in, Picks}
use Rattle.backlog.proofs.Stepping.{Fresh, Kept, finds, late_is, ready_is, left_next, sound}

module _ (t : Table) (rank : Order) (done : ℕ → Bool) where
  -- The slots that are left of task i's job before slot n; those once jobs are closed and released; what slot n gives it, 1 or 0.
  abbrev pub open' : ℕ → ℕ → ℕ
  open' n i = left_of (state_at_by t rank done n) i

  abbrev pub ready : ℕ → ℕ → ℕ
  ready n i = left_released t (state_at_by t rank done n) (done n) i

  abbrev pub gave : ℕ → ℕ → ℕ
  gave n i = bit (eqb (owner_at_by t rank done n) i)

  -- The end of task i's job is reported before slot n.
  abbrev pub told : ℕ → ℕ → Type 0
  told n i = T (said_done_by t rank done i n)

  -- Nothing is left before slot 0.
  first_open : (i : ℕ) → open' 0 i ≡ 0
  unfolding state_at_by
  first_open = left_start t

module _ (t : Table) (r : Ranged t) (rank : Order) (done : ℕ → Bool) where
  abbrev S : System
  S = system_of t r rank

  -- In slot n task i's job is kept, or closed.
  abbrev pub Closing : ℕ → ℕ → Type 0
  Closing = Keeps (jobs S) (dues S) (told t rank done) (open' t rank done) (ready t rank done)

  -- The keys of the last released jobs are in the order of the waits.
  key_le : (n i k : ℕ) → i < t.count → k < t.count → 0 < ready t rank done n i → 0 < ready t rank done n k
      → NoLater (due_in t (state_at_by t rank done n) (done n)) rank k i
      → open_key (jobs S) (suc n) k ≤ open_key (jobs S) (suc n) i
  key_le n i k l m p q c =
      let (a, x, y, z) = ready_is t r rank done n i (sound t r rank done n) l p in
      let (b, u, v, w) = ready_is t r rank done n k (sound t r rank done n) m q in
      let e : below (release_of S i) (suc n) - 1 ≡ a = omega arith in
      let f : below (release_of S k) (suc n) - 1 ≡ b = omega arith in
      rw (e, f) (go a b y v c)
    where
      go : (a b : ℕ) → due_of S i a ≡ n + due_in t (state_at_by t rank done n) (done n) i
          → due_of S k b ≡ n + due_in t (state_at_by t rank done n) (done n) k
          → NoLater (due_in t (state_at_by t rank done n) (done n)) rank k i
          → key_of S k b ≤ key_of S i a
      go a b y v (inl h) = keys_order S (release_of S) k b i a m (inl (omega arith))
      go a b y v (inr (h, o)) = keys_order S (release_of S) k b i a m (inr (omega arith, o))

  pub step_history : History (jobs S) (dues S) (told t rank done) (open' t rank done) (ready t rank done) (gave t rank done)
  step_history = record {
    start = λ i l. first_open t rank done i;
    fresh = λ n i j l e. fresh n i j l e (finds t r rank done n i (sound t r rank done n) l);
    kept = λ n i l none. kept n i l none (finds t r rank done n i (sound t r rank done n) l);
    spent = λ n i l. spent n i l (ℕ_discrete (owner_at_by t rank done n) i);
    slot = λ n. slot n (chosen t rank (state_at_by t rank done n) (done n) r.few);
  }
    where
      fresh : (n i j : ℕ) → i < t.count → release_of S i j ≡ n → ((k : ℕ) × Fresh t r rank done n i k) ⊎ Kept t r rank done n i
          → ready t rank done n i ≡ (task t i).cost
      fresh n i j l e (inl (k, f)) = f.left
      fresh n i j l e (inr k) = absurd (k.none j e)

      kept : (n i : ℕ) → i < t.count → ((j : ℕ) → release_of S i j ≢ n) → ((k : ℕ) × Fresh t r rank done n i k) ⊎ Kept t r rank done n i → Closing n i
      kept n i l none (inl (k, f)) = absurd (none k f.now)
      kept n i l none (inr k) = elim k.left [
        | inl e ↦ inl e.0
        | inr e ↦ inr (e.0, elim e.1 [ inl x ↦ inl x | inr x ↦ inr (let (p, (j, e, b)) = late_is t r rank done n i (sound t r rank done n) x in (j, e)) ])
      ]

      spent : (n i : ℕ) → i < t.count → Dec (owner_at_by t rank done n ≡ i) → ready t rank done n i ≡ open' t rank done (suc n) i + gave t rank done n i
      spent n i l (no e) = rw (left_next t r rank done n i (sound t r rank done n) l, ne_eqb (owner_at_by t rank done n) i e) (omega arith)
      spent n i l (yes e) =
          rw (left_next t r rank done n i (sound t r rank done n) l, eq-eqb (owner_at_by t rank done n) i e)
          (omega (arith, owner_ready t rank (state_at_by t rank done n) (done n) r.few i l e))

      slot : (n : ℕ) → Picks t rank (state_at_by t rank done n) (done n) → Goes (jobs S) (ready t rank done) (gave t rank done) n
      slot n (inl c) =
          inl (λ i l. elim (dec_lt 0 (ready t rank done n i)) [ yes p ↦ absurd (c.shut i l (lt→ltb 0 (ready t rank done n i) p)) | no p ↦ omega arith ])
      slot n (inr c) =
          let p : 0 < ready t rank done n (owner_at_by t rank done n) = ltb→lt 0 (ready t rank done n (owner_at_by t rank done n)) c.opened in
          inr (
            owner_at_by t rank done n,
            c.bound,
            p,
            λ i l q. key_le n i (owner_at_by t rank done n) l c.bound q p (c.ahead i l (lt→ltb 0 (ready t rank done n i) q)),
            rw (eq-eqb (owner_at_by t rank done n) (owner_at_by t rank done n) refl),
            λ i l e. rw (ne_eqb (owner_at_by t rank done n) i (λ x. e (sym x))),
          )
