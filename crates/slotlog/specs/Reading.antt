-- What the judge has read: what a camera writes that runs the dispatcher, up to the byte at which it stops.
use Rattle.std.specs.Prelude.{◌≡◌, ◌⊎◌, Bool, ◌&&◌, ◌||◌, T, eqb, ltb}
use Rattle.std.proofs.Math.Path.{refl, sym, ap, subst}
use Rattle.std.proofs.Common.{◌∙◌, inl, inr, eq-eqb, ne_eqb, ltb→lt, lt→ltb, eqb→eq, length-append}
use mathlib.Core.List.{List, [], ◌∷◌, ◌++◌, append-nil, append_assoc}
use Rattle.std.proofs.Math.Bool.{true, false}
use Prim.Native.Nat.{ℕ, zero, suc, ◌+◌, ◌≤◌, ◌<◌}
use Rattle.std.proofs.Math.Decide.{ℕ_discrete, dec_lt}
use Rattle.std.proofs.Math.Numerals.{add-one}
use native.Mathlib.Omega.{arith}
use Rattle.std.proofs.Math.ListN.{length}
use Rattle.values.specs.declared.Table.{Table}
use Rattle.values.specs.declared.Finding.{Finding}
use Rattle.model.specs.Limits.{task_limit, log_limit}
use Rattle.model.specs.Run.{tie_order}
use Rattle.model.specs.Dispatcher.{start_of, after}
use Rattle.model.specs.History.{state_at, state_at_by, owner_at}
use Rattle.model.specs.Log.{Log, slot_read, task_read, done_read, kind_read, read_by, read_byte, read_all, at_end, unread, slot_record, log_of}
use Rattle.model.specs.LogMeaning.{Final, IsSlot, IsPart, Begins, Found, good, differs, unknown, unheard, behind, endless, long}
use Rattle.counting.specs.Count.{and_iff, is_true, is_false, dec_t, eq→eqb}
use Rattle.backlog.specs.Taken.{owner_one}
use Rattle.slotlog.specs.Cuts.{byte_stays}

-- What happened before slot n depends only on the reports given to the steps before it, and what was written of it on one report more.
module _ (t : Table) (done done' : ℕ → Bool) where
  pub same_state : (n : ℕ) → ((k : ℕ) → k < n → done k ≡ done' k) → state_at t done n ≡ state_at t done' n
  unfolding state_at_by
  same_state zero same = refl
  same_state (suc n) same = rw (same_state n (λ k l. same k (omega arith)), same n (omega arith))

  same_log : (n : ℕ) → ((k : ℕ) → k ≤ n → done k ≡ done' k) → log_of t done n ≡ log_of t done' n
  unfolding log_of
  same_log zero same = refl
  same_log (suc n) same =
      rw (same_log n (λ k l. same k (omega arith)), same_state n (λ k l. same k (omega arith)), same n (omega arith), same (suc n) (omega arith))

  -- A report about the last slot is written behind it.
  last_report : (m : ℕ) → ((k : ℕ) → k < suc m → done k ≡ done' k) → done (suc m) ≡ true → done' (suc m) ≡ false
      → log_of t done (suc m) ≡ log_of t done' (suc m) ++ (18 ∷ [])
  unfolding log_of
  last_report m same told untold =
      rw (
        same_log m (λ k l. same k (omega arith)),
        same_state m (λ k l. same k (omega arith)),
        same m (omega arith),
        told,
        untold,
        append-nil (log_of t done' m ++ slot_record (owner_at t done' m)),
      )

-- One byte more, and what follows it.
one_more : (s p : List ℕ) (b : ℕ) (more : List ℕ) → s ≡ p → s ++ (b ∷ []) ++ more ≡ p ++ (b ∷ more)
one_more s p b more e = append_assoc s (b ∷ []) more ∙ ap (λ (x : List ℕ). x ++ (b ∷ more)) e

longer : (s : List ℕ) (b : ℕ) → length (s ++ (b ∷ [])) ≡ length s + 1
longer s b = simp length-append

module _ (t : Table) (few : t.count ≤ task_limit) where
  -- These bytes are what a camera writes of n slots, and then this part of a record. It reports on no later slot.
  pub record Heard (s : List ℕ) (done : ℕ → Bool) (n : ℕ) (part : List ℕ) : Type 0 where
    pub none : done 0 ≡ false
    pub quiet : (k : ℕ) → n < k → done k ≡ false
    pub bytes : s ≡ log_of t done n ++ part
    pub room : length s ≤ log_limit

  -- The judge after n slots.
  abbrev pub log_at : (ℕ → Bool) → ℕ → Bool → ℕ → Finding → Log
  log_at done n opened bytes found = record { state = state_at t done n; opened = opened; done = done n; slots = n; bytes = bytes; found = found }

  -- What the judge knows once it has read these bytes: slots that are the dispatcher's, and then nothing, or the kind of a task's slot, or the
  -- end; or it has stopped, whatever follows.
  pub data Reads (s : List ℕ) (l : Log) : Type 0 where
    between : (done : ℕ → Bool) (n : ℕ) → Heard s done n [] → l ≡ log_at done n false (length s) Finding.Nothing → Reads s l
    inside : (done : ℕ → Bool) (n : ℕ) → Heard s done n (16 ∷ []) → l ≡ log_at done n true (length s) Finding.Nothing → Reads s l
    ended : (done : ℕ → Bool) (n : ℕ) → Heard s done n (19 ∷ []) → l ≡ log_at done n false (length s) Finding.Good → Reads s l
    stopped : Final l.found → ((more : List ℕ) → Found t (s ++ more) l.found) → Reads s l

  module _ (s : List ℕ) (done : ℕ → Bool) (n b : ℕ) where
    -- With this byte the log goes on so.
    abbrev begins : (part : List ℕ) → Heard s done n part → (more : List ℕ) → Begins t (s ++ (b ∷ []) ++ more) n (part ++ (b ∷ more))
    begins part h more =
        record { done = done; none = h.none; bytes = one_more s (log_of t done n ++ part) b more h.bytes ∙ append_assoc (log_of t done n) part (b ∷ more) }

    size : (part : List ℕ) → Heard s done n part → length (log_of t done n) + length part ≡ length s
    size part h = sym (ap length h.bytes ∙ length-append (log_of t done n) part)

    -- It is one too many.
    too_long : (part : List ℕ) → Heard s done n part → IsPart part → length s ≡ log_limit → (more : List ℕ)
        → Found t (s ++ (b ∷ []) ++ more) (Finding.Fault 44 (length s))
    too_long part h p e more = rw e (long part b more (begins part h more) p (size part h ∙ e))

    -- What was read and this byte.
    with_byte : (part : List ℕ) → Heard s done n part → s ++ (b ∷ []) ≡ log_of t done n ++ (part ++ (b ∷ []))
    with_byte part h = ap (λ (x : List ℕ). x ++ (b ∷ [])) h.bytes ∙ append_assoc (log_of t done n) part (b ∷ [])

    -- It makes a slot's record whole, which is the dispatcher's: one slot more is read.
    slot_heard : (part : List ℕ) → Heard s done n part → length s < log_limit → part ++ (b ∷ []) ≡ slot_record (owner_at t done n)
        → Heard (s ++ (b ∷ [])) done (suc n) []
    unfolding log_of
    slot_heard part h room e = record {
      none = h.none;
      quiet = λ k l. h.quiet k (omega arith);
      bytes =
          rw (
            h.quiet (suc n) (omega arith),
            append-nil (log_of t done n ++ slot_record (owner_at t done n)),
            append-nil (log_of t done n ++ slot_record (owner_at t done n)),
          ) (with_byte part h ∙ ap (λ (x : List ℕ). log_of t done n ++ x) e);
      room = omega (arith, longer s b);
    }

    -- The judge's slot is the dispatcher's next one.
    slot_log : (part : List ℕ) → Heard s done n part → ◌≡◌ {A = Log}
        (record {
          state = after t (state_at t done n) (done n);
          opened = false;
          done = false;
          slots = n + 1;
          bytes = length s + 1;
          found = Finding.Nothing;
        }) (log_at done (suc n) false (length (s ++ (b ∷ []))) Finding.Nothing)
    unfolding state_at_by
    slot_log part h = rw (h.quiet (suc n) (omega arith), longer s b, add-one n)

    slot_same : (part : List ℕ) → Heard s done n part → length s < log_limit → part ++ (b ∷ []) ≡ slot_record (owner_at t done n) → (opened : Bool)
        → Reads (s ++ (b ∷ [])) (slot_read t (log_at done n opened (length s) Finding.Nothing) true)
    slot_same part h room e opened = between done (suc n) (slot_heard part h room e) (slot_log part h)

    -- It makes one whole that is not.
    slot_differs : (part : List ℕ) → Heard s done n part → length s < log_limit → IsSlot (part ++ (b ∷ []))
        → (part ++ (b ∷ []) ≡ slot_record (owner_at t done n) → ⊥) → (opened : Bool)
        → Reads (s ++ (b ∷ [])) (slot_read t (log_at done n opened (length s) Finding.Nothing) false)
    slot_differs part h room is apart opened =
        stopped tt (λ more. differs (part ++ (b ∷ [])) more
        (record {
          done = done;
          none = h.none;
          bytes = (begins part h more).bytes
              ∙ ap (λ (x : List ℕ). log_of t done n ++ x) (sym (append_assoc part (b ∷ []) more));
        }) is apart (omega (arith, size part h, longer part b)))

    -- It is read, and what was read before is not changed by it.
    more_heard : (part : List ℕ) → Heard s done n [] → length s < log_limit → part ≡ b ∷ [] → Heard (s ++ (b ∷ [])) done n part
    more_heard part h room e = record { none = h.none; quiet = h.quiet; bytes = rw e (with_byte [] h); room = omega (arith, longer s b) }

  module _ (s : List ℕ) (done : ℕ → Bool) (n : ℕ) where
    -- A done report about the last slot is one report more.
    abbrev reporting : ℕ → Bool
    reporting k = eqb k n || done k

    before : (k : ℕ) → k < n → reporting k ≡ done k
    before k l = rw (ne_eqb k n (λ e. absurd (omega arith)))

    report_log : ◌≡◌ {A = Log} (record {
      state = state_at t done n;
      opened = false;
      done = true;
      slots = n;
      bytes = length s + 1;
      found = Finding.Nothing;
    }) (log_at reporting n false (length (s ++ (18 ∷ []))) Finding.Nothing)
    report_log = rw (same_state t reporting done n before, eq-eqb n n refl, longer s 18)

    report_heard : (m : ℕ) → n ≡ suc m → Heard s done n [] → done n ≡ false → length s < log_limit → Heard (s ++ (18 ∷ [])) reporting n []
    unfolding log_of
    report_heard m e h untold room = record {
      none = before 0 (omega arith) ∙ h.none;
      quiet = λ k l. rw (ne_eqb k n (λ x. absurd (omega arith))) (h.quiet k l);
      bytes = rw (append-nil (log_of t reporting n)) (with_byte s done n 18 [] h ∙ sym one_report);
      room = omega (arith, longer s 18);
    }
      where
        one_report : log_of t reporting n ≡ log_of t done n ++ (18 ∷ [])
        one_report =
            subst (λ (x : ℕ). log_of t reporting x ≡ log_of t done x ++ (18 ∷ [])) (sym e)
            (last_report t reporting done m (λ k l. before k (omega arith)) (rw (eq-eqb (suc m) n (sym e))) (rw e at untold))

  -- The judge between two records is given a kind.
  module _ (s : List ℕ) (done : ℕ → Bool) (n : ℕ) (h : Heard s done n []) (room : length s < log_limit) where
    abbrev here : Log
    here = log_at done n false (length s) Finding.Nothing

    given_16 : Reads (s ++ (16 ∷ [])) (kind_read t here 16)
    given_16 = inside done n (more_heard s done n 16 (16 ∷ []) h room refl) (rw (longer s 16))

    given_17 : Reads (s ++ (17 ∷ [])) (kind_read t here 17)
    given_17 = elim (ℕ_discrete (owner_at t done n) task_limit) [
      | yes e ↦ rw (eq-eqb (owner_at t done n) task_limit e) (slot_same s done n 17 [] h room (rw (eq-eqb (owner_at t done n) task_limit e)) false)
      | no e ↦
          rw (ne_eqb (owner_at t done n) task_limit e)
          (slot_differs s done n 17 [] h room (inl refl)
          (λ x. let y : ◌≡◌ {A = List ℕ} (17 ∷ []) (16 ∷ owner_at t done n ∷ []) = rw
          (ne_eqb (owner_at t done n) task_limit e) at x in let z : ◌≡◌ {A = ℕ} 17 16 = cc in absurd (omega arith)) false)
    ]

    given_18 : Reads (s ++ (18 ∷ [])) (kind_read t here 18)
    given_18 = go n refl (done n) refl
      where
        wrong : (n ≡ 0) ⊎ (done n ≡ true) → (told : Bool) → Reads (s ++ (18 ∷ []))
            (record { state = state_at t done n; opened = false; done = told; slots = n; bytes = length s; found = Finding.Fault 41 (length s) })
        wrong x told =
            stopped tt (λ more. let e : length s ≡ length (log_of t done n) = omega (arith, size s done n 18 [] h) in rw e
            (unheard more (begins s done n 18 [] h more) x (omega arith)))

        go : (m : ℕ) → n ≡ m → (b : Bool) → done n ≡ b → Reads (s ++ (18 ∷ [])) (done_read t here)
        go zero e b d = rw (eq-eqb n 0 e) (wrong (inl e) (done n))
        go (suc m) e true d = rw (ne_eqb n 0 (λ x. absurd (omega arith)), d) (wrong (inr d) true)
        go (suc m) e false d =
            rw (ne_eqb n 0 (λ x. absurd (omega arith)), d) (between (reporting s done n) n (report_heard s done n m e h d room) (report_log s done n))

    given_19 : Reads (s ++ (19 ∷ [])) (kind_read t here 19)
    given_19 = ended done n (more_heard s done n 19 (19 ∷ []) h room refl) (rw (longer s 19))

    given_other : (b : ℕ) → (b < 16) ⊎ (19 < b) → Reads (s ++ (b ∷ []))
        (record { state = state_at t done n; opened = false; done = done n; slots = n; bytes = length s; found = Finding.Fault 40 (length s) })
    given_other b x =
        stopped tt (λ more. let e : length s ≡ length (log_of t done n) = omega (arith, size s done n b [] h) in rw e
        (unknown b more (begins s done n b [] h more) x (omega arith)))

    given_kind : (b : ℕ) → Reads (s ++ (b ∷ [])) (kind_read t here b)
    given_kind b = go (ℕ_discrete b 16) (ℕ_discrete b 17) (ℕ_discrete b 18) (ℕ_discrete b 19)
      where
        go : Dec (b ≡ 16) → Dec (b ≡ 17) → Dec (b ≡ 18) → Dec (b ≡ 19) → Reads (s ++ (b ∷ [])) (kind_read t here b)
        go (yes e) y z w = rw e given_16
        go (no x) (yes e) z w = rw e given_17
        go (no x) (no y) (yes e) w = rw e given_18
        go (no x) (no y) (no z) (yes e) = rw e given_19
        go (no x) (no y) (no z) (no w) =
            rw (ne_eqb b 16 x, ne_eqb b 17 y, ne_eqb b 18 z, ne_eqb b 19 w)
            (given_other b (elim (dec_lt b 16) [ yes l ↦ inl l | no l ↦ inr (omega arith) ]))

  module _ (done : ℕ → Bool) (n k : ℕ) where
    -- The record is the dispatcher's exactly if the number is that of the owner, which is a task.
    pub task_same : T (ltb k t.count && eqb k (owner_at t done n)) → 16 ∷ k ∷ [] ≡ slot_record (owner_at t done n)
    task_same x =
        let (a, b) = (and_iff (ltb k t.count) (eqb k (owner_at t done n))).0 x in
        let e : k ≡ owner_at t done n = eqb→eq k (owner_at t done n) b in
        rw (ne_eqb (owner_at t done n) task_limit (λ y. absurd (omega (arith, ltb→lt k t.count a))), e)

    task_only : 16 ∷ k ∷ [] ≡ slot_record (owner_at t done n) → T (ltb k t.count && eqb k (owner_at t done n))
    task_only x = go (owner_one t (tie_order t) (state_at t done n) (done n) few)
      where
        go : (owner_at t done n ≡ task_limit) ⊎ (owner_at t done n < t.count) → T (ltb k t.count && eqb k (owner_at t done n))
        go (inl e) =
            let y : ◌≡◌ {A = List ℕ} (16 ∷ k ∷ []) (17 ∷ []) = rw (eq-eqb (owner_at t done n) task_limit e) at x in
            let z : ◌≡◌ {A = ℕ} 16 17 = cc in absurd (omega arith)
        go (inr l) =
            let y : ◌≡◌ {A = List ℕ} (16 ∷ k ∷ []) (16 ∷ owner_at t done n ∷ []) = rw
            (ne_eqb (owner_at t done n) task_limit (λ e. absurd (omega arith))) at x in
            let z : k ≡ owner_at t done n = cc in
            (and_iff (ltb k t.count) (eqb k (owner_at t done n))).1 (lt→ltb k t.count (omega arith), eq→eqb k (owner_at t done n) z)

  -- The judge inside a task's record is given the task.
  module _ (s : List ℕ) (done : ℕ → Bool) (n k : ℕ) (h : Heard s done n (16 ∷ [])) (room : length s < log_limit) where
    given_task : Reads (s ++ (k ∷ [])) (task_read t (log_at done n true (length s) Finding.Nothing) k)
    given_task = elim (dec_t (ltb k t.count && eqb k (owner_at t done n))) [
      | yes x ↦ rw (is_true (ltb k t.count && eqb k (owner_at t done n)) x) (slot_same s done n k (16 ∷ []) h room (task_same done n k x) true)
      | no x ↦
          rw (is_false (ltb k t.count && eqb k (owner_at t done n)) x)
          (slot_differs s done n k (16 ∷ []) h room (inr (k, refl)) (λ e. x (task_only done n k e)) true)
    ]

  -- One byte more, in every case.
  reads_byte : (s : List ℕ) (l : Log) (b : ℕ) → Reads s l → Reads (s ++ (b ∷ [])) (read_byte t l b)
  unfolding read_byte
  reads_byte s l b (between done n h e) = rw e (go (ℕ_discrete (length s) log_limit))
    where
      go : Dec (length s ≡ log_limit) → Reads (s ++ (b ∷ [])) (read_by t (log_at done n false (length s) Finding.Nothing) b Finding.Nothing)
      go (yes x) = rw (eq-eqb (length s) log_limit x) (stopped tt (too_long s done n b [] h (inl refl) x))
      go (no x) = rw (ne_eqb (length s) log_limit x) (given_kind s done n h (omega (arith, h.room)) b)
  reads_byte s l b (inside done n h e) = rw e (go (ℕ_discrete (length s) log_limit))
    where
      go : Dec (length s ≡ log_limit) → Reads (s ++ (b ∷ [])) (read_by t (log_at done n true (length s) Finding.Nothing) b Finding.Nothing)
      go (yes x) = rw (eq-eqb (length s) log_limit x) (stopped tt (too_long s done n b (16 ∷ []) h (inr (inl refl)) x))
      go (no x) = rw (ne_eqb (length s) log_limit x) (given_task s done n b h (omega (arith, h.room)))
  reads_byte s l b (ended done n h e) = rw e (go (ℕ_discrete (length s) log_limit))
    where
      go : Dec (length s ≡ log_limit) → Reads (s ++ (b ∷ [])) (read_by t (log_at done n false (length s) Finding.Good) b Finding.Good)
      go (yes x) = rw (eq-eqb (length s) log_limit x) (stopped tt (too_long s done n b (19 ∷ []) h (inr (inr refl)) x))
      go (no x) =
          rw (ne_eqb (length s) log_limit x) (stopped tt (λ more. let e : length s
          ≡ length (log_of t done n) + 1 = omega (arith, size s done n b (19 ∷ []) h) in rw e
          (behind b more (begins s done n b (19 ∷ []) h more) (omega (arith, h.room)))))
  reads_byte s l b (stopped f found) = rw (byte_stays t l b f) (stopped f (λ more. rw (append_assoc s (b ∷ []) more) (found (b ∷ more))))

  -- And so any bytes, from the start on.
  reads_more : (s : List ℕ) (l : Log) (more : List ℕ) → Reads s l → Reads (s ++ more) (read_all t l more)
  unfolding read_all
  reads_more s l [] r = rw (append-nil s) r
  reads_more s l (b ∷ more) r = rw (append_assoc s (b ∷ []) more) at (reads_more (s ++ (b ∷ [])) (read_byte t l b) more (reads_byte s l b r))

  reads_start : Reads [] (unread (start_of t))
  unfolding state_at_by log_of
  reads_start = between (λ k. false) 0 (record { none = refl; quiet = λ k l. refl; bytes = refl; room = omega arith }) refl

  pub reads : (s : List ℕ) → Reads s (read_all t (unread (start_of t)) s)
  reads s = reads_more [] (unread (start_of t)) s reads_start

  -- WHAT AN ANSWER MEANS, from what was read.
  pub end_means : (s : List ℕ) (l : Log) → Reads s l → Found t s (at_end l.bytes l.found)
  end_means s l (between done n h e) = rw e (endless [] (record { done = done; none = h.none; bytes = h.bytes }) (inl refl) h.room)
  end_means s l (inside done n h e) = rw e (endless (16 ∷ []) (record { done = done; none = h.none; bytes = h.bytes }) (inr refl) h.room)
  end_means s l (ended done n h e) = rw e (good (record { done = done; none = h.none; bytes = h.bytes }) h.room)
  end_means s l (stopped f found) = go l.found f (rw (append-nil s) at (found []))
    where
      go : (x : Finding) → Final x → Found t s x → Found t s (at_end l.bytes x)
      go (Finding.Differs k) f y = y
      go (Finding.Fault k p) f y = y
      go Finding.Nothing f y = elim f [ ]
      go Finding.Good f y = elim f [ ]
