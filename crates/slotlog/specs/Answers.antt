-- Each answer is given exactly where it is meant: what a camera writes is read as such, and there is one answer to a log.
use Rattle.std.specs.Prelude.{◌≡◌, ◌⊎◌, ◌↔◌, Bool, ◌&&◌, ◌||◌, ltb, Ok}
use Rattle.std.proofs.Math.Path.{refl, ap}
use Rattle.std.proofs.Common.{sym, subst, ◌∙◌, inl, inr}
use mathlib.Core.List.{List, [], ◌∷◌, ◌++◌, flatten}
use Rattle.std.proofs.Math.Bool.{true, false}
use Prim.Native.Nat.{ℕ, zero, suc, ◌+◌, ◌≤◌, ◌<◌}
use Rattle.std.proofs.Math.Numerals.{add-one}
use native.Mathlib.Omega.{arith}
use borrow.Author.Tests.{eq-eqb, ne_eqb, lt-ltb}
use Rattle.std.proofs.Math.Dec.{eqb}
use Rattle.std.proofs.Math.ListN.{length, length-append}
use Rattle.values.specs.declared.Table.{Table}
use Rattle.values.specs.declared.Measure.{Measure}
use Rattle.values.specs.declared.Finding.{Finding}
use Rattle.model.specs.Limits.{task_limit, log_limit}
use Rattle.model.specs.Tasks.{judged}
use Rattle.model.specs.Run.{tie_order}
use Rattle.model.specs.Dispatcher.{start_of}
use Rattle.model.specs.History.{state_at, state_at_by, owner_at}
use Rattle.model.specs.Log.{Log, Fed, read_by, read_byte, read_all, at_end, unread, log_judged, slot_record, done_record, log_of}
use Rattle.model.specs.LogMeaning.{Final, IsSlot, IsPart, Begins, Found, good, differs, unknown, unheard, behind, endless, long}
use Rattle.counting.specs.Count.{is_false}
use Rattle.wellformed.specs.WellFormed.{well_formed}
use Rattle.backlog.specs.Taken.{owner_one}
use Rattle.slotlog.specs.Cuts.{read_joined, stays, judged_bytes}
use Rattle.slotlog.specs.Reading.{log_at, task_same, reads, end_means}

module _ (t : Table) (few : t.count ≤ task_limit) (done : ℕ → Bool) where
  -- The judge reads a slot that is the dispatcher's.
  read_slot : (n p : ℕ) → p + length (slot_record (owner_at t done n)) ≤ log_limit
      → read_all t (log_at t few done n false p Finding.Nothing) (slot_record (owner_at t done n))
      ≡ record {
        state = state_at t done (suc n);
        opened = false;
        done = false;
        slots = n + 1;
        bytes = p + length (slot_record (owner_at t done n));
        found = Finding.Nothing;
      }
  unfolding read_all read_byte state_at_by
  read_slot n p = go (owner_one t (tie_order t) (state_at t done n) (done n) few)
    where
      go : (owner_at t done n ≡ task_limit) ⊎ (owner_at t done n < t.count) → p + length (slot_record (owner_at t done n)) ≤ log_limit
          → read_all t (log_at t few done n false p Finding.Nothing) (slot_record (owner_at t done n))
          ≡ record {
            state = state_at t done (suc n);
            opened = false;
            done = false;
            slots = n + 1;
            bytes = p + length (slot_record (owner_at t done n));
            found = Finding.Nothing;
          }
      go (inl e) h =
          let whole : p + 1 ≤ log_limit = rw (eq-eqb (owner_at t done n) task_limit e) at h in
          rw (eq-eqb (owner_at t done n) task_limit e, ne_eqb p log_limit (λ x. absurd (omega arith)), eq-eqb (owner_at t done n) task_limit e)
      go (inr l) h =
          let none : eqb (owner_at t done n) task_limit ≡ false = ne_eqb (owner_at t done n) task_limit (λ x. absurd (omega arith)) in
          let whole : p + 2 ≤ log_limit = rw none at h in
          let two : p + 1 + 1 ≡ p + 2 = omega arith in
          rw (
            none,
            ne_eqb p log_limit (λ x. absurd (omega arith)),
            ne_eqb (p + 1) log_limit (λ x. absurd (omega arith)),
            lt-ltb (owner_at t done n) t.count l,
            eq-eqb (owner_at t done n) (owner_at t done n) refl,
            two,
          )

  -- And the done report about it.
  read_report : (n p : ℕ) → p + length (done_record (done (suc n))) ≤ log_limit
      → read_all t (record { state = state_at t done (suc n); opened = false; done = false; slots = n + 1; bytes = p; found = Finding.Nothing })
      (done_record (done (suc n)))
      ≡ log_at t few done (suc n) false (p + length (done_record (done (suc n)))) Finding.Nothing
  unfolding read_all read_byte
  read_report n p = go (done (suc n)) refl
    where
      go : (b : Bool) → done (suc n) ≡ b → p + length (done_record b) ≤ log_limit
          → read_all t (record { state = state_at t done (suc n); opened = false; done = false; slots = n + 1; bytes = p; found = Finding.Nothing })
          (done_record b)
          ≡ record { state = state_at t done (suc n); opened = false; done = b; slots = suc n; bytes = p + length (done_record b); found = Finding.Nothing }
      go true e h = rw (ne_eqb p log_limit (λ x. absurd (omega arith)), ne_eqb (n + 1) 0 (λ x. absurd (omega arith)), add-one n)
      go false e h = let same : p + 0 ≡ p = omega arith in rw (same, add-one n)

  -- What a camera has written of n slots is read as these n slots.
  pub read_camera : done 0 ≡ false → (n : ℕ) → length (log_of t done n) ≤ log_limit
      → read_all t (unread (start_of t)) (log_of t done n) ≡ log_at t few done n false (length (log_of t done n)) Finding.Nothing
  unfolding log_of state_at_by read_all
  read_camera none zero h = rw none
  read_camera none (suc n) h =
      let first = log_of t done n in
      let slot = slot_record (owner_at t done n) in
      let report = done_record (done (suc n)) in
      let sizes : length (first ++ slot ++ report) ≡ length first + length slot + length report = simp length-append in
      read_joined t (unread (start_of t)) (first ++ slot) report
      ∙ ap (λ (l : Log). read_all t l report) (read_joined t (unread (start_of t)) first slot
      ∙ ap (λ (l : Log). read_all t l slot) (read_camera none n (omega (arith, sizes))) ∙ read_slot n (length first) (omega (arith, sizes)))
      ∙ read_report n (length first + length slot) (omega (arith, sizes))
      ∙ rw sizes

-- What is said of a log in this state, if these bytes follow.
abbrev says : Table → Log → List ℕ → Finding
says t l s = let k = read_all t l s in at_end k.bytes k.found

-- A byte at which the judge stops is the last that it looks at.
says_final : (t : Table) (l : Log) (rest : List ℕ) (f : Finding) → l.found ≡ f → Final f → says t l rest ≡ f
says_final t l rest f e h = rw (stays t l rest (rw e h)) (go l.found (rw e h) ∙ e)
  where
    go : (x : Finding) → Final x → at_end l.bytes x ≡ x
    go (Finding.Differs k) h = refl
    go (Finding.Fault k p) h = refl
    go Finding.Nothing h = elim h [ ]
    go Finding.Good h = elim h [ ]

stop : (t : Table) (l : Log) (b : ℕ) (rest : List ℕ) (f : Finding) → (read_byte t l b).found ≡ f → Final f → says t l (b ∷ rest) ≡ f
unfolding read_all
stop t l b rest f = says_final t (read_byte t l b) rest f

go_on : (t : Table) (l l' : Log) (b : ℕ) (rest : List ℕ) (f : Finding) → read_byte t l b ≡ l' → says t l' rest ≡ f → says t l (b ∷ rest) ≡ f
unfolding read_all
go_on t l l' b rest f e h = ap (λ (k : Log). says t k rest) e ∙ h

-- The judge behind n slots, after p bytes.
module _ (t : Table) (few : t.count ≤ task_limit) (done : ℕ → Bool) (n p : ℕ) where
  abbrev here : Log
  here = log_at t few done n false p Finding.Nothing

  abbrev inside : Log
  inside = log_at t few done n true (p + 1) Finding.Nothing

  abbrev ended : Log
  ended = log_at t few done n false (p + 1) Finding.Good

  says_long : (l : Log) (k : ℕ) (rest : List ℕ) → (l.found ≡ Finding.Nothing) ⊎ (l.found ≡ Finding.Good) → l.bytes ≡ log_limit
      → says t l (k ∷ rest) ≡ Finding.Fault 44 log_limit
  unfolding read_byte
  says_long l k rest x e = stop t l k rest (Finding.Fault 44 log_limit) (go x) tt
    where
      go : (l.found ≡ Finding.Nothing) ⊎ (l.found ≡ Finding.Good) → (read_by t l k l.found).found ≡ Finding.Fault 44 log_limit
      go (inl y) = rw (y, eq-eqb l.bytes log_limit e, e)
      go (inr y) = rw (y, eq-eqb l.bytes log_limit e, e)

  module _ (room : p < log_limit) where
    within : eqb p log_limit ≡ false
    within = ne_eqb p log_limit (λ x. absurd (omega arith))

    byte_16 : read_byte t here 16 ≡ inside
    unfolding read_byte
    byte_16 = rw within

    byte_19 : read_byte t here 19 ≡ ended
    unfolding read_byte
    byte_19 = rw within

    says_empty : (rest : List ℕ) → (17 ∷ [] ≡ slot_record (owner_at t done n) → ⊥) → says t here (17 ∷ rest) ≡ Finding.Differs n
    unfolding read_byte
    says_empty rest apart =
        stop t here 17 rest (Finding.Differs n) (rw
        (within, ne_eqb (owner_at t done n) task_limit (λ e. apart (rw (eq-eqb (owner_at t done n) task_limit e))))) tt

    says_unknown : (k : ℕ) (rest : List ℕ) → (k < 16) ⊎ (19 < k) → says t here (k ∷ rest) ≡ Finding.Fault 40 p
    unfolding read_byte
    says_unknown k rest x = stop t here k rest (Finding.Fault 40 p) (go x) tt
      where
        go : (k < 16) ⊎ (19 < k) → (read_by t here k Finding.Nothing).found ≡ Finding.Fault 40 p
        go (inl l) =
            rw (
              within,
              ne_eqb k 16 (λ e. absurd (omega arith)),
              ne_eqb k 17 (λ e. absurd (omega arith)),
              ne_eqb k 18 (λ e. absurd (omega arith)),
              ne_eqb k 19 (λ e. absurd (omega arith)),
            )
        go (inr l) =
            rw (
              within,
              ne_eqb k 16 (λ e. absurd (omega arith)),
              ne_eqb k 17 (λ e. absurd (omega arith)),
              ne_eqb k 18 (λ e. absurd (omega arith)),
              ne_eqb k 19 (λ e. absurd (omega arith)),
            )

    says_unheard : (rest : List ℕ) → (n ≡ 0) ⊎ (done n ≡ true) → says t here (18 ∷ rest) ≡ Finding.Fault 41 p
    unfolding read_byte
    says_unheard rest x = stop t here 18 rest (Finding.Fault 41 p) (rw (within, go x)) tt
      where
        either : (b : Bool) → (b || true) ≡ true
        either true = refl
        either false = refl

        go : (n ≡ 0) ⊎ (done n ≡ true) → (eqb n 0 || done n) ≡ true
        go (inl e) = rw (eq-eqb n 0 e)
        go (inr e) = rw e (either (eqb n 0))

    module _ (more : p + 1 < log_limit) where
      still : eqb (p + 1) log_limit ≡ false
      still = ne_eqb (p + 1) log_limit (λ x. absurd (omega arith))

      says_task : (k : ℕ) (rest : List ℕ) → (16 ∷ k ∷ [] ≡ slot_record (owner_at t done n) → ⊥) → says t here (16 ∷ k ∷ rest) ≡ Finding.Differs n
      unfolding read_byte
      says_task k rest apart =
          go_on t here inside 16 (k ∷ rest) (Finding.Differs n) byte_16
          (stop t inside k rest (Finding.Differs n) (rw (
            still,
            is_false (ltb k t.count && eqb k (owner_at t done n))
                (λ x. apart (task_same t few done n k x)),
          )) tt)

      says_behind : (k : ℕ) (rest : List ℕ) → says t here (19 ∷ k ∷ rest) ≡ Finding.Fault 42 (p + 1)
      unfolding read_byte
      says_behind k rest = go_on t here ended 19 (k ∷ rest) (Finding.Fault 42 (p + 1)) byte_19 (stop t ended k rest (Finding.Fault 42 (p + 1)) (rw still) tt)

module _ (t : Table) (few : t.count ≤ task_limit) (log : List ℕ) where
  -- What the judge says of this log, from its bytes.
  abbrev pub answer : Finding
  answer = says t (unread (start_of t)) log

  module _ {n : ℕ} {more : List ℕ} (b : Begins t log n more) where
    abbrev size : ℕ
    size = length (log_of t b.done n)

    sizes : length log ≡ size + length more
    sizes = ap length b.bytes ∙ length-append (log_of t b.done n) more

    -- The judge reads the slots, and goes on behind them.
    behind_slots : {f : Finding} → size ≤ log_limit → says t (here t few b.done n size) more ≡ f → answer ≡ f
    behind_slots h e =
        ap (says t (unread (start_of t))) b.bytes
        ∙ ap (λ (l : Log). at_end l.bytes l.found)
        (read_joined t (unread (start_of t)) (log_of t b.done n) more ∙ ap (λ (l : Log). read_all t l more) (read_camera t few b.done b.none n h))
        ∙ e

  found_only : {f : Finding} → Found t log f → answer ≡ f
  unfolding read_all
  found_only (good {n} b h) =
      behind_slots b (omega (arith, sizes b)) (go_on t _ (ended t few b.done n (size b)) 19 [] Finding.Good (byte_19 t few b.done n (size b)
      (omega (arith, sizes b))) refl)
  found_only (differs {n} slot rest b is apart h) = go is
    where
      go : IsSlot slot → answer ≡ Finding.Differs n
      go (inl e) =
          let whole : size b + 1 ≤ log_limit = rw e at h in
          behind_slots b (omega arith) (rw e (says_empty t few b.done n (size b) (omega arith) rest (λ x. apart (e ∙ x))))
      go (inr (k, e)) =
          let whole : size b + 2 ≤ log_limit = rw e at h in
          behind_slots b (omega arith) (rw e (says_task t few b.done n (size b) (omega arith) (omega arith) k rest (λ x. apart (e ∙ x))))
  found_only (unknown {n} k rest b x h) = behind_slots b (omega arith) (says_unknown t few b.done n (size b) h k rest x)
  found_only (unheard {n} rest b x h) = behind_slots b (omega arith) (says_unheard t few b.done n (size b) h rest x)
  found_only (behind {n} k rest b h) = behind_slots b (omega arith) (says_behind t few b.done n (size b) (omega arith) h k rest)
  found_only (endless {n} part b x h) = go x
    where
      go : (part ≡ []) ⊎ (part ≡ 16 ∷ []) → answer ≡ Finding.Fault 43 (length log)
      go (inl e) =
          let all : length log ≡ size b = rw e at (sizes b) ∙ omega arith in
          rw all (behind_slots b (omega arith) (rw e refl))
      go (inr e) =
          let all : length log ≡ size b + 1 = rw e at (sizes b) in
          rw all (behind_slots b (omega arith)
          (rw e (go_on t (here t few b.done n (size b)) (inside t few b.done n (size b)) 16 [] (Finding.Fault 43 (size b + 1))
          (byte_16 t few b.done n (size b) (omega arith)) refl)))
  found_only (long {n} part k rest b x h) = go x
    where
      start : Log
      start = here t few b.done n (size b)

      go : IsPart part → answer ≡ Finding.Fault 44 log_limit
      go (inl e) =
          let full : size b + 0 ≡ log_limit = rw e at h in
          behind_slots b (omega arith) (rw e (says_long t few b.done n (size b) start k rest (inl refl) (omega arith)))
      go (inr (inl e)) =
          let full : size b + 1 ≡ log_limit = rw e at h in
          behind_slots b (omega arith)
          (rw e (go_on t start (inside t few b.done n (size b)) 16 (k ∷ rest) (Finding.Fault 44 log_limit)
          (byte_16 t few b.done n (size b) (omega arith))
          (says_long t few b.done n (size b) (inside t few b.done n (size b)) k rest (inl refl) full)))
      go (inr (inr e)) =
          let full : size b + 1 ≡ log_limit = rw e at h in
          behind_slots b (omega arith)
          (rw e (go_on t start (ended t few b.done n (size b)) 19 (k ∷ rest) (Finding.Fault 44 log_limit)
          (byte_19 t few b.done n (size b) (omega arith))
          (says_long t few b.done n (size b) (ended t few b.done n (size b)) k rest (inr refl) full)))

  -- EXACTLY: this is the answer if it is what the log means.
  found_iff : (f : Finding) → (answer ≡ f) ↔ Found t log f
  found_iff f = (λ e. subst (Found t log) e (end_means t few log (read_all t (unread (start_of t)) log) (reads t few log)), found_only)

-- The whole judge, on any pieces of a log and a well-formed table, gives an answer exactly where it is meant.
pub judged_iff : (t : Table) (m : Measure) → judged t ≡ Ok m → (l : Log) (pieces : List (List ℕ)) (f : Finding)
    → ((log_judged t l pieces).log.found ≡ f) ↔ Found t (flatten pieces) f
judged_iff t m well l pieces f =
    (λ e. (found_iff t few (flatten pieces) f).0 (sym same ∙ e), λ h. same ∙ found_only t few (flatten pieces) h)
  where
    few : t.count ≤ task_limit
    few = (well_formed t m well).ranged.few

    same : (log_judged t l pieces).log.found ≡ answer t few (flatten pieces)
    same = ap (λ (x : Fed). x.log.found) (judged_bytes t m well l pieces)
