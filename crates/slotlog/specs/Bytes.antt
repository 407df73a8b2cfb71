-- One byte, by what the code makes of it: a slot's record is whole, or it is not.
use Rattle.std.specs.Prelude.{◌≡◌, refl, ◌≢◌, Bool, true, false, cond, ◌&&◌, ◌||◌, List, ℕ, ◌+◌, ◌≤◌, ◌<◌, eqb, ltb, length, get_or, take, drop, Ok}
use Rattle.std.proofs.Common.{sym, ◌∙◌, add-one, arith, ne_eqb, eqb-true, take-append-drop, take-suc, take_all}
use Rattle.std.proofs.Math.Path.{ap}
use Rattle.values.specs.declared.Table.{Table}
use Rattle.values.specs.declared.Finding.{Finding}
use Rattle.model.specs.Limits.{task_limit, log_limit}
use Rattle.model.specs.Dispatcher.{State, after}
use Rattle.model.specs.Log.{Log, due_owner, slot_read, task_read, kind_read, read_by, read_byte, read_all, log_admitted}
use Rattle.model.specs.LogMeaning.{Final}
use Rattle.counting.specs.Count.{one_of_iff}
use Rattle.wellformed.specs.Ranges.{Ranged}
use Rattle.wellformed.specs.WellFormed.{well_formed}
use Rattle.dispatch.specs.Step.{Unrefused}
use Rattle.slotlog.specs.declared.Reading.{Reading}
use Rattle.slotlog.specs.State.{joined}
use Rattle.slotlog.specs.Fits.{Sized, Fits, log_admitted_iff, fits_byte}
use Rattle.slotlog.specs.Cuts.{read_joined, stays}

-- What a byte may be read on.
pub record Readable (t : Table) (l : Log) : Type 0 where
  pub ranged : Ranged t
  pub fits : Fits t l

-- A byte makes the record of a slot whole; and the record is then that of the owner.
abbrev pub ends_slot : Finding → ℕ → Bool → ℕ → Bool
ends_slot Finding.Nothing bytes opened b = cond (eqb bytes log_limit) false (opened || eqb b 17)
ends_slot Finding.Good bytes opened b = false
ends_slot (Finding.Differs slot) bytes opened b = false
ends_slot (Finding.Fault n p) bytes opened b = false

abbrev pub is_due : Bool → ℕ → ℕ → ℕ → Bool
is_due opened b n owner = cond opened (ltb b n && eqb b owner) (eqb owner task_limit)

abbrev pub slot_met : Table → Log → ℕ → Log
slot_met t l b = slot_read t l (is_due l.opened b t.count (due_owner t l))

-- What a slot that is the dispatcher's leaves beside it; and what any other byte does.
abbrev pub slot_on : Reading → Reading
slot_on r = record { opened = false; done = false; slots = r.slots + 1; bytes = r.bytes + 1; found = Finding.Nothing }

abbrev pub stopped_at : Reading → Finding → Reading
stopped_at r f = record { opened = r.opened; done = r.done; slots = r.slots; bytes = r.bytes; found = f }

abbrev pub passed_on : Reading → Bool → Bool → Finding → Reading
passed_on r opened done found = record { opened = opened; done = done; slots = r.slots; bytes = r.bytes + 1; found = found }

abbrev pub done_heard : Reading → Reading
done_heard r = cond (eqb r.slots 0 || r.done) (stopped_at r (Finding.Fault 41 r.bytes)) (passed_on r false true Finding.Nothing)

abbrev pub kind_heard : Reading → ℕ → Reading
kind_heard r k =
    cond (eqb r.bytes log_limit) (stopped_at r (Finding.Fault 44 r.bytes))
    (cond (eqb k 16) (passed_on r true r.done Finding.Nothing)
    (cond (eqb k 18) (done_heard r)
    (cond (eqb k 19) (passed_on r false r.done Finding.Good) (stopped_at r (Finding.Fault 40 r.bytes)))))

abbrev pub other_read : Reading → ℕ → Finding → Reading
other_read r b Finding.Nothing = kind_heard r b
other_read r b Finding.Good = stopped_at r (Finding.Fault (cond (eqb r.bytes log_limit) 44 42) r.bytes)
other_read r b (Finding.Differs slot) = r
other_read r b (Finding.Fault n p) = r

-- A report about no slot, or a second one; or the first.
heard_by : Reading → Bool → Bool → Reading
heard_by r none twice = cond (none || twice) (stopped_at r (Finding.Fault 41 r.bytes)) (passed_on r false true Finding.Nothing)

pub heard_twice : (r : Reading) → r.slots ≢ 0 → r.done ≡ true → stopped_at r (Finding.Fault 41 r.bytes) ≡ done_heard r
unfolding heard_by
heard_twice r f e = sym (ap (λ (x : Bool). heard_by r x r.done) (ne_eqb r.slots 0 f) ∙ ap (heard_by r false) e)

pub heard_once : (r : Reading) → r.slots ≢ 0 → r.done ≡ false → passed_on r false true Finding.Nothing ≡ done_heard r
unfolding heard_by
heard_once r f e = sym (ap (λ (x : Bool). heard_by r x r.done) (ne_eqb r.slots 0 f) ∙ ap (heard_by r false) e)

-- BY BYTES: what the code makes of a byte is what the model makes of it.
module _ (t : Table) (d : State) (done : Bool) (slots bytes b : ℕ) where
  abbrev reading : Bool → Finding → Reading
  reading opened found = record { opened = opened; done = done; slots = slots; bytes = bytes; found = found }

  abbrev log : Bool → Finding → Log
  log opened found = joined d (reading opened found)

  slot_by : (full opened none : Bool) → cond full false (opened || none) ≡ true → eqb b 17 ≡ none
      → slot_met t (log opened Finding.Nothing) b ≡ cond full (log opened (Finding.Fault 44 bytes))
      (cond opened (task_read t (log opened Finding.Nothing) b) (kind_read t (log opened Finding.Nothing) b))
  slot_by true opened none e q = let z : ◌≡◌ {A = ℕ} 0 1 = cc in absurd (omega arith)
  slot_by false true none e q = refl
  slot_by false false true e q = rw (eqb-true b 17 q) refl
  slot_by false false false e q = let z : ◌≡◌ {A = ℕ} 0 1 = cc in absurd (omega arith)

  slot_is : (opened : Bool) (found : Finding) → ends_slot found bytes opened b ≡ true → slot_met t (log opened found) b ≡ read_by t (log opened found) b found
  slot_is opened Finding.Nothing e = slot_by (eqb bytes log_limit) opened (eqb b 17) e refl
  slot_is opened Finding.Good e = let z : ◌≡◌ {A = ℕ} 0 1 = cc in absurd (omega arith)
  slot_is opened (Finding.Differs slot) e = let z : ◌≡◌ {A = ℕ} 0 1 = cc in absurd (omega arith)
  slot_is opened (Finding.Fault n p) e = let z : ◌≡◌ {A = ℕ} 0 1 = cc in absurd (omega arith)

  -- The kinds but 17, by the tests.
  kind_by : (a c e wrong : Bool) → let r = reading false Finding.Nothing in
      joined d (cond a (passed_on r true done Finding.Nothing)
      (cond c (cond wrong (stopped_at r (Finding.Fault 41 bytes)) (passed_on r false true Finding.Nothing))
      (cond e (passed_on r false done Finding.Good) (stopped_at r (Finding.Fault 40 bytes)))))
      ≡ cond a (joined d (passed_on r true done Finding.Nothing))
      (cond c (cond wrong (joined d (stopped_at r (Finding.Fault 41 bytes))) (joined d (passed_on r false true Finding.Nothing)))
      (cond e (joined d (passed_on r false done Finding.Good)) (joined d (stopped_at r (Finding.Fault 40 bytes)))))
  kind_by true c e wrong = refl
  kind_by false true e true = refl
  kind_by false true e false = refl
  kind_by false false true wrong = refl
  kind_by false false false wrong = refl

  other_by : (full opened none : Bool) → cond full false (opened || none) ≡ false → eqb b 17 ≡ none → let r = reading opened Finding.Nothing in
      joined d (cond full (stopped_at r (Finding.Fault 44 bytes))
      (cond (eqb b 16) (passed_on r true done Finding.Nothing)
      (cond (eqb b 18) (done_heard r) (cond (eqb b 19) (passed_on r false done Finding.Good) (stopped_at r (Finding.Fault 40 bytes))))))
      ≡ cond full (joined d (stopped_at r (Finding.Fault 44 bytes))) (cond opened (task_read t (joined d r) b) (kind_read t (joined d r) b))
  other_by true opened none e q = refl
  other_by false true none e q = let z : ◌≡◌ {A = ℕ} 0 1 = cc in absurd (omega arith)
  other_by false false true e q = let z : ◌≡◌ {A = ℕ} 0 1 = cc in absurd (omega arith)
  other_by false false false e q = rw q (kind_by (eqb b 16) (eqb b 18) (eqb b 19) (eqb slots 0 || done))

  behind_by : (full opened : Bool) → log opened (Finding.Fault (cond full 44 42) bytes)
      ≡ cond full (log opened (Finding.Fault 44 bytes)) (log opened (Finding.Fault 42 bytes))
  behind_by true opened = refl
  behind_by false opened = refl

  pub other_is : (opened : Bool) (found : Finding) → ends_slot found bytes opened b ≡ false
      → joined d (other_read (reading opened found) b found) ≡ read_by t (log opened found) b found
  other_is opened Finding.Nothing e = other_by (eqb bytes log_limit) opened (eqb b 17) e refl
  other_is opened Finding.Good e = behind_by (eqb bytes log_limit) opened
  other_is opened (Finding.Differs slot) e = refl
  other_is opened (Finding.Fault n p) e = refl

pub slot_byte : (t : Table) (d : State) (r : Reading) (b : ℕ) → ends_slot r.found r.bytes r.opened b ≡ true
    → slot_met t (joined d r) b ≡ read_byte t (joined d r) b
unfolding read_byte
slot_byte t d r b e = slot_is t d r.done r.slots r.bytes b r.opened r.found e

-- A dispatcher's step on such a log is not refused.
pub steps : (t : Table) (l : Log) → Readable t l → Unrefused t l.state
steps t l r =
    record {
      ranged = r.ranged;
      ran = (one_of_iff l.state.last task_limit t.count).0 r.fits.belongs.ran;
      room = omega (arith, r.fits.counted, r.fits.slots_le, r.fits.bytes_le);
    }

-- A slot's record is that of its owner, or not.
module _ (t : Table) (d : State) (r : Reading) (b n : ℕ) (q : n ≡ t.count) {owner : ℕ} (o : owner ≡ due_owner t (joined d r)) {same : Bool}
    (s : same ≡ is_due r.opened b n owner) where
  met_by : Bool → Log
  met_by x = slot_read t (joined d r) x

  due : same ≡ is_due r.opened b t.count (due_owner t (joined d r))
  due = s ∙ ap (λ (x : ℕ). is_due r.opened b n x) o ∙ ap (λ (x : ℕ). is_due r.opened b x (due_owner t (joined d r))) q

  pub slot_same : {next : State} → next ≡ after t d r.done → same ≡ true → joined next (slot_on r) ≡ slot_met t (joined d r) b
  unfolding met_by
  slot_same e h = ap (λ (x : State). joined x (slot_on r)) e ∙ ap met_by (sym h ∙ due)

  pub slot_other : same ≡ false → joined d (stopped_at r (Finding.Differs r.slots)) ≡ slot_met t (joined d r) b
  unfolding met_by
  slot_other h = ap met_by (sym h ∙ due)

-- A byte leaves a log on which another may be read.
pub still : (t : Table) (l : Log) (b : ℕ) {next : Log} → Readable t l → next ≡ read_byte t l b → Readable t next
still t l b r e = rw e (record { ranged = r.ranged; fits = fits_byte t r.ranged l r.fits b })

-- One that is admitted is such a log.
pub readable : (t : Table) (l : Log) → Sized l.state → log_admitted t l ≡ Ok tt → Readable t l
readable t l size e = let ((m, well), f) = (log_admitted_iff t l size).0 e in record { ranged = (well_formed t m well).ranged; fits = f }

-- The bytes of a piece below `at` are read, and another may be.
pub record ReadTo (t : Table) (start : Log) (piece : List ℕ) (at : ℕ) (l : Log) : Type 0 where
  pub may : Readable t l
  pub so : l ≡ read_all t start (take at piece)

pub read_none : (t : Table) (l : Log) (piece : List ℕ) → Readable t l → ReadTo t l piece 0 l
unfolding read_all
read_none t l piece r = record { may = r; so = refl }

-- One byte more is read.
pub one_more : {t : Table} {start before after : Log} {piece : List ℕ} {at : ℕ} → at < length piece → ReadTo t start piece at before
    → after ≡ read_byte t before (get_or piece at 0) → ReadTo t start piece (at + 1) after
unfolding read_all
one_more {t} {start} {before} {after} {piece} {at} h r f =
    record {
      may = still t before (get_or piece at 0) r.may f;
      so = f ∙ ap (λ (k : Log). read_byte t k (get_or piece at 0)) r.so ∙ rw (add-one at, take-suc piece at 0, read_joined t start (take at piece) _);
    }

-- The whole piece is, where none is left, or where what is found is final.
pub all_read : {t : Table} {start l : Log} {piece : List ℕ} {at : ℕ} → length piece ≤ at → ReadTo t start piece at l → l ≡ read_all t start piece
all_read {t} {start} {piece = piece} h r = r.so ∙ ap (read_all t start) (take_all _ piece h)

pub rest_stays : {t : Table} {start l : Log} {piece : List ℕ} {at : ℕ} → Final l.found → ReadTo t start piece at l → l ≡ read_all t start piece
rest_stays {t} {start} {l} {piece} {at} f r =
    sym (stays t l (drop at piece) f) ∙ ap (λ (k : Log). read_all t k (drop at piece)) r.so
    ∙ sym (read_joined t start (take at piece) (drop at piece)) ∙ ap (read_all t start) (take-append-drop at piece)
