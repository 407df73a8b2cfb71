-- The log that a camera keeps, and its judge: from pieces cut anywhere the answer good,
-- the first slot that differs, or a fault.
use Rattle.std.specs.Prelude.{List, [], ◌∷◌, ◌++◌, Bool, true, false, cond, not, ◌&&◌, ◌||◌, ℕ, zero, suc, ◌+◌, ltb, eqb, Ok, Err}
use Rattle.model.specs.Values.{Table, Admission, Finding, refusal}
use Rattle.model.specs.Limits.{task_limit, log_limit, count_place}
use Rattle.model.specs.Dispatcher.{State, slot_count, admitted, start_of, started, owner_now, after}
use Rattle.model.specs.History.{owner_at}

-- What the judge keeps between pieces: a dispatcher's state; whether a record of kind 16 is open, whose task number is
-- still to come; whether a done report waits for the next slot; how many slots and bytes were read; and what was found.
pub record Log : Type 0 where
  pub state : State
  pub opened : Bool
  pub done : Bool
  pub slots : ℕ
  pub bytes : ℕ
  pub found : Finding

-- One byte of a log. Slots and bytes count from 0.
module _ (t : Table) (l : Log) where
  -- A byte that leaves the state and the slots as they are is read.
  abbrev pub passed : Bool → Bool → Finding → Log
  passed opened done found =
      record { state = l.state; opened = opened; done = done; slots = l.slots; bytes = l.bytes + 1; found = found }

  -- Once a fault or a difference is found nothing else moves. A fault names the byte, a difference the slot.
  abbrev pub stopped : Finding → Log
  stopped f =
      record { state = l.state; opened = l.opened; done = l.done; slots = l.slots; bytes = l.bytes; found = f }

  abbrev pub fault : ℕ → Log
  fault n = stopped (Finding.Fault n l.bytes)

  -- The owner of this slot, under the done report that waits.
  abbrev pub due_owner : ℕ
  due_owner = owner_now t l.state l.done

  -- A slot's record is whole: it is the dispatcher's, which steps, or the first that differs.
  abbrev pub slot_read : Bool → Log
  slot_read same =
      cond same (record {
        state = after t l.state l.done;
        opened = false;
        done = false;
        slots = l.slots + 1;
        bytes = l.bytes + 1;
        found = Finding.Nothing;
      })
      (stopped (Finding.Differs l.slots))

  -- The task number of an open record: a number outside the table is a slot that differs.
  abbrev pub task_read : ℕ → Log
  task_read k = slot_read (ltb k t.count && eqb k due_owner)

  -- A done report is about the slot just before: 41 with no slot before it, or twice for one slot.
  abbrev pub done_read : Log
  done_read = cond (eqb l.slots 0 || l.done) (fault 41) (passed false true Finding.Nothing)

  -- A kind: 16 opens a task's slot, 17 is an empty slot, 18 a done report, 19 the end. Any other is 40.
  abbrev pub kind_read : ℕ → Log
  kind_read k =
      cond (eqb k 16) (passed true l.done Finding.Nothing)
      (cond (eqb k 17) (slot_read (eqb due_owner task_limit))
      (cond (eqb k 18) done_read
      (cond (eqb k 19) (passed false l.done Finding.Good) (fault 40))))

  -- By what was found before: after the end a byte is 42, and after a fault or a difference it is not looked at.
  -- The first byte past the limit is 44, whatever it is.
  abbrev pub read_by : ℕ → Finding → Log
  read_by b Finding.Nothing = cond (eqb l.bytes log_limit) (fault 44) (cond l.opened (task_read b) (kind_read b))
  read_by b Finding.Good = cond (eqb l.bytes log_limit) (fault 44) (fault 42)
  read_by b (Finding.Differs slot) = l
  read_by b (Finding.Fault n p) = l

  unfoldable pub read_byte : ℕ → Log
  read_byte b = read_by b l.found

-- A piece, byte by byte.
unfoldable pub read_all : Table → Log → List ℕ → Log
read_all t l [] = l
read_all t l (b ∷ s) = read_all t (read_byte t l b) s

-- What is found of a log that is finished: 43 with its length, if it has no end.
abbrev pub at_end : ℕ → Finding → Finding
at_end bytes Finding.Nothing = Finding.Fault 43 bytes
at_end bytes Finding.Good = Finding.Good
at_end bytes (Finding.Differs slot) = Finding.Differs slot
at_end bytes (Finding.Fault n p) = Finding.Fault n p

abbrev pub closed : Log → Log
closed l =
    record {
      state = l.state;
      opened = l.opened;
      done = l.done;
      slots = l.slots;
      bytes = l.bytes;
      found = at_end l.bytes l.found;
    }

-- A log is refused as its dispatcher's state is, and then by 8 at `count_place`,
-- if its slots are not those that the state counts, or are more than its bytes, or its bytes are above the limit.
abbrev pub miscounted : Table → Log → Bool
miscounted t l = not (eqb l.slots (slot_count t l.state)) || ltb l.bytes l.slots || ltb log_limit l.bytes

abbrev pub log_admitted_by : Table → Log → Admission → Admission
log_admitted_by t l (Err r) = Err r
log_admitted_by t l (Ok u) =
    cond (miscounted t l) (Err (refusal 8 count_place)) (Ok tt)

unfoldable pub log_admitted : Table → Log → Admission
log_admitted t l = log_admitted_by t l (admitted t l.state)

-- A log of which nothing is read.
abbrev pub unread : State → Log
unread d = record { state = d; opened = false; done = false; slots = 0; bytes = 0; found = Finding.Nothing }

-- What each of the three calls says and leaves, of any table and any log: a start, a piece and the finish.
-- A refusal hands the log back as it came.
pub record Fed : Type 0 where
  pub admission : Admission
  pub log : Log

abbrev pub on_log : Log → Log → Admission → Fed
on_log l next (Err r) = record { admission = Err r; log = l }
on_log l next (Ok u) = record { admission = Ok tt; log = next }

unfoldable pub log_started : Table → Log → Fed
log_started t l = on_log l (unread (start_of t)) (started t l.state).admission

unfoldable pub fed : Table → Log → List ℕ → Fed
fed t l piece = on_log l (read_all t l piece) (log_admitted t l)

unfoldable pub log_finished : Table → Log → Fed
log_finished t l = on_log l (closed l) (log_admitted t l)

-- Pieces one after another.
unfoldable pub feeds : Table → Log → List (List ℕ) → Log
feeds t l [] = l
feeds t l (piece ∷ more) = feeds t (fed t l piece).log more

-- The whole judge: started, given the pieces, and finished. The answer is what is then found.
abbrev pub log_judged : Table → Log → List (List ℕ) → Fed
log_judged t l pieces = log_finished t (feeds t (log_started t l).log pieces)

-- What a camera writes of a slot's owner, and of a done report.
abbrev pub slot_record : ℕ → List ℕ
slot_record owner = cond (eqb owner task_limit) (17 ∷ []) (16 ∷ owner ∷ [])

abbrev pub done_record : Bool → List ℕ
done_record done = cond done (18 ∷ []) []

-- What a camera that runs the dispatcher has written after n slots: of each slot its owner,
-- and behind it the done report about it, which the next step is given.
unfoldable pub log_of : Table → (ℕ → Bool) → ℕ → List ℕ
log_of t done zero = []
log_of t done (suc n) = log_of t done n ++ slot_record (owner_at t done n) ++ done_record (done (suc n))
