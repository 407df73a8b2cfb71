-- The bytes before this one are read.
use Rattle.std.proofs.Common.{◌≡◌, sym, ap, ◌∙◌, ◌≤◌, arith, get_or}
use Rattle.values.specs.declared.Table.{Table}
use Rattle.model.specs.Limits.{log_limit}
use Rattle.model.specs.Dispatcher.{State, slot_count}
use Rattle.model.specs.Log.{Log, read_byte}
use Rattle.slots.specs.Columns.{Unpacked}
use Rattle.dispatch.specs.Step.{owner_room, state_is}
use Rattle.slotlog.specs.State.{joined}
use Rattle.slotlog.specs.Bytes.{Readable, read_none, steps, slot_same, slot_other, slot_byte, one_more}
use Rattle.slotlog.proofs.OtherByte.{other_byte}
use Rattle.slotlog.proofs.read_bytes.Goals.{At-loop-byte, Joined-ends_slot}
use Rattle.slotlog.proofs.read_bytes.Goals.{then-ends_slot+then-is_due, then-ends_slot+else-is_due, else-ends_slot}
use Rattle.slotlog.proofs.read_bytes.Goals as goal

pub loop-byte-init : goal.loop-byte-init
loop-byte-init c t u r = read_none t _ _ r

-- The dispatcher and the log here, which may be read on.
abbrev lists : At-loop-byte → State
lists c = record { wait = c.loop-byte.wait; left = c.loop-byte.left; last = c.loop-byte.last; given = c.loop-byte.given; empty = c.loop-byte.empty }

abbrev here : At-loop-byte → Log
here c = joined (lists c) c.loop-byte.reading

now : (c : At-loop-byte) → Readable c.requires.0 (here c)
now c = let (t, u, r) = c.requires in (c.loop-byte.invariant t u r).may

pub count_given-requires : goal.count_given-requires
count_given-requires c =
    let (t, u, r) = c.requires in
    let unrefused = steps t _ (now (goal.at.count_given-requires c).At-loop-byte) in
    owner_room t _ _ unrefused _ (c.advance_lists-moved.ensures t c.loop-byte.given c.loop-byte.empty u unrefused)

pub advance_lists-moved-requires : goal.advance_lists-moved-requires
advance_lists-moved-requires c =
    let (t, u, r) = c.requires in
    (t, c.loop-byte.given, c.loop-byte.empty, u, steps t _ (now (goal.at.advance_lists-moved-requires c).At-loop-byte))

pub count_empty-empty-requires : goal.count_empty-empty-requires
unfolding slot_count
count_empty-empty-requires c =
    let (t, u, r) = c.requires in
    omega (arith, (steps t _ (now (goal.at.count_empty-empty-requires c).At-loop-byte)).room)

-- The counts have room for one more.
room : (c : At-loop-byte) → (c.loop-byte.reading.slots ≤ log_limit) × (c.loop-byte.reading.bytes ≤ log_limit)
room c = let f = (now c).fits in (omega (arith, f.slots_le, f.bytes_le), f.bytes_le)

-- One byte more is read, whichever way.
turned : (c : Joined-ends_slot) (t : Table) → Unpacked t c.args.columns.now → Readable t (here (goal.at.Joined-ends_slot c).At-loop-byte)
    → let w = c.if-ends_slot in
    joined (record { wait = w.wait; left = w.left; last = w.last; given = w.given; empty = w.empty }) w.reading
    ≡ read_byte t (here (goal.at.Joined-ends_slot c).At-loop-byte) (get_or c.args.bytes.now c.loop-byte.byte-index 0)
turned c t u readable =
    let d = lists (goal.at.Joined-ends_slot c).At-loop-byte in
    let reading = c.loop-byte.reading in
    let b = get_or c.args.bytes.now c.loop-byte.byte-index 0 in
    let n = c.args.columns.now.count in
    let unrefused = steps t (here (goal.at.Joined-ends_slot c).At-loop-byte) readable in
    elim c.if-ends_slot.branch [
      | then-ends_slot+then-is_due w ↦
          let m = w.advance_lists-moved.ensures t d.given d.empty u unrefused in
          let next = state_is t d reading.done unrefused w.advance_lists-moved.result m w.count_given.ensures w.count_empty-empty.ensures in
          rw (w.wait-is, w.left-is, w.last-is, w.given-is, w.empty-is, w.reading-is)
          (ap (joined _) w.one_slot-reading.ensures ∙ slot_same t d reading b n u.tasks m.owned w.is_due.ensures next w.if-is_due.true
          ∙ slot_byte t d reading b (sym c.ends_slot.ensures ∙ w.if-ends_slot.true))
      | then-ends_slot+else-is_due w ↦
          let m = w.advance_lists-moved.ensures t d.given d.empty u unrefused in
          rw (w.wait-is, w.left-is, w.last-is, w.given-is, w.empty-is, w.reading-is)
          (ap (joined d) w.found_in-reading.ensures ∙ slot_other t d reading b n u.tasks m.owned w.is_due.ensures w.if-is_due.false
          ∙ slot_byte t d reading b (sym c.ends_slot.ensures ∙ w.if-ends_slot.true))
      | else-ends_slot w ↦
          rw (w.wait-is, w.left-is, w.last-is, w.given-is, w.empty-is, w.reading-is)
          (ap (joined d) w.read_other-reading.ensures ∙ other_byte t d reading b (sym c.ends_slot.ensures ∙ w.if-ends_slot.false))
    ]

pub loop-byte-preserved : goal.loop-byte-preserved
loop-byte-preserved c t u r =
    let here = c.loop-byte.invariant t u r in
    one_more c.loop-byte-test.true here (turned (goal.at.loop-byte-preserved c).Joined-ends_slot t u here.may)
