-- The bytes below `i` are read.
use Rattle.std.proofs.Common.{◌≡◌, refl, sym, ap, ◌∙◌, ◌≤◌, arith, get_or}
use Rattle.values.specs.declared.Table.{Table}
use Rattle.model.specs.Limits.{log_limit}
use Rattle.model.specs.Dispatcher.{State, slot_count}
use Rattle.model.specs.Log.{Log, read_byte}
use Rattle.slots.specs.Columns.{Unpacked}
use Rattle.dispatch.specs.Step.{owner_room, state_is}
use Rattle.slotlog.specs.State.{joined}
use Rattle.slotlog.specs.Bytes.{Readable, read_none, steps, slot_same, slot_byte, one_more}
use Rattle.slotlog.specs.InPlace.{moved_if, whole}
use Rattle.slotlog.proofs.OtherByte.{other_byte}
use Rattle.slotlog.proofs.read_in_place.Goals.{At-loop-i, Joined-ends_slot}
use Rattle.slotlog.proofs.read_in_place.Goals.{then-ends_slot+in-Some, else-ends_slot+else-is_found-2}
use Rattle.slotlog.proofs.read_in_place.Goals as goal

pub returns-then-is_found-clause-read : goal.returns-then-is_found-clause-read
returns-then-is_found-clause-read c t u r = read_none t _ _ r

pub loop-i-init : goal.loop-i-init
loop-i-init c = (refl, λ t u r. read_none t _ _ r)

-- The dispatcher and the log here, which may be read on.
abbrev lists : At-loop-i → State
lists c = record { wait = c.loop-i.wait; left = c.loop-i.left; last = c.loop-i.last; given = c.loop-i.given; empty = c.loop-i.empty }

abbrev here : At-loop-i → Log
here c = joined (lists c) c.loop-i.reading

now : (c : At-loop-i) → Readable c.requires.0 (here c)
now c = let (t, u, r) = c.requires in (c.loop-i.invariant.1 t u r).may

pub count_given-requires : goal.count_given-requires
count_given-requires c =
    let (t, u, r) = c.requires in
    let turn = (goal.at.count_given-requires c).At-loop-i in
    owner_room t (lists turn) c.loop-i.reading.done (steps t (here turn) (now turn)) _
    (moved_if t (lists turn) _ (steps t (here turn) (now turn)) (whole (now turn)) u c.hear_report.ensures c.serve.ensures c.in-Some.is)

pub count_empty-empty-requires : goal.count_empty-empty-requires
unfolding slot_count
count_empty-empty-requires c =
    let turn = (goal.at.count_empty-empty-requires c).At-loop-i in
    omega (arith, (steps c.requires.0 (here turn) (now turn)).room)

pub returns-in_default-clause-read : goal.returns-in_default-clause-read
returns-in_default-clause-read c t u r = read_none t _ _ r

pub returns-in_default-2-clause-read : goal.returns-in_default-2-clause-read
returns-in_default-2-clause-read c t u r = read_none t _ _ r

-- The counts have room for one more.
room : (c : At-loop-i) → (c.loop-i.reading.slots ≤ log_limit) × (c.loop-i.reading.bytes ≤ log_limit)
room c = let f = (now c).fits in (omega (arith, f.slots_le, f.bytes_le), f.bytes_le)

-- One byte more is read, whichever way.
turned : (c : Joined-ends_slot) (t : Table) → Unpacked t c.args.columns.now → Readable t (here (goal.at.Joined-ends_slot c).At-loop-i)
    → let w = c.if-ends_slot in
    joined (record { wait = w.wait; left = w.left; last = w.last; given = w.given; empty = w.empty }) w.reading
    ≡ read_byte t (here (goal.at.Joined-ends_slot c).At-loop-i) (get_or c.args.block.now c.loop-i.i 0)
turned c t u readable =
    let turn = (goal.at.Joined-ends_slot c).At-loop-i in
    let d = lists turn in
    let reading = c.loop-i.reading in
    let b = get_or c.args.block.now c.loop-i.i 0 in
    let n = c.args.columns.now.count in
    let unrefused = steps t (here turn) readable in
    elim c.if-ends_slot.branch [
      | then-ends_slot+in-Some w ↦
          let m = moved_if t d reading.done unrefused (whole readable) u w.hear_report.ensures w.serve.ensures w.in-Some.is in
          let next = state_is t d reading.done unrefused _ m w.count_given.ensures w.count_empty-empty.ensures in
          rw (w.wait-is, w.left-is, w.last-is, w.given-is, w.empty-is, w.reading-is)
          (ap (joined _) w.one_slot-reading.ensures ∙ slot_same t d reading b n u.tasks m.owned w.is_due.ensures next w.if-is_due.true
          ∙ slot_byte t d reading b (sym c.ends_slot.ensures ∙ w.if-ends_slot.true))
      | else-ends_slot+else-is_found-2 w ↦
          rw (w.wait-is, w.left-is, w.last-is, w.given-is, w.empty-is, w.reading-is)
          (ap (joined d) w.read_other-reading.ensures ∙ other_byte t d reading b (sym c.ends_slot.ensures ∙ w.if-ends_slot.false))
    ]

pub loop-i-preserved : goal.loop-i-preserved
loop-i-preserved c = (
  c.loop-i.invariant.0,
  λ t u r. let here = c.loop-i.invariant.1 t u r in
      one_more c.loop-i-test.true here (turned (goal.at.loop-i-preserved c).Joined-ends_slot t u here.may),
)

pub returns-then-is_found-2-clause-read : goal.returns-then-is_found-2-clause-read
returns-then-is_found-2-clause-read c t u r =
    let before = c.loop-i.invariant.1 t u r in
    one_more c.loop-i-test.true before (ap (joined _) c.read_other-reading.ensures
    ∙ other_byte t (lists (goal.at.returns-then-is_found-2-clause-read c).At-loop-i) c.loop-i.reading _ (sym c.ends_slot.ensures ∙ c.if-ends_slot.false))

pub returns-after-loop-i-clause-within : goal.returns-after-loop-i-clause-within
returns-after-loop-i-clause-within c = omega (arith, c.loop-i.invariant.0)

pub returns-after-loop-i-clause-read : goal.returns-after-loop-i-clause-read
returns-after-loop-i-clause-read c t u r =
    let all : c.loop-i.i ≡ c.loop-i.at = omega (arith, c.loop-i.invariant.0, c.loop-i.auto.i-end, c.loop-i-test.false) in
    rw (← all) (c.loop-i.invariant.1 t u r)
