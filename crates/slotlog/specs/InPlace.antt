-- A slot in place: its lists are changed before it is known whether its owner is the one that was written.
use Rattle.std.specs.Prelude.{◌≡◌, refl, List, Option, Some, Bool, false, cond, ℕ, ◌≤◌, ◌<◌}
use Rattle.std.proofs.Common.{sym, ◌∙◌, arith}
use Rattle.values.specs.declared.Table.{Table}
use Rattle.model.specs.Limits.{task_limit}
use Rattle.model.specs.Notation.{bits}
use Rattle.model.specs.Dispatcher.{State, is_late}
use Rattle.model.specs.Log.{Log}
use Rattle.counting.specs.Count.{is_false}
use Rattle.counting.specs.Fill.{fill_eq, fill_same}
use Rattle.slots.specs.declared.columns.Columns.{Columns}
use Rattle.slots.specs.Columns.{Unpacked}
use Rattle.slots.specs.Slot.{closed, is_late as isLateIn, put_all}
use Rattle.slots.specs.Serve.{Served}
use Rattle.counting.specs.Bits.{in_bits}
use Rattle.dispatch.specs.declared.Moved.{Moved}
use Rattle.dispatch.specs.Step.{Unrefused, Whole, Advanced, advanced_is}
use Rattle.slotlog.specs.Bytes.{Readable}

-- The step's lists, owner and late set.
abbrev pub moved_to : Table → State → Bool → List ℕ → List ℕ → ℕ → Moved
moved_to t d done wait left owner = record { wait = wait; left = left; owner = owner; late = bits (is_late t d done) task_limit }

-- To close the jobs of a set without members changes nothing.
none_closed : (n : ℕ) (left : List ℕ) (late : ℕ → Bool) → n ≤ task_limit → ((i : ℕ) → i < n → late i ≡ false) → left ≡ put_all left (bits late task_limit) 0 n
unfolding put_all
none_closed n left late few none = sym (fill_eq n _ _ left (λ i l. rw (in_bits late task_limit i (omega arith), none i l)) ∙ fill_same n left 0)

-- Where no job is late, a done report and one pass are the whole step.
pub moved_if :
    (t : Table) (d : State) (done : Bool) → Unrefused t d → Whole d → {k : Columns} → Unpacked t k
    → {left wait' left' : List ℕ} {seen : Option ℕ} {owner : ℕ} → left ≡ cond done (closed d.left d.last) d.left
    → Served d.wait left k.period k.cost k.slack k.rank k.count wait' left' seen
    → seen ≡ Some owner → Advanced t d done (moved_to t d done wait' left' owner)
moved_if t d done unrefused whole {k} u {left} {owner = owner} a s o =
    let none = none_closed k.count left (isLateIn d.wait left k.slack k.count) k.few (λ i l. is_false _ (s.quiet owner o i l)) in
    let m = advanced_is t d done unrefused whole u a refl none s o in
    record { waits = m.waits; lefts = m.lefts; owned = m.owned; lates = refl }

-- The lists of a log that may be read are whole.
pub whole : {t : Table} {l : Log} → Readable t l → Whole l.state
whole r = record { waits = r.fits.belongs.waits; lefts = r.fits.belongs.lefts }
