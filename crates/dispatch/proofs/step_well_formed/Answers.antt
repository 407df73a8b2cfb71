-- Refused as the state is; full; or taken.
use Rattle.std.specs.Prelude.{Ok}
use mathlib.Core.Path.{◌≡◌, sym, ◌∙◌}
use Prim.Native.Nat.{◌-◌, ◌≤◌}
use native.Mathlib.Omega.{arith}
use borrow.Author.Tests.{eq-eqb, ne_eqb}
use Rattle.model.specs.Limits.{slot_count_limit}
use Rattle.model.specs.Tasks.{measure}
use Rattle.model.specs.Dispatcher.{slot_count, admitted_by}
use Rattle.wellformed.specs.Admitted.{fitting}
use Rattle.belonging.specs.Room.{refused_tells, slots_tell}
use Rattle.dispatch.specs.Step.{unrefused}
use Rattle.dispatch.proofs.step_well_formed.Goals.{In-Ok}
use Rattle.dispatch.proofs.step_well_formed.Goals as goal

-- The state is admitted, and the room is what it can still count.
told : (c : In-Ok) → (admitted_by c.args.t c.args.d (Ok (measure c.args.t)) ≡ Ok tt)
    × (c.in-Ok.room ≡ slot_count_limit - slot_count c.args.t c.args.d)
told c = slots_tell _ _ _ (sym c.belonging.ensures ∙ c.in-Ok.is)

most : (c : In-Ok) → slot_count c.args.t c.args.d ≤ slot_count_limit
most c = (fitting _ _ (measure c.args.t) (told c).0).room

pub returns-then-room-eq0 : goal.returns-then-room-eq0
returns-then-room-eq0 c =
    rw (
      (told (goal.at.returns-then-room-eq0 c).In-Ok).0,
      eq-eqb (slot_count c.args.t c.args.d) slot_count_limit (omega (
        arith,
        (told (goal.at.returns-then-room-eq0 c).In-Ok).1,
        most
            (goal.at.returns-then-room-eq0 c).In-Ok,
        c.if-room-eq0.true,
      )),
      ← c.full_state.ensures,
    ) c.handed_back-then-room-eq0.ensures

pub unpack-columns-requires : goal.unpack-columns-requires
unpack-columns-requires c = c.requires

-- The table is unpacked, and nothing refuses the step.
pub step_taken-requires : goal.step_taken-requires
step_taken-requires c =
    let r = (goal.at.step_taken-requires c).In-Ok in
    (c.args.t, c.unpack-columns.ensures, unrefused _ _ c.requires (told r).0 (omega (arith, (told r).1, c.if-room-eq0.false)))

pub returns-in-Err : goal.returns-in-Err
returns-in-Err c =
    let e = refused_tells (admitted_by c.args.t c.args.d (Ok (measure c.args.t))) _ _
    (sym c.belonging.ensures ∙ c.in-Err.is) in
    rw e c.handed_back.ensures

pub returns-else-room-eq0 : goal.returns-else-room-eq0
returns-else-room-eq0 c =
    let r = (goal.at.returns-else-room-eq0 c).In-Ok in
    let s = c.args in
    rw (
      (told r).0,
      ne_eqb (slot_count s.t s.d) slot_count_limit (λ e. absurd (omega (arith, (told r).1, c.if-room-eq0.false))),
    )
    (c.step_taken.ensures s.t c.unpack-columns.ensures
    (unrefused _ _ c.requires (told r).0 (omega (arith, (told r).1, c.if-room-eq0.false))))
