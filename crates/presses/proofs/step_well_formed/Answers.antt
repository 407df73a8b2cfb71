-- Refused as the state is; full; or taken.
use Rattle.std.specs.Prelude.{Ok, Err}
use Rattle.std.proofs.Common.{◌≡◌, sym, ◌∙◌, ◌-◌, ◌≤◌, arith, eq-eqb, ne_eqb}
use Rattle.model.specs.Limits.{slot_count_limit}
use Rattle.model.specs.Tasks.{measure}
use Rattle.model.specs.Dispatcher.{slot_count, admitted_by}
use Rattle.wellformed.specs.Admitted.{fitting}
use Rattle.belonging.specs.Room.{refused_tells, slots_tell}
use Rattle.presses.specs.Step.{pressable}
use Rattle.presses.proofs.step_well_formed.Goals.{In-Ok}
use Rattle.presses.proofs.step_well_formed.Goals as goal

-- The state is admitted, and the room is what it can still count.
told : (c : In-Ok) → (admitted_by c.args.t c.args.d (Ok (measure c.args.t)) ≡ Ok tt)
    × (c.in-Ok.room ≡ slot_count_limit - slot_count c.args.t c.args.d)
told c = slots_tell _ _ _ (sym c.belonging.ensures ∙ c.in-Ok.is)

most : (c : In-Ok) → slot_count c.args.t c.args.d ≤ slot_count_limit
most c = (fitting _ _ (measure c.args.t) (told c).0).room

pub returns-in-Err : goal.returns-in-Err
returns-in-Err c =
    let e = refused_tells (admitted_by c.args.t c.args.d (Ok (measure c.args.t))) _ _ (sym c.belonging.ensures ∙ c.in-Err.is) in
    rw e c.handed_back.ensures

pub returns-then-room-eq0 : goal.returns-then-room-eq0
returns-then-room-eq0 c =
    let at = (goal.at.returns-then-room-eq0 c).In-Ok in
    rw (
      (told at).0,
      eq-eqb (slot_count c.args.t c.args.d) slot_count_limit (omega (arith, (told at).1, most at, c.if-room-eq0.true)),
      ← c.full_state.ensures,
    ) c.handed_back-then-room-eq0.ensures

pub step_taken-requires : goal.step_taken-requires
step_taken-requires c =
    let at = (goal.at.step_taken-requires c).In-Ok in
    pressable _ _ c.requires (told at).0 (omega (arith, (told at).1, c.if-room-eq0.false))

pub returns-else-room-eq0 : goal.returns-else-room-eq0
returns-else-room-eq0 c =
    let at = (goal.at.returns-else-room-eq0 c).In-Ok in
    rw (
      (told at).0,
      ne_eqb (slot_count c.args.t c.args.d) slot_count_limit (λ e. absurd (omega (arith, (told at).1, c.if-room-eq0.false))),
    ) c.step_taken.ensures
