-- Refused as the table is, as its dispatcher is, or by its counts.
use Rattle.std.specs.Prelude.{Ok}
use Rattle.std.proofs.lemmas.Result.{err_from_is_err_and}
use mathlib.Core.Path.{◌≡◌, refl, sym, ap, ◌∙◌}
use Prim.Native.Nat.{◌-◌}
use native.Mathlib.Omega.{arith}
use Rattle.model.specs.Limits.{slot_count_limit}
use Rattle.model.specs.Tasks.{measure, judged}
use Rattle.model.specs.Dispatcher.{slot_count, admitted_by, admitted}
use Rattle.model.specs.Log.{miscounted, log_admitted}
use Rattle.wellformed.specs.WellFormed.{well_formed, refused_is, admitted_is, judged_iff}
use Rattle.wellformed.specs.Admitted.{fitting}
use Rattle.belonging.specs.Room.{refused_tells, slots_tell}
use Rattle.slotlog.specs.State.{log_state_of}
use Rattle.slotlog.proofs.admission.Goals.{After-miscounted, In_ok-admit}
use Rattle.slotlog.proofs.admission.Goals as goal

-- The table is well-formed.
well : (c : In_ok-admit) → let t = c.args.t in (judged t ≡ Ok (measure t))
well c =
    let (m, e) = admitted_is (judged _) (sym c.admit.ensures ∙ c.in_ok-admit.was) in
    e ∙ ap Ok ((judged_iff _ m).0 e).2

pub belonging-requires : goal.belonging-requires
belonging-requires c = (well_formed _ _ (well (goal.at.belonging-requires c).In_ok-admit)).ranged.few

-- The dispatcher is admitted, and what it counts is what it can count less the room.
counts : (c : After-miscounted) → (admitted_by c.args.t c.args.log.state (Ok (measure c.args.t)) ≡ Ok tt)
    × (c.miscounted.result ≡ miscounted c.args.t (log_state_of c.args.log))
counts c =
    let (fits, room) = slots_tell (admitted_by c.args.t c.args.log.state (Ok (measure c.args.t)))
    (slot_count c.args.t c.args.log.state) _ (sym c.belonging.ensures ∙ c.in_ok-room.was) in
    let counted : slot_count_limit - c.in_ok-room.room ≡ slot_count c.args.t c.args.log.state = omega
    (arith, room, (fitting c.args.t c.args.log.state (measure c.args.t) fits).room) in
    (fits, rw counted at c.miscounted.ensures)

abbrev told : After-miscounted → In_ok-admit
told c = (goal.at.After-miscounted c).In_ok-admit

pub returns-then-miscounted : goal.returns-then-miscounted
unfolding log_admitted admitted
returns-then-miscounted c = rw (
  c.new.ensures,
  well (told (goal.at.returns-then-miscounted c).After-miscounted),
  (counts (goal.at.returns-then-miscounted c).After-miscounted).0,
  ← (counts (goal.at.returns-then-miscounted c).After-miscounted).1,
  c.if-miscounted.true,
) refl

pub returns-in_err-admit : goal.returns-in_err-admit
unfolding log_admitted admitted
returns-in_err-admit c =
    let p = err_from_is_err_and c.from_residual.result c.from_residual.ensures.1 in
    rw (p.1, p.2, refused_is (judged c.args.t) _ (sym c.admit.ensures ∙ c.in_err-admit.was)) refl

pub returns-in_err-room : goal.returns-in_err-room
unfolding log_admitted admitted
returns-in_err-room c =
    let p = err_from_is_err_and c.from_residual-in_err-room.result c.from_residual-in_err-room.ensures.1 in
    rw (
      p.1,
      p.2,
      well (goal.at.returns-in_err-room c).In_ok-admit,
      refused_tells (admitted_by c.args.t c.args.log.state (Ok (measure c.args.t))) _ _
          (sym c.belonging.ensures ∙ c.in_err-room.was),
    ) refl

pub returns : goal.returns
unfolding log_admitted admitted
returns c = rw (
  well (told (goal.at.returns c).After-miscounted),
  (counts (goal.at.returns c).After-miscounted).0,
  ← (counts (goal.at.returns c).After-miscounted).1,
  c.if-miscounted.false,
) refl
