-- NO STEP IS REFUSED (`never_refused`): from a start on a well-formed table every step that can still be counted is taken, and gives the next state.
use Rattle.std.specs.Prelude.{◌≡◌, Bool, ℕ, suc, ◌≤◌, ◌<◌, Ok}
use Rattle.std.proofs.Common.{arith}
use borrow.Author.Tests.{eq-eqb, ne_eqb}
use Rattle.values.specs.declared.Table.{Table}
use Rattle.values.specs.declared.Measure.{Measure}
use Rattle.model.specs.Values.{refusal}
use Rattle.model.specs.Limits.{slot_count_limit}
use Rattle.model.specs.Tasks.{judged}
use Rattle.model.specs.Run.{Order}
use Rattle.model.specs.Dispatcher.{slot_count, admitted, turn_by, refuse_step, stepped_by}
use Rattle.model.specs.History.{state_at_by}
use Rattle.backlog.proofs.Stepping.{sound}
use Rattle.backlog.proofs.Accounts.{slots_are}
use Rattle.wellformed.specs.WellFormed.{well_formed}
use Rattle.wellformed.specs.Admitted.{admitted_iff}

module _ (t : Table) (m : Measure) (well : judged t ≡ Ok m) (rank : Order) (done : ℕ → Bool) (n : ℕ) where
  pub history_admitted : n ≤ slot_count_limit → admitted t (state_at_by t rank done n) ≡ Ok tt
  history_admitted h =
      let b = (sound t (well_formed t m well).ranged rank done n).belongs in
      (admitted_iff t (state_at_by t rank done n)).1 (record {
        measure = m;
        well = well;
        fits = record { each = b.each; ran = b.ran; room = omega (arith, slots_are t (well_formed t m well).ranged rank done n) };
      })

  pub never_refused : n < slot_count_limit → stepped_by t rank (state_at_by t rank done n) (done n)
      ≡ record { answer = Ok (turn_by t rank (state_at_by t rank done n) (done n)); state = state_at_by t rank done (suc n) }
  unfolding stepped_by state_at_by
  never_refused h =
      rw (
        history_admitted (omega arith),
        ne_eqb (slot_count t (state_at_by t rank done n)) slot_count_limit
            (λ e. absurd (omega (arith, slots_are t (well_formed t m well).ranged rank done n))),
      )

  -- The step after the last that can be counted is refused by 9.
  pub full : n ≡ slot_count_limit → stepped_by t rank (state_at_by t rank done n) (done n) ≡ refuse_step (refusal 9 0) (state_at_by t rank done n)
  unfolding stepped_by
  full e =
      rw (
        history_admitted (omega arith),
        eq-eqb (slot_count t (state_at_by t rank done n)) slot_count_limit
            (omega (arith, slots_are t (well_formed t m well).ranged rank done n)),
      )
