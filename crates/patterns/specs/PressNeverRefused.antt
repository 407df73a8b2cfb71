-- NO STEP IS REFUSED, UNDER PRESSES (`never_refused`): from a start on a well-formed table of both sorts every step that can still be counted is
-- taken, and gives the next state.
use Rattle.std.specs.Prelude.{◌≡◌, Bool, ℕ, suc, ◌≤◌, ◌<◌, Ok}
use Rattle.std.proofs.Common.{arith}
use borrow.Author.Tests.{eq-eqb, ne_eqb}
use Rattle.values.specs.declared.Table.{Table}
use Rattle.values.specs.declared.Measure.{Measure}
use Rattle.model.specs.Values.{refusal}
use Rattle.model.specs.Limits.{slot_count_limit}
use Rattle.model.specs.Tasks.{judged_mixed}
use Rattle.model.specs.Dispatcher.{slot_count}
use Rattle.model.specs.Presses.{admitted_mixed, not_taken, refuse_pressed, stepped_pressed, state_under, turn_under}
use Rattle.wellformed.specs.WellFormed.{well_mixed}
use Rattle.wellformed.specs.Admitted.{admitted_by_iff}
use Rattle.patterns.specs.TakenArrivals.{belongs_under}
use Rattle.patterns.specs.PressAccounts.{slots_are}

module _ (t : Table) (m : Measure) (well : judged_mixed t ≡ Ok m) (done : ℕ → Bool) (pressed : ℕ → ℕ) (n : ℕ) where
  pub history_admitted : n ≤ slot_count_limit → admitted_mixed t (state_under t done pressed n) ≡ Ok tt
  unfolding admitted_mixed
  history_admitted h =
      let r = (well_mixed t m well).ranged in
      let b = belongs_under t r done pressed n in
      (admitted_by_iff t (state_under t done pressed n) (judged_mixed t)).1
      ((m, well), record { each = b.each; ran = b.ran; room = omega (arith, slots_are t r done pressed n) })

  pub never_refused : n < slot_count_limit → stepped_pressed t (state_under t done pressed n) (done n) (pressed n)
      ≡ record {
        answer = Ok (turn_under t done pressed n);
        untaken = not_taken t (state_under t done pressed n) (pressed n);
        state = state_under t done pressed (suc n);
      }
  unfolding stepped_pressed state_under
  never_refused h =
      rw (
        history_admitted (omega arith),
        ne_eqb (slot_count t (state_under t done pressed n)) slot_count_limit
            (λ e. absurd (omega (arith, slots_are t (well_mixed t m well).ranged done pressed n))),
      )

  -- The step after the last that can be counted is refused by 9.
  pub full : n ≡ slot_count_limit → stepped_pressed t (state_under t done pressed n) (done n) (pressed n)
      ≡ refuse_pressed (refusal 9 0) (state_under t done pressed n) (pressed n)
  unfolding stepped_pressed
  full e =
      rw (
        history_admitted (omega arith),
        eq-eqb (slot_count t (state_under t done pressed n)) slot_count_limit
            (omega (arith, slots_are t (well_mixed t m well).ranged done pressed n)),
      )
