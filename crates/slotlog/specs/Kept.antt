-- What a log keeps from a start on: the state of some history of as many slots, and nothing found but what can be told in two words.
use Rattle.std.specs.Prelude.{◌≡◌, refl, false, eqb, Ok}
use Rattle.std.proofs.Math.Path.{ap}
use Rattle.std.proofs.Common.{◌∙◌, add-one, arith}
use mathlib.Core.List.{List, [], ◌∷◌}
use Rattle.std.proofs.Math.Bool.{Bool, cond}
use Prim.Native.Nat.{ℕ, ◌+◌, ◌≤◌}
use borrow.Author.Tests.{eq-eqb, ne_eqb}
use Rattle.values.specs.declared.Table.{Table}
use Rattle.values.specs.declared.Measure.{Measure}
use Rattle.values.specs.declared.Finding.{Finding}
use Rattle.model.specs.Limits.{log_limit}
use Rattle.model.specs.Tasks.{judged}
use Rattle.model.specs.Dispatcher.{State, start_of, after}
use Rattle.model.specs.History.{state_at, state_at_by}
use Rattle.model.specs.Log.{Log, read_byte, read_all, unread}
use Rattle.wellformed.specs.Ranges.{Ranged}
use Rattle.wellformed.specs.WellFormed.{well_formed}
use Rattle.slotlog.specs.Fits.{Fits, after_byte, fits_byte}
use Rattle.slotlog.specs.Cuts.{start_fits}
use Rattle.slotlog.specs.Reading.{same_state}

-- What is found has a number and a place that a byte or a slot can have; only faults are from 40 on.
abbrev pub Told : Finding → Type 0
Told Finding.Nothing = Unit
Told Finding.Good = Unit
Told (Finding.Differs slot) = slot ≤ log_limit
Told (Finding.Fault n p) = (40 ≤ n) × (n ≤ 44) × (p ≤ log_limit)

pub record Kept (t : Table) (l : Log) : Type 0 where
  pub done : ℕ → Bool
  pub state : l.state ≡ state_at t done l.slots
  pub told : Told l.found
  pub fits : Fits t l

module _ (t : Table) (r : Ranged t) where
  -- One report more.
  next : (done : ℕ → Bool) (n : ℕ) (b : Bool) → after t (state_at t done n) b ≡ state_at t (λ k. cond (eqb k n) b (done k)) (n + 1)
  unfolding state_at_by
  next done n b =
      let reports : ℕ → Bool = λ k. cond (eqb k n) b (done k) in
      let before : state_at t reports n ≡ state_at t done n = same_state t reports done n (λ k l. rw (ne_eqb k n (λ e. absurd (omega arith)))) in
      rw (add-one n, before, eq-eqb n n refl)

  History : Log → Type 0
  History l = (done : ℕ → Bool) × (l.state ≡ state_at t done l.slots) × Told l.found

  kept_byte : (l : Log) (b : ℕ) → Kept t l → Kept t (read_byte t l b)
  unfolding History
  kept_byte l b k =
      let (done, state, told) = after_byte t l k.fits.bytes_le History (k.done, k.state, k.told)
      (λ n low high. (k.done, k.state, (low, high, k.fits.bytes_le))) (k.done, k.state, omega (arith, k.fits.slots_le, k.fits.bytes_le))
      (λ room opened report. (k.done, k.state, tt)) (λ room. (k.done, k.state, tt))
      (λ room. (
        λ i. cond (eqb i l.slots) l.done (k.done i),
        ap (λ (d : State). after t d l.done) k.state
            ∙ next k.done l.slots l.done,
        tt,
      )) b in
      record { done = done; state = state; told = told; fits = fits_byte t r l k.fits b }

  kept_all : (l : Log) (s : List ℕ) → Kept t l → Kept t (read_all t l s)
  unfolding read_all
  kept_all l [] k = k
  kept_all l (b ∷ s) k = kept_all (read_byte t l b) s (kept_byte l b k)

pub kept : (t : Table) (m : Measure) → judged t ≡ Ok m → (s : List ℕ) → Kept t (read_all t (unread (start_of t)) s)
unfolding state_at_by
kept t m well s =
    kept_all t (well_formed t m well).ranged (unread (start_of t)) s (record { done = λ k. false; state = refl; told = tt; fits = start_fits t m well })
