-- THE LOOP UNDER PRESSES (`steps`): the exported start and steps that take presses, in one buffer and on the file of a well-formed table of both sorts, are
-- the dispatcher's history under these presses, for as long as its slots can be counted.
use Rattle.std.specs.Prelude.{◌≡◌, List, Bool, not, eqb, length, replicate, Ok}
use Rattle.std.proofs.Math.Path.{refl, ap}
use Rattle.std.proofs.Common.{sym, ◌∙◌, arith}
use Prim.Native.Nat.{ℕ, zero, suc, ◌+◌, ◌*◌, ◌/◌, ◌%◌, ◌≤◌, ◌<◌}
use Rattle.std.proofs.lemmas.List.{length-replicate}
use Rattle.values.specs.declared.Table.{Table}
use Rattle.values.specs.declared.Measure.{Measure}
use Rattle.values.specs.declared.Turn.{Turn}
use Rattle.model.specs.Limits.{task_limit, word_limit, slot_count_limit}
use Rattle.model.specs.Notation.{count}
use Rattle.model.specs.Tasks.{judged_mixed}
use Rattle.model.specs.TableFile.{four, eight, form_of}
use Rattle.model.specs.Dispatcher.{State, given_of, start_of}
use Rattle.model.specs.Presses.{started_mixed, stepped_pressed, not_taken, after_come, state_under, owner_under, turn_under}
use Rattle.model.specs.Report.{Exported}
use Rattle.model.specs.StateBuffer.{counts_at, state_bytes, buffer_of, state_in, quiet, start_written}
use Rattle.model.specs.PressBuffer.{press_written, press_start_exported, press_step_exported, handed_pressed}
use Rattle.counting.specs.Fill.{fill_ahead, fill_passed, get_d_same}
use Rattle.wellformed.specs.Ranges.{Ranged}
use Rattle.wellformed.specs.WellFormed.{well_mixed}
use Rattle.patterns.specs.TakenArrivals.{belongs_under}
use Rattle.patterns.specs.PressAccounts.{empty_is, given_is, slots_are}
use Rattle.patterns.specs.PressNeverRefused.{never_refused}
use Rattle.statebuffer.specs.RoundTrip.{turn_back, Fits, state_back, buffer_size}
use Rattle.statebuffer.specs.Loop.{PastNone, belongs_fits, told_small, on_table}
use Rattle.telling.specs.PressApart.{low_is, owner_low}

-- Every state of a history fits its buffer.
past_under : (t : Table) (done : ℕ → Bool) (pressed : ℕ → ℕ) (n : ℕ) → PastNone t (state_under t done pressed n)
unfolding state_under start_of after_come
past_under t done pressed zero i l = (fill_ahead t.count _ _ i 0 l ∙ get_d_same task_limit 0 i, get_d_same task_limit 0 i, get_d_same task_limit 0 i)
past_under t done pressed (suc n) i l =
    let before = past_under t done pressed n i l in
    (fill_ahead t.count _ _ i 0 l ∙ before.0, fill_ahead t.count _ _ i 0 l ∙ before.1, fill_ahead t.count _ _ i 0 l ∙ before.2)

fits_under : (t : Table) → Ranged t → (done : ℕ → Bool) (pressed : ℕ → ℕ) (n : ℕ) → n ≤ slot_count_limit → Fits (state_under t done pressed n)
fits_under t r done pressed n h =
    belongs_fits t r (state_under t done pressed n) (belongs_under t r done pressed n) (past_under t done pressed n)
    (omega (arith, slots_are t r done pressed n))

module _ (file : List ℕ) (t : Table) (m : Measure) (formed : (form_of file).admission ≡ Ok tt) (held : (form_of file).table ≡ t)
    (well : judged_mixed t ≡ Ok m) (lent : List ℕ) (size : length lent ≡ state_bytes) (done pressed : ℕ → ℕ) where
  r : Ranged t
  r = (well_mixed t m well).ranged

  -- What step n is told.
  abbrev reports : ℕ → Bool
  reports n = not (eqb (done n) 0)

  abbrev state : ℕ → State
  state = state_under t reports pressed

  abbrev told : ℕ → Turn
  told = turn_under t reports pressed

  abbrev untaken : ℕ → ℕ
  untaken n = not_taken t (state n) (pressed n)

  pub starts : press_start_exported file lent ≡ record { number = 0; buffer = buffer_of (state_under t reports pressed 0) quiet }
  unfolding started_mixed state_under
  starts =
      on_table state_bytes file lent t (λ k. let d = started_mixed k (state_in lent) in start_written lent d.state d.admission) formed held size
      ∙ rw well refl

  stepped_in : (n : ℕ) → n < slot_count_limit → (buffer : List ℕ) (u : Turn) → buffer ≡ buffer_of (state n) u
      → press_step_exported file buffer (done n) (pressed n)
      ≡ record { number = word_limit * untaken n + (told n).owner; buffer = buffer_of (state (suc n)) (told n) }
  stepped_in n h buffer u e =
      on_table state_bytes file buffer t
      (λ k. let s = stepped_pressed k (state_in buffer) (reports n) (pressed n) in press_written buffer s.state s.untaken s.answer) formed held
      (ap length e ∙ buffer_size _ u (fits_under t r reports pressed n (omega arith)))
      ∙ rw (e, state_back _ u (fits_under t r reports pressed n (omega arith)), never_refused t m well reports pressed n h)

  holds : (n : ℕ) → n ≤ slot_count_limit → (u : Turn) × (handed_pressed file lent done pressed n ≡ buffer_of (state n) u)
  unfolding handed_pressed
  holds zero h = (quiet, ap (λ (e : Exported). e.buffer) starts)
  holds (suc n) h =
      let (u, e) = holds n (omega arith) in
      (told n, ap (λ (x : Exported). x.buffer) (stepped_in n (omega arith) (handed_pressed file lent done pressed n) u e))

  pub steps : (n : ℕ) → n < slot_count_limit → press_step_exported file (handed_pressed file lent done pressed n) (done n) (pressed n)
      ≡ record {
        number = word_limit * not_taken t (state_under t reports pressed n) (pressed n) + owner_under t reports pressed n;
        buffer = buffer_of (state_under t reports pressed (suc n)) (turn_under t reports pressed n);
      }
  steps n h = let (u, e) = holds n (omega arith) in stepped_in n h (handed_pressed file lent done pressed n) u e

  -- What the host reads of the number: the presses that were not taken, and the owner.
  pub reads : (n : ℕ) → n < slot_count_limit
      → let x = (press_step_exported file (handed_pressed file lent done pressed n) (done n) (pressed n)).number in
      (x / word_limit ≡ not_taken t (state_under t reports pressed n) (pressed n)) × (x % word_limit ≡ owner_under t reports pressed n)
  reads n h = rw (steps n h) (low_is (untaken n) (owner_under t reports pressed n) (owner_low t r (state n) (reports n) (pressed n)).0)

  -- What the host reads in the buffer: the late set, its count and its lowest task.
  pub said : (n : ℕ) → n < slot_count_limit → let u = turn_under t reports pressed n in
      let b = handed_pressed file lent done pressed (suc n) in
      (four b (8 * task_limit + 4) ≡ u.late) × (four b (8 * task_limit + 8) ≡ u.closed) × (four b (8 * task_limit + 12) ≡ u.lowest)
  unfolding handed_pressed
  said n h =
      let e : handed_pressed file lent done pressed (suc n) ≡ buffer_of (state (suc n)) (told n) = ap (λ (x : Exported). x.buffer) (steps n h) in
      rw e (turn_back (state (suc n)) (told n) (fits_under t r reports pressed (suc n) h) small.0 small.1 small.2)
    where
      small : ((told n).late < word_limit) × ((told n).closed < word_limit) × ((told n).lowest < word_limit)
      small = told_small t (state n) (reports n) (owner_under t reports pressed n)

  -- After n steps the counts in the buffer are those of the history of owners.
  pub counts : (n : ℕ) → n ≤ slot_count_limit → let b = handed_pressed file lent done pressed n in
      ((i : ℕ) → i < t.count → eight b (counts_at + 8 * i) ≡ count (λ k. eqb (owner_under t reports pressed k) i) n)
      × (eight b (counts_at + 8 * task_limit) ≡ count (λ k. eqb (owner_under t reports pressed k) task_limit) n)
  unfolding state_in
  counts n h = (
    λ i l. given_read i (omega (arith, r.few)) ∙ ap (λ (d : State). given_of d i) held_state ∙ given_is t r reports pressed n i l,
    ap (λ (d : State). d.empty) held_state ∙ empty_is t reports pressed n,
  )
    where
      held_state : state_in (handed_pressed file lent done pressed n) ≡ state n
      held_state = let (u, e) = holds n h in rw e (state_back (state n) u (fits_under t r reports pressed n h))

      given_read : (i : ℕ) → i < task_limit
          → eight (handed_pressed file lent done pressed n) (counts_at + 8 * i) ≡ given_of (state_in (handed_pressed file lent done pressed n)) i
      given_read i l =
          sym (fill_passed task_limit (λ k. eight (handed_pressed file lent done pressed n) (counts_at + 8 * k)) (replicate task_limit 0) i 0 l
          (omega (arith, length-replicate {A = ℕ} task_limit 0)))
