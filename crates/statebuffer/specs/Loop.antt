-- A camera's own loop: a start and steps in one buffer are the dispatcher's history, for as long as its slots can be counted.
use Rattle.std.specs.Prelude.{◌≡◌, List, Bool, not, eqb, length, get_or, replicate, Ok}
use Rattle.std.proofs.Math.Path.{refl, ap}
use Rattle.std.proofs.Common.{sym, ◌∙◌, eq-eqb}
use Rattle.std.proofs.Math.Logic.{inl, inr}
use Prim.Native.Nat.{ℕ, zero, suc, ◌+◌, ◌*◌, ◌≤◌, ◌<◌}
use Rattle.std.proofs.Math.Decide.{dec_lt}
use native.Mathlib.Omega.{arith}
use Rattle.std.proofs.lemmas.List.{length-replicate}
use Rattle.values.specs.declared.Table.{Table}
use Rattle.values.specs.declared.Measure.{Measure}
use Rattle.values.specs.declared.Turn.{Turn}
use Rattle.model.specs.Limits.{task_limit, word_limit, budget_limit, slot_count_limit}
use Rattle.model.specs.Notation.{count}
use Rattle.model.specs.Tasks.{judged}
use Rattle.model.specs.TableFile.{four, eight, form_of}
use Rattle.model.specs.Run.{tie_order}
use Rattle.model.specs.Dispatcher.{State, given_of, slot_count, started, stepped, turn, turn_by, is_late, slot_told}
use Rattle.model.specs.History.{state_at, state_at_by, owner_at}
use Rattle.model.specs.Report.{Exported}
use Rattle.model.specs.StateBuffer.{counts_at, state_bytes, buffer_of, state_in, quiet}
use Rattle.model.specs.StateBuffer.{start_written, step_written, on_file, start_exported, step_exported, handed}
use Rattle.counting.specs.Bits.{bits_lt}
use Rattle.counting.specs.Search.{first_le}
use Rattle.counting.specs.Count.{count_bound, one_of_iff}
use Rattle.counting.specs.Fill.{fill_passed}
use Rattle.counting.specs.Sum.{sum_member}
use Rattle.wellformed.specs.Ranges.{Ranged}
use Rattle.wellformed.specs.WellFormed.{well_formed}
use Rattle.backlog.specs.Taken.{Belongs, known}
use Rattle.backlog.proofs.Stepping.{sound, past_none}
use Rattle.backlog.proofs.Accounts.{empty_is, given_is, slots_are}
use Rattle.backlog.proofs.NeverRefused.{never_refused}
use Rattle.statebuffer.specs.RoundTrip.{turn_back, Fits, state_back, buffer_size}

-- What stands past the table's last task is 0.
abbrev pub PastNone : Table → State → Type 0
PastNone t d = (i : ℕ) → t.count ≤ i → (get_or d.wait i 0 ≡ 0) × (get_or d.left i 0 ≡ 0) × (get_or d.given i 0 ≡ 0)

-- A state that belongs to its table, with nothing past the last task and no slot too many, fits its buffer.
module _ (t : Table) (r : Ranged t) (d : State) (b : Belongs t d) (past : PastNone t d) (room : slot_count t d ≤ slot_count_limit) where
  wait_small : (i : ℕ) → get_or d.wait i 0 < word_limit
  wait_small i = elim (dec_lt i t.count) [
    | yes l ↦ omega (arith, (known t d b i l).wait_le, (r.each i l).offset_le, (r.each i l).period_le)
    | no l ↦ omega (arith, (past i (omega arith)).0)
  ]

  left_small : (i : ℕ) → get_or d.left i 0 < word_limit
  left_small i = elim (dec_lt i t.count) [
    | yes l ↦ omega (arith, (known t d b i l).left_le, (r.each i l).cost_le, (r.each i l).deadline_le, (r.each i l).period_le)
    | no l ↦ omega (arith, (past i (omega arith)).1)
  ]

  given_small : (i : ℕ) → get_or d.given i 0 < budget_limit
  unfolding slot_count
  given_small i = elim (dec_lt i t.count) [
    | yes l ↦ omega (arith, room, sum_member t.count (given_of d) i l)
    | no l ↦ omega (arith, (past i (omega arith)).2)
  ]

  pub belongs_fits : Fits d
  unfolding slot_count
  belongs_fits = record {
    waits = b.waits;
    lefts = b.lefts;
    gives = b.gives;
    wait_fits = λ i l. wait_small i;
    left_fits = λ i l. left_small i;
    last_fits = elim ((one_of_iff d.last task_limit t.count).0 b.ran) [ inl e ↦ omega arith | inr l ↦ omega (arith, r.few) ];
    given_fits = λ i l. given_small i;
    empty_fits = omega (arith, room);
  }

-- Every state of a history does.
pub fits : (t : Table) → Ranged t → (done : ℕ → Bool) (n : ℕ) → n ≤ slot_count_limit → Fits (state_at t done n)
fits t r done n h =
    belongs_fits t r (state_at t done n) (sound t r (tie_order t) done n).belongs (past_none t (tie_order t) done n)
    (omega (arith, slots_are t r (tie_order t) done n))

-- What a step says fits into words, whoever has the slot.
pub told_small : (t : Table) (d : State) (done : Bool) (owner : ℕ) → let u = slot_told t d done owner in
    (u.late < word_limit) × (u.closed < word_limit) × (u.lowest < word_limit)
told_small t d done owner = (
  bits_lt (is_late t d done) task_limit,
  omega (arith, count_bound (is_late t d done) task_limit),
  omega (arith, first_le (is_late t d done) 0 task_limit),
)

-- A file whose form is good and a buffer of the right length lead to the table.
pub on_table : (bytes : ℕ) (file buffer : List ℕ) (t : Table) (go : Table → Exported) → (form_of file).admission ≡ Ok tt
    → (form_of file).table ≡ t → length buffer ≡ bytes → on_file bytes file buffer go ≡ go t
on_table bytes file buffer t go formed held size = rw (eq-eqb (length buffer) bytes size, formed, held, on_file)

module _ (file : List ℕ) (t : Table) (m : Measure) (formed : (form_of file).admission ≡ Ok tt) (held : (form_of file).table ≡ t)
    (well : judged t ≡ Ok m) (lent : List ℕ) (size : length lent ≡ state_bytes) (done : ℕ → ℕ) where
  r : Ranged t
  r = (well_formed t m well).ranged

  -- What step n is told.
  abbrev reports : ℕ → Bool
  reports n = not (eqb (done n) 0)

  pub starts : start_exported file lent ≡ record { number = 0; buffer = buffer_of (state_at t reports 0) quiet }
  unfolding started state_at_by
  starts =
      on_table state_bytes file lent t (λ k. let d = started k (state_in lent) in start_written lent d.state d.admission) formed held size ∙ rw well refl

  abbrev told : ℕ → Turn
  told n = turn t (state_at t reports n) (reports n)

  stepped_in : (n : ℕ) → n < slot_count_limit → (buffer : List ℕ) (u : Turn) → buffer ≡ buffer_of (state_at t reports n) u
      → step_exported file buffer (done n) ≡ record { number = (told n).owner; buffer = buffer_of (state_at t reports (suc n)) (told n) }
  stepped_in n h buffer u e =
      on_table state_bytes file buffer t (λ k. let s = stepped k (state_in buffer) (reports n) in step_written buffer s.state s.answer) formed held
      (ap length e ∙ buffer_size _ u (fits t r reports n (omega arith)))
      ∙ rw (e, state_back _ u (fits t r reports n (omega arith)), never_refused t m well (tie_order t) reports n h)

  holds : (n : ℕ) → n ≤ slot_count_limit → (u : Turn) × (handed file lent done n ≡ buffer_of (state_at t reports n) u)
  unfolding handed
  holds zero h = (quiet, ap (λ (e : Exported). e.buffer) starts)
  holds (suc n) h = let (u, e) = holds n (omega arith) in (told n, ap (λ (x : Exported). x.buffer) (stepped_in n (omega arith) (handed file lent done n) u e))

  pub steps : (n : ℕ) → n < slot_count_limit → step_exported file (handed file lent done n) (done n)
      ≡ record { number = owner_at t reports n; buffer = buffer_of (state_at t reports (suc n)) (turn t (state_at t reports n) (reports n)) }
  unfolding turn_by
  steps n h = let (u, e) = holds n (omega arith) in stepped_in n h (handed file lent done n) u e

  -- What the host reads of step n: the late set, its count and its lowest task.
  pub said : (n : ℕ) → n < slot_count_limit → let u = turn t (state_at t reports n) (reports n) in
      let b = handed file lent done (suc n) in
      (four b (8 * task_limit + 4) ≡ u.late) × (four b (8 * task_limit + 8) ≡ u.closed) × (four b (8 * task_limit + 12) ≡ u.lowest)
  unfolding handed turn_by
  said n h =
      let e : handed file lent done (suc n) ≡ buffer_of (state_at t reports (suc n)) (told n) = ap (λ (x : Exported). x.buffer) (steps n h) in
      rw e (turn_back (state_at t reports (suc n)) (told n) (fits t r reports (suc n) h) small.0 small.1 small.2)
    where
      small : ((told n).late < word_limit) × ((told n).closed < word_limit) × ((told n).lowest < word_limit)
      small = told_small t (state_at t reports n) (reports n) (owner_at t reports n)

  -- After n steps the counts in the buffer are those of the history of owners.
  pub counts : (n : ℕ) → n ≤ slot_count_limit → let b = handed file lent done n in
      ((i : ℕ) → i < t.count → eight b (counts_at + 8 * i) ≡ count (λ k. eqb (owner_at t reports k) i) n)
      × (eight b (counts_at + 8 * task_limit) ≡ count (λ k. eqb (owner_at t reports k) task_limit) n)
  unfolding state_in
  counts n h = (
    λ i l. given_read i (omega (arith, r.few)) ∙ ap (λ (d : State). given_of d i) held_state ∙ given_is t r (tie_order t) reports n i l,
    ap (λ (d : State). d.empty) held_state ∙ empty_is t (tie_order t) reports n,
  )
    where
      held_state : state_in (handed file lent done n) ≡ state_at t reports n
      held_state = let (u, e) = holds n h in rw e (state_back (state_at t reports n) u (fits t r reports n h))

      given_read : (i : ℕ) → i < task_limit → eight (handed file lent done n) (counts_at + 8 * i) ≡ given_of (state_in (handed file lent done n)) i
      given_read i l =
          sym (fill_passed task_limit (λ k. eight (handed file lent done n) (counts_at + 8 * k)) (replicate task_limit 0) i 0 l
          (omega (arith, length-replicate {A = ℕ} task_limit 0)))
