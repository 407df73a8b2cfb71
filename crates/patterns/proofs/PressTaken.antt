-- WHICH PRESSES ARE TAKEN (`taken_iff`): one of a button exactly if no press of it was taken within its spacing before. Of any table that keeps its ranges.
use Rattle.std.specs.Prelude.{◌≡◌, ◌⊎◌, ◌↔◌, Bool, not, ◌&&◌, T, ltb, eqb}
use Rattle.std.proofs.Math.Path.{refl}
use Rattle.std.proofs.Common.{◌∙◌, eq-zero-or-pos, arith, lt-ltb}
use Rattle.std.proofs.Math.Logic.{inl, inr}
use Rattle.std.proofs.Math.Bool.{true, false, cond}
use Prim.Native.Nat.{ℕ, zero, suc, ◌+◌, ◌-◌, ◌≤◌, ◌<◌}
use Rattle.std.proofs.Math.Nat.{le_step, le_refl}
use Rattle.values.specs.declared.Table.{Table}
use Rattle.model.specs.Limits.{task_limit}
use Rattle.model.specs.Notation.{in_set}
use Rattle.model.specs.Tasks.{task, is_button}
use Rattle.model.specs.Dispatcher.{State, wait_of}
use Rattle.model.specs.Presses.{takes, not_taken, comes, state_under, arrivals}
use Rattle.counting.specs.Count.{and_iff, eq→eqb}
use Rattle.counting.specs.Bits.{in_bits}
use Rattle.wellformed.specs.Ranges.{Ranged}
use Rattle.backlog.specs.Taken.{wait_start}
use Rattle.patterns.proofs.ButtonsAlone.{button_from_0}
use Rattle.patterns.specs.TakenArrivals.{wait, wait_next, taken_respects}

module _ (t : Table) (r : Ranged t) (done : ℕ → Bool) (pressed : ℕ → ℕ) (i : ℕ) (l : i < t.count) (e : is_button (task t i) ≡ true) where
  -- A button that waits was pressed, and its wait tells when.
  abbrev Waits : ℕ → Type 0
  Waits n = (wait t r done pressed i l n ≡ 0) ⊎ ((u : ℕ) × (u < n) × T (arrivals t done pressed i u) ×
      (wait t r done pressed i l n + n ≡ u + (task t i).period))

  waits : (n : ℕ) → Waits n
  unfolding state_under
  waits zero = inl (wait_start t r i l ∙ button_from_0 (task t i).sort e)
  waits (suc n) = go (arrivals t done pressed i n) refl (wait_next t r done pressed i l n) (waits n)
    where
      go : (c : Bool) → arrivals t done pressed i n ≡ c → wait t r done pressed i l (suc n)
          ≡ cond c (task t i).period (wait t r done pressed i l n) - 1 → Waits n → Waits (suc n)
      go true q w h = inr (n, le_refl (suc n), rw q tt, omega (arith, (r.each i l).period_pos))
      go false q w (inl z) = inl (omega arith)
      go false q w (inr (u, a, b, c)) =
          elim (eq-zero-or-pos (wait t r done pressed i l n)) [ inl z ↦ inl (omega arith) | inr z ↦ inr (u, le_step a, b, omega arith) ]

  pub taken_iff : (n : ℕ) → T (arrivals t done pressed i n)
      ↔ (T (in_set (pressed n) i) × ((u : ℕ) → u < n → T (arrivals t done pressed i u) → u + (task t i).period ≤ n))
  taken_iff n = (
    λ h. (((and_iff (in_set (pressed n) i) _).0 (rw e at h)).0, λ u a b. (taken_respects t r done pressed).spaced i u n l e b h a),
    λ (h, far). rw (e, lt-ltb i t.count l) ((and_iff (in_set (pressed n) i) _).1 (h, eq→eqb (wait t r done pressed i l n) 0 (free far (waits n)))),
  )
    where
      free : ((u : ℕ) → u < n → T (arrivals t done pressed i u) → u + (task t i).period ≤ n) → Waits n → wait t r done pressed i l n ≡ 0
      free far (inl z) = z
      free far (inr (u, a, b, c)) = omega (arith, far u a b)

-- A press is told as not taken, unless it is of a button of the table whose job comes.
pub told_iff : (t : Table) (d : State) (pressed i : ℕ) → i < task_limit
    → in_set (not_taken t d pressed) i ≡ (in_set pressed i && not (ltb i t.count && (is_button (task t i) && comes t d pressed i)))
unfolding not_taken
told_iff t d pressed i l =
    in_bits (λ k. in_set pressed k && not (takes t d pressed k)) task_limit i l
    ∙ go (in_set pressed i) (ltb i t.count) (is_button (task t i)) (eqb (wait_of d i) 0)
  where
    go : (s c b z : Bool) → (s && not (s && (c && (b && z)))) ≡ (s && not (c && (b && cond b (s && (c && (b && z))) z)))
    go false c b z = refl
    go true false b z = refl
    go true true false z = refl
    go true true true z = refl
