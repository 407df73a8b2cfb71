-- HORIZON (`late_soon`): without overload, load exactly 1 included, if some deadline of a table that keeps its ranges is late, some deadline within
-- the horizon is.
use Rattle.std.specs.Prelude.{◌≡◌, ℕ, ◌+◌, ◌-◌, ◌*◌, ◌≤◌, ◌<◌, T}
use Rattle.std.proofs.Common.{sym, ap, subst, sub-add_cancel, arith}
use Rattle.std.proofs.Math.Decide.{dec_le}
use Rattle.values.specs.declared.Table.{Table}
use Rattle.model.specs.Tasks.{round, load, horizon}
use Rattle.model.specs.Demand.{late_at}
use Rattle.model.specs.Run.{tie_order}
use Rattle.counting.specs.Search.{strong}
use Rattle.wellformed.specs.Ranges.{Ranged}
use Rattle.backlog.specs.Streams.{left}
use Rattle.backlog.specs.Criterion.{Late, Over, late_of_left, left_of_late, late_iff_over}
use Rattle.backlog.specs.System.{System, spread}
use Rattle.backlog.proofs.System.{jobs, dues}
use Rattle.backlog.proofs.ModelRun.{served_of, model_run}
use Rattle.backlog.specs.Shift.{Cycle, horizon_of, Light}
use Rattle.backlog.proofs.Shift.{left_later}
use Rattle.backlog.proofs.TableSystem.{load_is, horizon_is, tie_system, tie_cycle}
use Rattle.backlog.proofs.EveryInstant.{over_iff}

module _ (S : System) (Y : Cycle S) (light : Light S Y) where
  abbrev LateBy : ℕ → Type 0
  LateBy t = Late (jobs S) (dues S) (served_of S) t

  -- What is late a round later was late now.
  late_down : (t : ℕ) → Y.start + Y.round ≤ t → LateBy (t + Y.round) → LateBy t
  late_down t h p =
      let e : (dues S).cut (t + Y.round) ≡ (dues S).cut t + spread S * Y.round = omega arith in
      late_of_left (jobs S) (dues S) (served_of S) t
      (omega (
        arith,
        left_later S Y (served_of S) (model_run S) light ((dues S).cut t) t h,
        left_of_late (jobs S) (dues S) (served_of S) (t + Y.round) p,
        ap (λ (x : ℕ). left (jobs S) (served_of S) x (t + Y.round)) e,
      ))

  soon : (t : ℕ) → LateBy t → (u : ℕ) × (u ≤ horizon_of S Y) × LateBy u
  soon = strong {P = λ t. LateBy t → (u : ℕ) × (u ≤ horizon_of S Y) × LateBy u} step
    where
      step : (t : ℕ) → ((v : ℕ) → v < t → LateBy v → (u : ℕ) × (u ≤ horizon_of S Y) × LateBy u) → LateBy t → (u : ℕ) × (u ≤ horizon_of S Y) × LateBy u
      step t ih p = go (dec_le t (horizon_of S Y))
        where
          go : Dec (t ≤ horizon_of S Y) → (u : ℕ) × (u ≤ horizon_of S Y) × LateBy u
          go (yes h) = (t, h, p)
          go (no h) =
              ih (t - Y.round) (omega (arith, Y.round_pos))
              (late_down (t - Y.round) (omega arith) (subst LateBy (sym (sub-add_cancel {n = t} {m = Y.round} (omega arith))) p))

  -- An interval that asks too much can be had that ends by the horizon.
  pub over_soon : (t : ℕ) → Over (jobs S) (dues S) t → (u : ℕ) × (u ≤ horizon_of S Y) × Over (jobs S) (dues S) u
  over_soon t p =
      let (u, h, q) = soon t ((late_iff_over (jobs S) (dues S) (served_of S) (model_run S) t).1 p) in
      (u, h, (late_iff_over (jobs S) (dues S) (served_of S) (model_run S) u).0 q)

module _ (t : Table) (r : Ranged t) where
  -- The same in the model's words.
  pub late_soon : load t ≤ round t → (to : ℕ) → T (late_at t to) → (u : ℕ) × (u ≤ horizon t) × T (late_at t u)
  late_soon light to h =
      let (u, l, o) = over_soon (tie_system t r) (tie_cycle t r) (omega (arith, load_is t r (tie_order t))) to ((over_iff (tie_system t r) to).0 h) in
      (u, omega (arith, horizon_is t r (tie_order t)), (over_iff (tie_system t r) u).1 o)
