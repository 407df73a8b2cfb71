-- NO SLOT IS EMPTY WHILE A JOB WAITS, UNDER PRESSES (`none_waits`): on a table that passes the distance test, where slot n goes to none, every job
-- that arrived by then is finished.
use Rattle.std.specs.Prelude.{◌≡◌, Bool, ℕ, suc, ◌+◌, ◌≤◌, ◌<◌, T}
use Rattle.std.proofs.Common.{ap, ◌∙◌, inl, inr, le_refl, arith, ne_eqb}
use Rattle.std.proofs.Math.Decide.{ℕ_discrete, dec_lt}
use Rattle.values.specs.declared.Table.{Table}
use Rattle.model.specs.Limits.{task_limit}
use Rattle.model.specs.Notation.{count}
use Rattle.model.specs.Tasks.{task}
use Rattle.model.specs.Patterns.{distance_pass}
use Rattle.model.specs.Dispatcher.{State, left_of}
use Rattle.model.specs.Presses.{arrivals, owner_under, FinishedUnder}
use Rattle.counting.specs.Below.{between_none}
use Rattle.wellformed.specs.Ranges.{Ranged}
use Rattle.backlog.specs.History.{Keeps, Goes}
use Rattle.backlog.proofs.ComingHistory.{owner_for, open_for, ready_for, gave_for, told_for}
use Rattle.patterns.proofs.Arrivals.{comes_apart}
use Rattle.patterns.specs.TakenArrivals.{taken_respects}
use Rattle.patterns.proofs.PressHistory.{J, D, rel, onward, press_history, same_state, same_owner, same_told, arrives_at}
use Rattle.patterns.proofs.PressNeverMore.{finished_stays}
use Rattle.patterns.proofs.PressSettled.{finished_iff, gone, settled}
use Rattle.patterns.proofs.PressInTime.{in_time}

module _ (t : Table) (r : Ranged t) (done : ℕ → Bool) (pressed : ℕ → ℕ) (pass : T (distance_pass t)) (n : ℕ)
    (empty : owner_under t done pressed n ≡ task_limit) where
  module _ (i u : ℕ) (l : i < t.count) (x : T (arrivals t done pressed i u)) (p : u ≤ n) where
    -- Where no job can have come since.
    last_waits : n < u + (task t i).deadline → FinishedUnder t done pressed i u n
    last_waits q = go ((press_history t r done pressed (suc n)).slot n)
      where
        soon : n ≤ u + (task t i).period
        soon = omega (arith, (r.each i l).deadline_le)

        ready : ℕ → ℕ → ℕ
        ready = ready_for t done (onward t r done pressed (suc n))

        gave : ℕ → ℕ → ℕ
        gave = gave_for t done (onward t r done pressed (suc n))

        open' : ℕ → ℕ → ℕ
        open' = open_for t done (onward t r done pressed (suc n))

        here : rel t r done pressed (suc n) i (count (arrivals t done pressed i) u) ≡ u
        here = arrives_at t r done pressed (suc n) i u l (omega arith) x

        finished : u < n → open' n i ≡ 0 → FinishedUnder t done pressed i u n
        finished e z = settled t r done pressed pass i u l x n e soon
            (ap (λ (d : State). left_of d i) (same_state t r done pressed (suc n) n (omega arith)) ∙ z)

        closed : u < n → ready n i ≡ 0 → Keeps (J t r done pressed (suc n)) (D t r done pressed (suc n))
            (told_for t done (onward t r done pressed (suc n))) open' ready n i → FinishedUnder t done pressed i u n
        closed e z (inl y) = finished e (omega arith)
        closed e z (inr (y, inl c)) = (finished_iff t done pressed i u n soon).1 (inr (n, e, le_refl n, same_told t r done pressed (suc n) n i (omega arith) c))
        closed e z (inr (y, inr (k, c))) = finished e (omega (arith, gone t r done pressed pass (suc n) i k l, ap (λ (m : ℕ). open' m i) c))

        idle : ready n i ≡ 0 → FinishedUnder t done pressed i u n
        idle z = elim (ℕ_discrete u n) [
          | yes e ↦
              absurd (omega (
                arith,
                (press_history t r done pressed (suc n)).fresh n i (count (arrivals t done pressed i) u) l (here ∙ e),
                (r.each i l).cost_pos,
              ))
          | no e ↦ closed (omega arith) z ((press_history t r done pressed (suc n)).kept n i l
              (between_none (rel t r done pressed (suc n) i) ((J t r done pressed (suc n)).rel_grows i l) n (count (arrivals t done pressed i) u)
              (omega (arith, here))
              (omega (
                arith,
                here,
                comes_apart t (arrivals t done pressed) (taken_respects t r done pressed) (suc n) i
                    (count (arrivals t done pressed i) u) l,
                (r.each i l).deadline_le,
              ))))
        ]

        go : Goes (J t r done pressed (suc n)) ready gave n → FinishedUnder t done pressed i u n
        go (inl z) = idle (z i l)
        go (inr (k, m, y, o, g, w)) = absurd (omega (arith, one g, same_owner t r done pressed (suc n) n (le_refl (suc n)), r.few))
          where
            one : gave n k ≡ 1 → owner_for t done (onward t r done pressed (suc n)) n ≡ k
            one g =
                elim (ℕ_discrete (owner_for t done (onward t r done pressed (suc n)) n) k) [
                  | yes q ↦ q
                  | no q ↦ absurd (let z : gave n k ≡ 0 = rw (ne_eqb (owner_for t done (onward t r done pressed (suc n)) n) k q) in omega arith)
                ]

  pub none_waits : (i u : ℕ) → i < t.count → T (arrivals t done pressed i u) → u ≤ n → FinishedUnder t done pressed i u n
  none_waits i u l x p = elim (dec_lt n (u + (task t i).deadline)) [
    | yes q ↦ last_waits i u l x p q
    | no q ↦ finished_stays t r done pressed i u l x (u + (task t i).deadline) n (omega arith) (in_time t r done pressed pass i u l x)
  ]
