-- A ROUND IS ENOUGH (`skipped`): a walk that stops with no job open has been idle; a round after the last first release it has seen all that follows.
use Rattle.std.specs.Prelude.{◌≡◌, refl, ◌⊎◌, List, Bool, true, false, ℕ, suc, ◌+◌, ◌-◌, ◌≤◌, ◌<◌, T, eqb}
use Rattle.std.proofs.Common.{sym, ap, subst, ◌∙◌, inl, inr, arith}
use Rattle.std.proofs.Math.Decide.{dec_lt}
use Rattle.values.specs.declared.Table.{Table}
use Rattle.model.specs.Tasks.{task, offset, round, load}
use Rattle.model.specs.Run.{tie_order}
use Rattle.model.specs.Dispatcher.{left_of}
use Rattle.model.specs.Idle.{idle_at, first_idle}
use Rattle.counting.specs.Count.{every_iff, eq→eqb}
use Rattle.counting.specs.Search.{largest_le, least_le}
use Rattle.wellformed.specs.Ranges.{Ranged}
use Rattle.backlog.specs.Walk.{walked, Clear}
use Rattle.backlog.specs.WalkWorst.{worst_by}
use Rattle.backlog.proofs.TableSystem.{tie_cycle}
use Rattle.patterns.specs.FirstIdle.{first_idle_lem}
use Rattle.patterns.specs.WalkIdle.{walk_idle_at}
use Rattle.patterns.specs.RoundAgain.{Rests}
use Rattle.patterns.specs.LateAgain.{clear_ever}
use Rattle.patterns.specs.WorstAgain.{worst_ever}
use Rattle.walks.specs.Tally.{Tally, idle_is}
use Rattle.leaps.specs.Turn.{Landing}
use Rattle.leaps.specs.Landed.{is_over, is_late}
use Rattle.leaps.specs.declared.Landed.{Landed}

-- By `again` a round has gone by since the last first release.
abbrev pub Rounded : Table → ℕ → Type 0
Rounded t again = (i : ℕ) → i < t.count → offset (task t i) + round t ≤ again

-- Where a walk may stop: it is over, or no job is open at `again` or later.
abbrev pub Stopped : ℕ → ℕ → Landed → Type 0
Stopped again jobs x = (is_over x.way ≡ true) ⊎ ((is_over x.way ≡ false) × (jobs ≡ 0) × (again ≤ x.time))

abbrev pub Stops : ℕ → ℕ → Landed → Bool → Type 0
Stops again jobs x stopped = (stopped ≡ false → is_over x.way ≡ false) × (stopped ≡ true → Stopped again jobs x)

module _ (t : Table) (r : Ranged t) (light : load t ≤ round t) {n end : ℕ} {releases ready left worst : List ℕ} {jobs : ℕ} {x : Landed}
    (z : Landing t n end releases ready left worst jobs x) where
  abbrev first : ℕ
  first = first_idle t (tie_order t)

  module _ (on : is_over x.way ≡ false) (none : jobs ≡ 0) where
    shut : (i : ℕ) → i < t.count → left_of (walked t x.time) i ≡ 0
    shut i l =
        elim (dec_lt 0 (left_of (walked t x.time) i)) [
          | yes p ↦
              (let (a, m, e) = (z.goes on).1.waiting.found _ (i, l, p, refl) in absurd (omega arith))
          | no p ↦ omega arith
        ]

    -- So the instant is idle, and one has been found.
    pub idle_found : 0 < x.idle
    idle_found =
        let idle = subst T (walk_idle_at t r x.time z.clear)
        ((every_iff (λ i. eqb (left_of (walked t x.time) i) 0) t.count).1 (λ i l. eq→eqb (left_of (walked t x.time) i) 0 (shut i l))) in
        let soon : first ≤ x.time = least_le (λ (v : ℕ). (0 < v) × T (idle_at t (tie_order t) v)) first x.time
        (first_idle_lem t r (tie_order t) light).0 (omega (arith, (z.goes on).0), idle) in
        omega (arith, z.tally.idles, idle_is t x.time soon, (first_idle_lem t r (tie_order t) light).0.0.0)

    module _ {again : ℕ} (rounded : Rounded t again) (past : again ≤ x.time) where
      -- A round before, every task had had its first release.
      abbrev before : ℕ
      before = x.time - round t

      passed : (i : ℕ) → i < t.count → offset (task t i) + round t ≤ x.time
      passed i l = omega (arith, rounded i l)

      later : x.time ≡ before + round t
      later = omega (arith, passed 0 r.some)

      rests : Rests t r (tie_cycle t r) before
      rests = record {
        started = largest_le t.count _ before (λ i l. omega (arith, passed i l));
        clear = subst (Clear t) later z.clear;
        shut = subst (λ (v : ℕ). (i : ℕ) → i < t.count → left_of (walked t v) i ≡ 0) later shut;
      }

      clear : (v : ℕ) → Clear t v
      clear = clear_ever t r (tie_cycle t r) before rests

      tally : Tally t end worst x.idle
      tally =
          let soon : _ = (first_idle_lem t r (tie_order t) light).1 in
          record {
            worsts = z.tally.worsts ∙ ap (worst_by t) later ∙ sym (worst_ever t r (tie_cycle t r) before rests end (omega (arith, later, z.upto)));
            idles = z.tally.idles ∙ idle_is t x.time (omega (arith, later)) ∙ sym (idle_is t end (omega (arith, later, z.upto)));
          }

  -- Where the walk stops and no deadline is late, it has seen all up to its end.
  pub skipped : {again : ℕ} → Rounded t again → is_late x.way ≡ false → Stopped again jobs x → Tally t end worst x.idle × Clear t (suc end)
  skipped rounded calm (inl over) = let (e, c) = z.ends over calm in (subst (λ (v : ℕ). Tally t v worst x.idle) e z.tally, rw e at c)
  skipped rounded calm (inr (on, none, past)) = (tally on none rounded past, clear on none rounded past (suc end))
