-- WHERE A SEARCH BY LEAPS ENDED (`quiet_ended`): as a walk of the exact test does; or, if only an idle instant was asked for, once there was one.
use Rattle.std.specs.Prelude.{◌≡◌, refl, ◌⊎◌, List, Bool, true, false, ℕ, ◌-◌, ◌≤◌, ◌<◌, T}
use Rattle.std.proofs.Common.{inl, inr}
use Rattle.values.specs.declared.Table.{Table}
use Rattle.model.specs.Tasks.{round, load}
use Rattle.model.specs.Demand.{demand, asks_too_much, late_at}
use Rattle.wellformed.specs.Ranges.{Ranged}
use Rattle.backlog.specs.Walk.{Clear}
use Rattle.walks.specs.Tally.{Tally, idle_by}
use Rattle.walks.specs.Course.{Quiet, Late}
use Rattle.walks.specs.declared.Course.{Course}
use Rattle.leaps.specs.Turn.{Landing}
use Rattle.leaps.specs.Skipping.{Rounded, Stopped, idle_found, skipped}
use Rattle.leaps.specs.Landed.{is_late}
use Rattle.leaps.specs.declared.Landed.{Landed}

abbrev pub Ended : Table → ℕ → Course → Type 0
Ended t end c = Tally t c.at c.worst c.idle × (Quiet t end c ⊎ Late t end c)

-- At some instant a deadline was late, or the walk at its end, or an idle instant found.
abbrev pub Idled : Table → ℕ → ℕ → Type 0
Idled t end idle = (n : ℕ) × Clear t n × (idle ≡ idle_by t n) × (T (late_at t n) ⊎ ((n ≡ end) ⊎ (0 < idle)))

module _ (t : Table) (r : Ranged t) (light : load t ≤ round t) {n end : ℕ} {releases ready left worst : List ℕ} {jobs : ℕ} {x : Landed}
    (z : Landing t n end releases ready left worst jobs x) where
  -- At a late deadline, with its start.
  pub late_ended : is_late x.way ≡ true → (from asked : ℕ) → from < x.time → asked ≡ demand t from x.time → x.time - from < asked
      → ((later : ℕ) → from < later → later < x.time → T (asks_too_much t later x.time) → ⊥)
      → Ended t end (record { from = from; asked = asked; at = x.time; worst = worst; idle = x.idle })
  late_ended late from asked before asks much last = (
    z.tally,
    inr (record { upto = z.upto; clear = z.clear; late = z.late late; before = before; asks = asks; much = much; last = last }),
  )

  module _ {again : ℕ} (stopped : Stopped again jobs x) where
    pub quiet_ended : Rounded t again → is_late x.way ≡ false → (from asked at : ℕ) → asked ≡ 0 → at ≡ end
        → Ended t end (record { from = from; asked = asked; at = at; worst = worst; idle = x.idle })
    quiet_ended rounded calm from asked at none at_end_lem =
        let (tally, clear) = skipped t r light z rounded calm stopped in
        rw at_end_lem (tally, inl (record { none = none; clear = clear; ends = refl }))

    pub idled : Idled t end x.idle
    idled = (x.time, z.clear, z.tally.idles, by (is_late x.way) refl)
      where
        by : (late : Bool) → is_late x.way ≡ late → T (late_at t x.time) ⊎ ((x.time ≡ end) ⊎ (0 < x.idle))
        by true e = inl (z.late e)
        by false e = inr (elim stopped [
          | inl over ↦ inl (z.ends over e).0
          | inr (on, none, past) ↦ inr (idle_found t r light z on none)
        ])
