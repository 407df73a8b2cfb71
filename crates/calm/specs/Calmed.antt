-- CALM BY A WALK (`calmed`): a walk to the first idle instant that may go as far as H finds one exactly if the table is calm.
use Rattle.std.specs.Prelude.{◌≡◌, ◌⊎◌, Bool, ℕ, ◌≤◌, ◌<◌, T}
use Rattle.std.proofs.Common.{inl, inr, arith}
use Rattle.std.proofs.Math.Decide.{dec_lt}
use Rattle.values.specs.declared.Table.{Table}
use Rattle.model.specs.Tasks.{round, load}
use Rattle.model.specs.Run.{tie_order}
use Rattle.model.specs.Demand.{late_at}
use Rattle.model.specs.Idle.{first_idle}
use Rattle.model.specs.Patterns.{calm}
use Rattle.counting.specs.Count.{same_test}
use Rattle.wellformed.specs.Ranges.{Ranged}
use Rattle.patterns.specs.FirstIdle.{first_idle_lem}
use Rattle.patterns.specs.Calm.{calm_iff}
use Rattle.patterns.specs.WalkCalm.{walk_calm}
use Rattle.walks.specs.Tally.{idle_by, idle_by_lem, idle_is}
use Rattle.leaping.specs.Ended.{Idled}

module _ (t : Table) (r : Ranged t) (light : load t ≤ round t) {end idle : ℕ} (far : round t ≤ end) (w : Idled t end idle) where
  pub calmed : (found : Bool) → (T found → 0 < idle) → (0 < idle → T found) → found ≡ calm t
  calmed found one all =
      let (n, clear, idles, way) = w in
      same_test found (calm t) (λ h. walk_calm t r light n clear (idle_by_lem t n (omega (arith, idles, one h))))
      (λ h. elim (dec_lt 0 idle) [ yes p ↦ all p | no p ↦ absurd (missed n idles way p h) ])
    where
      -- It is before the first idle instant, and so ended at a late deadline.
      early : (n : ℕ) → idle ≡ idle_by t n → ¬ (0 < idle) → n < first_idle t (tie_order t)
      early n idles p = elim (dec_lt n (first_idle t (tie_order t))) [
        | yes l ↦ l
        | no l ↦ absurd (omega (arith, idles, idle_is t n (omega arith), (first_idle_lem t r (tie_order t) light).0.0.0))
      ]

      missed : (n : ℕ) → idle ≡ idle_by t n → T (late_at t n) ⊎ ((n ≡ end) ⊎ (0 < idle)) → ¬ (0 < idle) → T (calm t) → ⊥
      missed n idles (inl late) p h = (calm_iff t r).0 h n (omega (arith, early n idles p)) late
      missed n idles (inr (inl e)) p h = omega (arith, early n idles p, (first_idle_lem t r (tie_order t) light).1)
      missed n idles (inr (inr q)) p h = p q
