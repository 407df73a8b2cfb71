-- PASS WITH BUTTONS (`mixed_good`): distance pass means that for all arrivals that respect the table some schedule is good.
use Rattle.std.specs.Prelude.{ℕ, T}
use Rattle.values.specs.declared.Table.{Table}
use Rattle.model.specs.Demand.{Arrivals}
use Rattle.model.specs.Schedule.{Schedule}
use Rattle.model.specs.Arrivals.{Respects, GoodFor}
use Rattle.model.specs.Patterns.{distance_pass}
use Rattle.wellformed.specs.Ranges.{Ranged}
use Rattle.backlog.specs.StreamRun.{run_of, stream_run}
use Rattle.patterns.specs.Calm.{calm_on_time}
use Rattle.patterns.proofs.DistancePass.{distance_light, calm_ahead}
use Rattle.patterns.proofs.Arrivals.{comes_at, comes_apart, comes_punctual}
use Rattle.patterns.proofs.OnTheWay.{before, LateBefore, on_time_good}

pub mixed_good : (t : Table) → Ranged t → T (distance_pass t) → (a : Arrivals) → Respects t a → (σ : Schedule) × GoodFor t a σ
mixed_good t r pass a k = on_time_good t r a k on_time
  where
    on_time : (n : ℕ) → LateBefore t r a k n → ⊥
    on_time n =
        let rel = comes_at t a n in
        let apart = comes_apart t a k n in
        calm_on_time t r rel apart (distance_light t pass) (run_of (before t r a k n)) (stream_run (before t r a k n))
        (calm_ahead t r rel apart (comes_punctual t a n) pass) n
