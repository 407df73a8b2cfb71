-- EVERY TASK HAS A WORST RESPONSE (`worst_exists`), where the run meets every deadline.
use Rattle.std.specs.Prelude.{◌≡◌, refl, ℕ, ◌-◌, ◌≤◌, ◌<◌}
use Rattle.std.proofs.Common.{ap, le-mul_of_pos_right, arith}
use Rattle.model.specs.Run.{Worst}
use Rattle.counting.specs.Search.{greatest}
use Rattle.backlog.specs.Criterion.{Met}
use Rattle.backlog.specs.System.{System, size, release_of}
use Rattle.backlog.proofs.Keys.{period_pos}
use Rattle.backlog.proofs.System.{jobs, dues}
use Rattle.backlog.proofs.ModelRun.{served_of}
use Rattle.backlog.specs.Shift.{Cycle, horizon_of}
use Rattle.backlog.proofs.Worst.{Ends, ends, ends_once, worst_is}

module _ (S : System) (met : Met (jobs S) (dues S) (served_of S)) (i : ℕ) (l : i < size S) (Y : Cycle S) where
  -- There is a worst response.
  pub worst_exists : (w : ℕ) × Worst S.table S.rank i w
  worst_exists =
      let (k, m, h) = greatest response (horizon_of S Y) in
      (response k, worst_is S met i l Y (response k) k (ends S met i l k).0 (ends S met i l k).1 refl (seen k h))
    where
      response : ℕ → ℕ
      response j = (ends S met i l j).0 - release_of S i j

      seen : (k : ℕ) → ((j : ℕ) → j ≤ horizon_of S Y → response j ≤ response k) → (j f : ℕ) → Ends S met i l j f → f ≤ horizon_of S Y → f - release_of
          S i j ≤ response k
      seen k h j f d g =
          let e : f ≡ (ends S met i l j).0 = ends_once _ _ i j f (ends S met i l j).0 d (ends S met i l j).1 in
          omega (arith, h j (omega (arith, (ends S met i l j).2, le-mul_of_pos_right j (period_pos S i l))), ap (λ (x : ℕ). x - release_of S i j) e)
