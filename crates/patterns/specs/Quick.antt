-- QUICK PASS (`quick_passes`): it means that the exact test passes the table, with any budget that reaches the horizon.
use Rattle.values.specs.declared.Quick.{Quick}
use Rattle.model.specs.Values.{QuickAnswer, Judgement}
use Rattle.std.specs.Prelude.{◌≡◌, refl, ◌↔◌, Bool, true, false, cond, ℕ, ◌≤◌, T, Ok, Err}
use Rattle.std.proofs.Common.{le_refl, arith}
use Rattle.values.specs.declared.Table.{Table}
use Rattle.values.specs.declared.Measure.{Measure}
use Rattle.values.specs.declared.Verdict.{Verdict}
use Rattle.model.specs.Tasks.{task, release, round, load, horizon}
use Rattle.model.specs.Verdict.{verdict}
use Rattle.model.specs.Patterns.{starting_at, light, calm, simultaneous, quick_pass, quick_judged}
use Rattle.counting.specs.Count.{tests, and_iff}
use Rattle.counting.specs.Below.{below_next}
use Rattle.wellformed.specs.Ranges.{Ranged}
use Rattle.backlog.proofs.System.{jobs}
use Rattle.backlog.proofs.TableSystem.{tie_system}
use Rattle.backlog.specs.TooMuch.{NeverTooMuch, never_iff}
use Rattle.backlog.proofs.Feasible.{Feasible, feasible_iff}
use Rattle.backlog.proofs.Passes.{passes_iff, never_of_passed}
use Rattle.patterns.specs.Starting.{starting_round, starting_load, starting_ranged, starting_again}
use Rattle.patterns.specs.Calm.{calm_iff, calm_never}

-- By the cases of the table and of the test: an answer of pass is a pass of a well-formed table.
pub quick_case : (t : Table) (j : Judgement) → quick_judged t j ≡ Ok Quick.Pass → ((m : Measure) × (j ≡ Ok m)) × T (quick_pass t)
quick_case t (Err r) e = let z : ◌≡◌ {A = ℕ} 0 1 = cc in absurd (omega arith)
quick_case t (Ok m) e = ((m, refl), go (quick_pass t) e)
  where
    go : (b : Bool) → ◌≡◌ {A = QuickAnswer} (cond b (Ok Quick.Pass) (Ok Quick.NoAnswer)) (Ok Quick.Pass) → T b
    go true e = tt
    go false e = let z : ◌≡◌ {A = ℕ} 0 1 = cc in absurd (omega arith)

-- Overload does not pass.
pub quick_light : (t : Table) → T (quick_pass t) → load t ≤ round t
unfolding quick_pass
quick_light t h = omega (tests, ((and_iff (light t) (calm (simultaneous t))).0 h).0)

module _ (t : Table) (r : Ranged t) where
  -- The simultaneous table keeps its ranges.
  pub simultaneous_ranged : Ranged (simultaneous t)
  simultaneous_ranged = starting_ranged t r (λ i. 0) (λ i l. omega arith)

  -- No interval of the table itself asks too much then.
  pub quick_never : T (quick_pass t) → NeverTooMuch t
  unfolding quick_pass
  quick_never h =
      calm_never t r (quick_light t h) (λ from. (
        λ i. 0,
        record {
          low = λ i l. omega arith;
          near = λ i l. omega (arith, below_next (release (task t i)) ((jobs (tie_system t r)).rel_grows i l) from);
          still = ((and_iff (light t) (calm (simultaneous t))).0 h).1;
        },
      ))

  pub quick_passes : T (quick_pass t) → (budget : ℕ) → horizon t ≤ budget → verdict t budget ≡ Verdict.Passes
  quick_passes h budget b = (passes_iff t r budget b).1 ((feasible_iff t r).1 (quick_never h))

-- Offsets do not matter to it.
pub quick_same : (t : Table) → Ranged t → (start : ℕ → ℕ) → quick_pass (starting_at t start) ≡ quick_pass t
unfolding quick_pass
quick_same t r start = rw (starting_load t r start, starting_round t r start, starting_again t r start (λ i. 0)) refl

-- Exactly: it says that some schedule of the simultaneous table is good.
pub quick_iff : (t : Table) → Ranged t → T (quick_pass t) ↔ Feasible (simultaneous t)
unfolding quick_pass
quick_iff t r = (
  λ h. (feasible_iff s q).1 (quick_never s q (rw (quick_same t r (λ i. 0)) h)),
  λ h. passed ((feasible_iff s q).0 h) ((passes_iff s q (horizon s) (le_refl _)).1 h),
)
  where
    s : Table
    s = simultaneous t

    q : Ranged s
    q = simultaneous_ranged t r

    passed : NeverTooMuch s → verdict s (horizon s) ≡ Verdict.Passes → T (quick_pass t)
    passed never e =
        let (fits, x) = never_of_passed s q (horizon s) e in
        (and_iff (light t) (calm s)).1 (
          omega (tests, starting_load t r (λ i. 0), starting_round t r (λ i. 0)),
          (calm_iff s q).1
              (λ u l. (never_iff s).0 never u),
        )
