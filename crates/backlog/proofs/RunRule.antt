-- THE RUN'S RULE (`run_rule`), in the specification's words: the slot goes to the waiting job with the earliest deadline, ties by the order; to none
-- only if none waits.
use Rattle.std.specs.Prelude.{◌≡◌, refl, ◌⊎◌, ℕ, suc, ◌*◌, ◌≤◌, ◌<◌, T, leb}
use Rattle.std.proofs.Common.{ap, inl, inr, div-lt_iff_lt-mul, mul-le-mul_right, arith}
use Rattle.std.proofs.Math.Nat.{lt-mul-div-succ}
use Rattle.std.proofs.Math.Decide.{ℕ_discrete}
use Rattle.model.specs.Schedule.{none, job, given}
use Rattle.model.specs.Run.{run}
use Rattle.counting.specs.Count.{tests}
use Rattle.backlog.specs.Choice.{standing_says, NoLater}
use Rattle.backlog.specs.System.{System, size, cost_of, period_of, release_of, due_of, JobNoLater}
use Rattle.backlog.proofs.Keys.{period_pos}
use Rattle.backlog.proofs.ModelRun.{served_of, at, Owned, owned}
use Rattle.backlog.proofs.RunSchedule.{run_owner, run_at, run_job, run_none, undone_iff}

module _ (S : System) where
  -- Job j of task i is released and unfinished in slot u.
  abbrev pub Waiting : ℕ → ℕ → ℕ → Type 0
  Waiting u i j = (i < size S) × (release_of S i j ≤ u) × (given (run S.table S.rank) i j 0 u < cost_of S i)

  pub run_rule : (u : ℕ)
      → ((run_at S u ≡ none) × ((i j : ℕ) → Waiting u i j → ⊥))
      ⊎ ((i : ℕ) × (j : ℕ) × (run_at S u ≡ job i j) × Waiting u i j × ((k m : ℕ) → Waiting u k m → JobNoLater S i j k m))
  run_rule u = go (owned S u)
    where
      before : (i j : ℕ) → Waiting u i j → at S u i ≤ j
      before i j (l, r, g) =
          let d : at S u i < suc j = (div-lt_iff_lt-mul (S.cost_pos i l)).1 (omega (arith, (undone_iff S i j u l).0 g)) in
          omega arith

      ready : (i j : ℕ) → Waiting u i j → T (leb (release_of S i (at S u i)) u)
      ready i j w = omega (tests, w.1, mul-le-mul_right (period_of S i) (before i j w))

      later : (i j k m : ℕ) → i < size S → NoLater (λ k. due_of S k (at S u k)) S.rank i k → at S u i ≡ j → Waiting u k m → JobNoLater S i j k m
      later i j k m l (inl a) e w = inl (omega (arith, ap (due_of S i) e, mul-le-mul_right (period_of S k) (before k m w)))
      later i j k m l (inr (a, r)) e w = elim (ℕ_discrete (at S u k) m) [
        | yes q ↦
            inr (omega (arith, ap (due_of S i) e, ap (due_of S k) q), standing_says S.rank i k (omega (arith, S.size_le)) (omega (arith, w.0, S.size_le)) r)
        | no q ↦
            let n : suc (at S u k) ≤ m = omega (arith, before k m w) in
            inl (omega (arith, ap (due_of S i) e, mul-le-mul_right (period_of S k) n, period_pos S k w.0))
      ]

      go : Owned S u
          → ((run_at S u ≡ none) × ((i j : ℕ) → Waiting u i j → ⊥))
          ⊎ ((i : ℕ) × (j : ℕ) × (run_at S u ≡ job i j) × Waiting u i j × ((k m : ℕ) → Waiting u k m → JobNoLater S i j k m))
      go (inl c) = inl (run_none S u (omega (arith, c.none, S.size_le)), λ i j w. c.shut i w.0 (ready i j w))
      go (inr c) = inr (
        run_owner S u,
        at S u (run_owner S u),
        run_job S u c.bound,
        (c.bound, omega (tests, c.opened), (undone_iff S (run_owner S u) (at S u (run_owner S u)) u c.bound).1 unfinished),
        λ k m w. later (run_owner S u) (at S u (run_owner S u)) k m c.bound (c.ahead k w.0 (ready k m w)) refl w,
      )
        where
          unfinished : served_of S u (run_owner S u) < cost_of S (run_owner S u) * suc (at S u (run_owner S u))
          unfinished = omega (arith, lt-mul-div-succ (served_of S u (run_owner S u)) (S.cost_pos (run_owner S u) c.bound))
