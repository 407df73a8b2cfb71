-- PRESSES ARE A HISTORY (`press_history`): up to any instant, the dispatcher's steps under any presses and done reports are those of a history of
-- streams, which the run meets if the distance test passes.
use Rattle.std.specs.Prelude.{◌≡◌, ◌↔◌, Bool, cond, T, ltb}
use Rattle.std.proofs.Math.Path.{refl, ap}
use Rattle.std.proofs.Common.{◌∙◌, inl, inr, le_refl, arith, ltb→lt, lt→ltb}
use Prim.Native.Nat.{ℕ, zero, suc, ◌+◌, ◌*◌, ◌≤◌, ◌<◌}
use Rattle.std.proofs.Math.Decide.{dec_le, dec_lt}
use borrow.Author.Tests.{lt-ltb, le-ltb}
use Rattle.std.proofs.Math.Dec.{eqb}
use Rattle.values.specs.declared.Table.{Table}
use Rattle.model.specs.Notation.{bit, count}
use Rattle.model.specs.Tasks.{task}
use Rattle.model.specs.Demand.{Arrivals}
use Rattle.model.specs.Arrivals.{Respects}
use Rattle.model.specs.Patterns.{distance_pass}
use Rattle.model.specs.Presses.{state_under, arrivals, owner_under, done_under, had_under}
use Rattle.counting.specs.Sum.{sum_eq}
use Rattle.counting.specs.Below.{below}
use Rattle.counting.specs.Enumerate.{enumerated_at}
use Rattle.wellformed.specs.Ranges.{Ranged}
use Rattle.backlog.specs.Streams.{Jobs}
use Rattle.backlog.specs.Criterion.{Dues, Met}
use Rattle.backlog.specs.StreamRun.{run_of, stream_run}
use Rattle.backlog.specs.Domination.{Releases, releases}
use Rattle.backlog.specs.History.{History, given_to}
use Rattle.backlog.proofs.Had.{since_sum}
use Rattle.backlog.proofs.ComingHistory.{state_for, owner_for, open_for, ready_for, gave_for, told_for, coming_history}
use Rattle.patterns.specs.Calm.{calm_on_time}
use Rattle.patterns.proofs.DistancePass.{distance_light, calm_ahead}
use Rattle.patterns.proofs.Arrivals.{comes_at, comes_apart, comes_enumerates, comes_punctual}
use Rattle.patterns.proofs.OnTheWay.{before, before_dues}
use Rattle.patterns.specs.TakenArrivals.{taken_respects}

module _ (t : Table) (r : Ranged t) (done : ℕ → Bool) (pressed : ℕ → ℕ) (n : ℕ) where
  abbrev a : Arrivals
  a = arrivals t done pressed

  abbrev k : Respects t a
  k = taken_respects t r done pressed

  -- The streams of what arrives before n.
  abbrev pub rel : ℕ → ℕ → ℕ
  rel = comes_at t a n

  abbrev pub J : Jobs
  J = before t r a k n

  abbrev pub D : Dues J
  D = before_dues t r a k n

  -- What arrives before n, and then what the streams have.
  abbrev pub onward : Arrivals
  onward i u = cond (ltb u n) (a i u) (ltb (below (rel i) u) (below (rel i) (suc u)))

  pub exactly : (i u : ℕ) → i < t.count → T (onward i u) ↔ ((j : ℕ) × (rel i j ≡ u))
  exactly i u l = go (dec_lt u n)
    where
      later : Releases J i u → T (ltb (below (rel i) u) (below (rel i) (suc u))) ↔ ((j : ℕ) × (rel i j ≡ u))
      later (inl (j, e, b, c)) = (λ h. (j, e), λ h. lt→ltb (below (rel i) u) (below (rel i) (suc u)) (omega arith))
      later (inr (none, c)) = (λ h. absurd (omega (arith, ltb→lt (below (rel i) u) (below (rel i) (suc u)) h)), λ (j, e). absurd (none j e))

      go : Dec (u < n) → T (onward i u) ↔ ((j : ℕ) × (rel i j ≡ u))
      go (yes h) = rw (lt-ltb u n h) (comes_enumerates t a k n i l u h)
      go (no h) = rw (le-ltb u n (omega arith)) (later (releases J i u l))

  pub press_history : History J D (told_for t done onward) (open_for t done onward) (ready_for t done onward) (gave_for t done onward)
  press_history = coming_history t r done onward rel (comes_apart t a k n) exactly

  -- Up to n its states are the dispatcher's, and so are its owners and its reports.
  pub same_state : (m : ℕ) → m ≤ n → state_under t done pressed m ≡ state_for t done onward m
  unfolding state_under state_for
  same_state zero h = refl
  same_state (suc m) h = rw (← same_state m (omega arith), lt-ltb m n h)

  pub same_owner : (m : ℕ) → m < n → owner_under t done pressed m ≡ owner_for t done onward m
  same_owner m h = rw (← same_state m (omega arith), lt-ltb m n h)

  pub same_had : (i u d : ℕ) → u + d ≤ n → had_under t done pressed i u (u + d) ≡ given_to (gave_for t done onward) i u d
  unfolding had_under
  same_had i u d h =
      since_sum (λ m. eqb (owner_under t done pressed m) i) u d ∙ sum_eq d _ _ (λ v l. ap (λ (m : ℕ). bit (eqb m i)) (same_owner (u + v) (omega arith)))

  pub same_told : (m i : ℕ) → m ≤ n → told_for t done onward m i → T (done_under t done pressed i m)
  same_told m i h x = rw (same_state m h) x

  -- A job that arrives before n is the streams' job of that number.
  pub arrives_at : (i u : ℕ) → i < t.count → u < n → T (a i u) → rel i (count (a i) u) ≡ u
  arrives_at i u l h = enumerated_at (a i) (rel i) (J.rel_grows i l) n (comes_enumerates t a k n i l) u h

  -- Each job is due by the time the next of its stream comes.
  pub due_first : (i j : ℕ) → i < t.count → D.due i j ≤ rel i (suc j)
  due_first i j l = omega (arith, comes_apart t a k n i j l, (r.each i l).deadline_le)

  pub passed_met : T (distance_pass t) → Met J D (run_of J)
  passed_met pass i j l = go (dec_le ((task t i).cost * suc j) (run_of J (D.due i j) i))
    where
      go : Dec ((task t i).cost * suc j ≤ run_of J (D.due i j) i) → (task t i).cost * suc j ≤ run_of J (D.due i j) i
      go (yes p) = p
      go (no p) =
          absurd (calm_on_time t r rel (comes_apart t a k n) (distance_light t pass) (run_of J) (stream_run J)
          (calm_ahead t r rel (comes_apart t a k n) (comes_punctual t a n) pass) (D.due i j) (i, j, l, le_refl _, omega arith))
