-- WHAT IS TAKEN RESPECTS THE TABLE (`taken_respects`): under any presses and done reports, periodic tasks arrive when they are released, and a button
-- never sooner after an arrival than its spacing. Of any table that keeps its ranges.
use Rattle.std.specs.Prelude.{◌≡◌, ◌≢◌, Bool, true, false, cond, T, ltb, eqb}
use Rattle.std.proofs.Common.{sym, ◌∙◌, inl, inr, le_refl, add-zero, add-suc, arith, eq-eqb, ne_eqb, eqb→eq}
use Rattle.std.proofs.Math.Path.{ap}
use Prim.Native.Nat.{ℕ, zero, suc, ◌+◌, ◌-◌, ◌≤◌, ◌<◌}
use Rattle.values.specs.declared.Table.{Table}
use Rattle.model.specs.Tasks.{task, is_button}
use Rattle.model.specs.Demand.{released}
use Rattle.model.specs.Arrivals.{Respects}
use Rattle.model.specs.Dispatcher.{wait_of}
use Rattle.model.specs.Notation.{in_set}
use Rattle.model.specs.Presses.{comes, state_under, arrivals}
use Rattle.counting.specs.Count.{and_iff, eq→eqb, is_true, same_test}
use Rattle.counting.specs.Below.{below_none, below_at}
use Rattle.wellformed.specs.Ranges.{Ranged}
use Rattle.wellformed.specs.Demand.{released_enumerates}
use Rattle.backlog.specs.Domination.{Releases, releases}
use Rattle.backlog.specs.System.{System, release_of, released_by}
use Rattle.backlog.proofs.System.{jobs}
use Rattle.backlog.proofs.TableSystem.{tie_system}
use Rattle.backlog.specs.Taken.{Belongs, wait_start, belongs_start}
use Rattle.backlog.specs.Coming.{wait_come_lem, belongs_come}

module _ (t : Table) (r : Ranged t) (done : ℕ → Bool) (pressed : ℕ → ℕ) where
  abbrev S : System
  S = tie_system t r

  -- Every state belongs to the table.
  pub belongs_under : (n : ℕ) → Belongs t (state_under t done pressed n)
  unfolding state_under
  belongs_under zero = belongs_start t r
  belongs_under (suc n) = belongs_come t r (state_under t done pressed n) (done n) (comes t (state_under t done pressed n) (pressed n)) (belongs_under n)

  module _ (i : ℕ) (l : i < t.count) where
    abbrev pub wait : ℕ → ℕ
    wait n = wait_of (state_under t done pressed n) i

    pub wait_next : (n : ℕ) → wait (suc n) ≡ cond (arrivals t done pressed i n) (task t i).period (wait n) - 1
    unfolding state_under
    wait_next n = wait_come_lem t r (state_under t done pressed n) (done n) (comes t (state_under t done pressed n) (pressed n)) (belongs_under n) i l

    -- A periodic task: its wait tells the next release.
    module _ (e : is_button (task t i) ≡ false) where
      clocked : (n : ℕ) → wait (suc n) ≡ cond (eqb (wait n) 0) (task t i).period (wait n) - 1
      clocked n = rw e at (wait_next n)

      next : (n : ℕ) → wait n + n ≡ release_of S i (released_by S i n)
      unfolding state_under
      next zero = omega (arith, wait_start t r i l, ap (release_of S i) (below_none (release_of S i)))
      next (suc n) = go (releases (jobs S) i n l) (next n)
        where
          go : Releases (jobs S) i n → wait n + n ≡ release_of S i (released_by S i n) → wait (suc n) + suc n ≡ release_of S i (released_by S i (suc n))
          go (inl (j, q, b, c)) h =
              let z : wait n ≡ 0 = omega (arith, ap (release_of S i) b) in
              omega (arith, rw (eq-eqb (wait n) 0 z) at (clocked n), ap (release_of S i) c, (r.each i l).period_pos)
          go (inr (none, c)) h =
              let w : wait n ≢ 0 = λ z. none (released_by S i n) (omega arith) in
              omega (arith, rw (ne_eqb (wait n) 0 w) at (clocked n), ap (release_of S i) c)

      pub periodic_comes : (n : ℕ) → arrivals t done pressed i n ≡ released (task t i) n
      periodic_comes n = rw e (same_test (eqb (wait n) 0) (released (task t i) n) to from)
        where
          to : T (eqb (wait n) 0) → T (released (task t i) n)
          to h = (released_enumerates (task t i) (suc n) n (le_refl _)).1 (released_by S i n, omega (arith, next n, eqb→eq (wait n) 0 h))

          from : T (released (task t i) n) → T (eqb (wait n) 0)
          from h =
              let (j, q) = (released_enumerates (task t i) (suc n) n (le_refl _)).0 h in
              let b : released_by S i n ≡ j = ap (released_by S i) (sym q) ∙ below_at (release_of S i) ((jobs S).rel_grows i l) j in
              eq→eqb (wait n) 0 (omega (arith, next n, ap (release_of S i) b))

    -- A button: after a press that is taken its wait goes down from the spacing, one by one.
    waits_on : (u k : ℕ) → T (arrivals t done pressed i u) → (task t i).period ≤ wait (suc (u + k)) + suc k
    waits_on u zero h = rw (add-zero u) (omega (arith, rw (is_true (arrivals t done pressed i u) h) at (wait_next u)))
    waits_on u (suc k) h = rw (add-suc u k) (go (arrivals t done pressed i (suc (u + k))) (wait_next (suc (u + k))) (waits_on u k h))
      where
        go : (c : Bool) → wait (suc (suc (u + k))) ≡ cond c (task t i).period (wait (suc (u + k))) - 1
            → (task t i).period ≤ wait (suc (u + k)) + suc k → (task t i).period ≤ wait (suc (suc (u + k))) + suc (suc k)
        go true w ih = omega arith
        go false w ih = omega arith

    pub taken_free : (n : ℕ) → is_button (task t i) ≡ true → T (arrivals t done pressed i n) → wait n ≡ 0
    taken_free n e h =
        let a = ((and_iff (in_set (pressed n) i) _).0 (rw e at h)).1 in
        let b = ((and_iff (ltb i t.count) _).0 a).1 in
        eqb→eq (wait n) 0 b

  pub taken_respects : Respects t (arrivals t done pressed)
  taken_respects = record {
    periodic = λ i u l e. periodic_comes i l e u;
    spaced = λ i u v l e x y h.
        let k : suc (u + (v - suc u)) ≡ v = omega arith in
        omega (arith, waits_on i l u (v - suc u) x, ap (wait i l) k, taken_free i l v e y);
  }
