-- PULLED BACK (`pulled_late`): where the run of some streams has missed a deadline, streams of the same costs whose jobs come no later after some
-- instant miss one before they are ever idle.
use Rattle.std.specs.Prelude.{◌≡◌, refl, ◌&&◌, ℕ, suc, ◌+◌, ◌-◌, ◌*◌, ◌≤◌, ◌<◌, min, leb}
use Rattle.std.proofs.Math.Path.{ap}
use Rattle.std.proofs.Common.{mul-le-mul_left, arith}
use Rattle.std.proofs.Math.Numerals.{unary_clauses}
use Rattle.model.specs.Notation.{sum, count}
use Rattle.counting.specs.Sum.{sum_le, sum_le_add, sum_zero, sum_none}
use Rattle.counting.specs.Below.{Grows, below, below_none, below_next, below_most, grows_lt, count_inside}
use Rattle.backlog.specs.Queue.{backlog, Busy, busy_from, busy_exact, sum_backlog}
use Rattle.backlog.specs.Streams.{Jobs, Run, released, work, arrive, arrivals, arrived}
use Rattle.backlog.specs.Left.{left_is}
use Rattle.backlog.specs.Criterion.{Dues, Late, demand, demand_arrives, left_of_late, late_iff_over}
use Rattle.patterns.specs.Waiting.{all_released, released_at, released_sum, waiting_is, Idle, idle_waiting}

-- The jobs of other streams, put `from` later, come and are due no later than those that are released at `from` or later, one by one.
pub record Pulled (J : Jobs) (D : Dues J) (J' : Jobs) (D' : Dues J') (from : ℕ) : Type 0 where
  pub same_n : J'.n ≡ J.n
  pub same_cost : (i : ℕ) → i < J.n → J'.cost i ≡ J.cost i
  pub sooner : (i j : ℕ) → i < J.n → from + J'.rel i j ≤ J.rel i (below (J.rel i) from + j)
  pub due_sooner : (i j : ℕ) → i < J.n → from + D'.due i j ≤ D.due i (below (J.rel i) from + j)

-- So no more of the first lie in an interval from there than of the others in one from 0.
below_pulled : (f f' : ℕ → ℕ) → Grows f → Grows f' → (m c x : ℕ) → ((j : ℕ) → c + f' j ≤ f (m + j)) → below f (c + x) ≤ m + below f' x
below_pulled f f' g g' m c x h =
    below_most f g (c + x) (m + below f' x) (λ j l. grows_lt f g j (m + below f' x) (omega (arith, h (below f' x), below_next f' g' x)))

-- What the jobs of stream i that are released at `from` or later and due by `to` ask for.
abbrev asked : (J : Jobs) → Dues J → ℕ → ℕ → ℕ → ℕ
asked J D from to i = J.cost i * count (λ j. leb from (J.rel i j) && leb (D.due i j) to) to

module _ (J : Jobs) (D : Dues J) (J' : Jobs) (D' : Dues J') (from : ℕ) (p : Pulled J D J' D' from) where
  member : (i : ℕ) → i < J.n → i < J'.n
  member i l = omega (arith, p.same_n)

  -- Of each class no more comes in x slots from there than of all work in the first x slots of the others.
  pulled_arrives : (κ x : ℕ) → arrivals J κ (from + x) ≤ arrivals J κ from + all_released J' x
  pulled_arrives κ x =
      omega (
        arith,
        ap (λ (n : ℕ). sum n (released J' x)) p.same_n,
        sum_zero J.n (λ i. 0) (λ i l. refl),
        sum_le_add J.n (λ i. min (work J κ i) (released J (from + x) i)) (λ i. 0) (λ i. min (work J κ i) (released J from i)) (released J' x) each,
      )
    where
      each : (i : ℕ) → i < J.n → min (work J κ i) (released J (from + x) i) + 0 ≤ min (work J κ i) (released J from i) + released J' x i
      each i l =
          omega (
            arith,
            mul-le-mul_left (J.cost i)
                (below_pulled (J.rel i) (J'.rel i) (J.rel_grows i l) (J'.rel_grows i (member i l)) (below (J.rel i) from) from x (λ j. p.sooner i j l)),
            ap (λ (c : ℕ). c * below (J'.rel i) x) (p.same_cost i l),
          )

  -- And they ask for no less.
  pulled_demand : (x : ℕ) → demand J D from (from + x) ≤ demand J' D' 0 x
  unfolding demand
  pulled_demand x = omega (arith, ap (λ (n : ℕ). sum n (asked J' D' 0 x)) p.same_n, sum_le J.n (asked J D from (from + x)) (asked J' D' 0 x) each)
    where
      each : (i : ℕ) → i < J.n → asked J D from (from + x) i ≤ asked J' D' 0 x i
      each i l =
          let few : below (D.due i) (suc (from + x)) ≤ below (J.rel i) from + below (D'.due i) (suc x) =
          simp unary_clauses at
          (below_pulled (D.due i) (D'.due i) (D.due_grows i l) (D'.due_grows i (member i l)) (below (J.rel i) from) from (suc x)
          (λ j. p.due_sooner i j l)) in
          let here = count_inside (J.rel i) (D.due i) (J.rel_grows i l) (D.due_grows i l) (λ j. D.rel_due i j l) from (from + x) in
          let there = count_inside (J'.rel i) (D'.due i) (J'.rel_grows i (member i l)) (D'.due_grows i (member i l))
          (λ j. D'.rel_due i j (member i l)) 0 x in
          rw (p.same_cost i l, here, there, below_none (J'.rel i)) (mul-le-mul_left (J.cost i) (omega arith))

-- From where the backlog of the work that is due by t2 began, other streams miss a deadline by then, and wait all the time.
module _ (J : Jobs) (D : Dues J) (t2 from : ℕ) (b : Busy (arrive J (D.cut t2)) t2 from) (some : 0 < backlog (arrive J (D.cut t2)) t2) (J' : Jobs)
    (D' : Dues J') (s' : ℕ → ℕ → ℕ) (R' : Run J' s') (p : Pulled J D J' D' from) where
  abbrev κ : ℕ
  κ = D.cut t2

  missed : Late J' D' s' (t2 - from)
  missed = (late_iff_over J' D' s' R' (t2 - from)).1 (0, omega (arith, b.early), too_much)
    where
      too_much : t2 - from - 0 < demand J' D' 0 (t2 - from)
      too_much =
          let e : from + (t2 - from) ≡ t2 = omega (arith, b.early) in
          omega (
            arith,
            b.exact,
            arrived J κ t2,
            arrived J κ from,
            demand_arrives J D from t2,
            pulled_demand J D J' D' from p (t2 - from),
            ap (λ (y : ℕ). demand J D from y) e,
          )

  waits : (x : ℕ) → 0 < x → x ≤ t2 - from → Idle J' s' x → ⊥
  waits x pos l idle =
      absurd (omega (
        arith,
        busy_exact (arrive J κ) t2 from b (from + x) (omega arith) (omega (arith, b.early)),
        b.busy (from + x) (omega arith) (omega (arith, b.early)),
        arrived J κ (from + x),
        arrived J κ from,
        pulled_arrives J D J' D' from p κ x,
        released_sum J' x,
        sum_none (released_at J'),
        sum_backlog (released_at J') 0 x (omega arith),
        waiting_is J' s' R' x,
        (idle_waiting J' s' x).0 idle,
      ))

pub pulled_late : (J : Jobs) (D : Dues J) (s : ℕ → ℕ → ℕ) → Run J s → (t2 : ℕ) → Late J D s t2
    → (from : ℕ) × (from < t2) × ((J' : Jobs) (D' : Dues J') (s' : ℕ → ℕ → ℕ) → Run J' s' → Pulled J D J' D' from → Late J' D' s' (t2 - from)
    × ((x : ℕ) → 0 < x → x ≤ t2 - from → Idle J' s' x → ⊥))
pulled_late J D s R t2 late =
    let some : 0 < backlog (arrive J (D.cut t2)) t2 = omega (arith, left_is J s R (D.cut t2) t2, left_of_late J D s t2 late) in
    let (from, b) = busy_from (arrive J (D.cut t2)) t2 some in
    (from, b.early, λ J' D' s' R' p. (missed J D t2 from b some J' D' s' R' p, waits J D t2 from b some J' D' s' R' p))
