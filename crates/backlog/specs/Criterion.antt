-- THE CRITERION (`late_iff_over`): at each instant the run has a job that is due by then and not done, exactly if some interval that ends there asks too much.
use Rattle.std.specs.Prelude.{◌≡◌, ◌⊎◌, ◌↔◌, ◌&&◌, leb}
use Rattle.std.proofs.Math.Path.{refl, sym, ap}
use Rattle.std.proofs.Common.{◌∙◌, inl, inr, eq-zero-or-pos, le_refl, mul-le-mul_left, arith}
use Prim.Native.Nat.{ℕ, zero, suc, ◌+◌, ◌-◌, ◌*◌, ◌≤◌, ◌<◌, min}
use Rattle.std.proofs.Math.Nat.{mul-sub}
use Rattle.std.proofs.Math.Decide.{dec_le}
use Rattle.model.specs.Notation.{sum, count}
use Rattle.counting.specs.Sum.{sum_eq, sum_add, sum_pos}
use Rattle.counting.specs.Below.{Grows, below, lt_below, below_below, count_inside}
use Rattle.backlog.specs.Queue.{sum_backlog, busy_from}
use Rattle.backlog.specs.Streams.{Jobs, released, work, Run, left, left_of, arrive, arrivals, arrived}
use Rattle.backlog.specs.Left.{left_is, done_of_none_left, served_mono}
use Rattle.backlog.specs.Finish.{DoneFirst, first_done}

-- Deadlines that the key order goes by: the cut of t takes just the jobs that are due by t.
pub record Dues (J : Jobs) : Type 0 where
  pub due : ℕ → ℕ → ℕ
  pub cut : ℕ → ℕ
  pub cut_law : (i j t : ℕ) → i < J.n → (J.key i j ≤ cut t) ↔ (due i j ≤ t)
  pub rel_due : (i j : ℕ) → i < J.n → J.rel i j < due i j
  pub due_grows : (i : ℕ) → i < J.n → Grows (due i)

-- Each job is due by the time the next of its stream is released.
abbrev pub Constrained : (J : Jobs) → Dues J → Type 0
Constrained J D = (i j : ℕ) → i < J.n → D.due i j ≤ J.rel i (suc j)

-- The jobs that are released at or after t1 and due at or before t2, and their work.
abbrev in_interval : (J : Jobs) → Dues J → ℕ → ℕ → ℕ → ℕ
in_interval J D t1 t2 i = count (λ j. leb t1 (J.rel i j) && leb (D.due i j) t2) t2

unfoldable pub demand : (J : Jobs) → Dues J → ℕ → ℕ → ℕ
demand J D t1 t2 = sum J.n (λ i. J.cost i * in_interval J D t1 t2 i)

-- Some interval that ends at t2 asks too much.
abbrev pub Over : (J : Jobs) → Dues J → ℕ → Type 0
Over J D t2 = (t1 : ℕ) × (t1 < t2) × (t2 - t1 < demand J D t1 t2)

-- At t the run has not finished a job that is due by t.
abbrev pub Late : (J : Jobs) → Dues J → (ℕ → ℕ → ℕ) → ℕ → Type 0
Late J D s t = (i : ℕ) × (j : ℕ) × (i < J.n) × (D.due i j ≤ t) × (s t i < J.cost i * suc j)

-- Every job is done by its deadline.
abbrev pub Met : (J : Jobs) → Dues J → (ℕ → ℕ → ℕ) → Type 0
Met J D s = (i j : ℕ) → i < J.n → J.cost i * suc j ≤ s (D.due i j) i

module _ (J : Jobs) (D : Dues J) where
  -- All work that is due by t.
  abbrev total : ℕ → ℕ
  total t = sum J.n (work J (D.cut t))

  -- The class of the cut of t has the jobs that are due by t.
  class_due : (i t : ℕ) → i < J.n → below (J.key i) (suc (D.cut t)) ≡ below (D.due i) (suc t)
  class_due i t l =
      omega (
        arith,
        below_below (J.key i) (D.due i) (J.key_grows i l) (D.due_grows i l) (suc (D.cut t)) (suc t)
            (λ j h. omega (arith, (D.cut_law i j t l).0 (omega arith))),
        below_below (D.due i) (J.key i) (D.due_grows i l) (J.key_grows i l) (suc t) (suc (D.cut t))
            (λ j h. omega (arith, (D.cut_law i j t l).1 (omega arith))),
      )

  -- All work that is due by t is released before t.
  work_released : (i t : ℕ) → i < J.n → work J (D.cut t) i ≤ released J t i
  work_released i t l =
      mul-le-mul_left (J.cost i) (below_below (J.key i) (J.rel i) (J.key_grows i l) (J.rel_grows i l) _ _ (λ j h. omega (
        arith,
        D.rel_due i j l,
        (D.cut_law i j t l).0 (omega arith),
      )))

  -- Demand is what is due by t2, but for what of it was released before t1.
  pub demand_is : (t1 t2 : ℕ) → demand J D t1 t2 + arrivals J (D.cut t2) t1 ≡ total t2
  unfolding demand
  demand_is t1 t2 =
      sym (sum_add J.n _ _) ∙ sum_eq J.n _ _ (λ i l. each i l)
    where
      each : (i : ℕ) → i < J.n → J.cost i * in_interval J D t1 t2 i + min (work J (D.cut t2) i) (released J t1 i) ≡ work J (D.cut t2) i
      each i l =
          let c = below (J.key i) (suc (D.cut t2)) in
          let b = below (J.rel i) t1 in
          let e : in_interval J D t1 t2 i ≡ c - b =
          omega (arith, count_inside (J.rel i) (D.due i) (J.rel_grows i l) (D.due_grows i l) (λ j. D.rel_due i j l) t1 t2, class_due i t2 l) in
          rw (e, mul-sub) (omega arith)

  -- So it is what of it is released from t1 on, up to t2.
  pub demand_arrives : (t1 t2 : ℕ) → demand J D t1 t2 + arrivals J (D.cut t2) t1 ≡ arrivals J (D.cut t2) t2
  demand_arrives t1 t2 = demand_is t1 t2 ∙ sum_eq J.n _ _ (λ i l. omega (arith, work_released i t2 l))

module _ (J : Jobs) (D : Dues J) (s : ℕ → ℕ → ℕ) where
  -- Something is late exactly if work is left up to the cut, whatever was served.
  pub late_of_left : (t : ℕ) → 0 < left J s (D.cut t) t → Late J D s t
  unfolding left
  late_of_left t h =
      let (i, l, p) = sum_pos J.n _ h in
      go i l p (below (J.key i) (suc (D.cut t))) refl
    where
      go : (i : ℕ) → i < J.n → 0 < left_of J (D.cut t) t (s t) i → (m : ℕ) → below (J.key i) (suc (D.cut t)) ≡ m → Late J D s t
      go i l p zero e = absurd (omega (arith, ap (λ (x : ℕ). J.cost i * x) e))
      go i l p (suc j) e = (
        i,
        j,
        l,
        (D.cut_law i j t l).0 (omega (arith, (lt_below (J.key i) (J.key_grows i l) (suc (D.cut t)) j).0 (omega arith))),
        omega (arith, ap (λ (x : ℕ). J.cost i * x) e),
      )

  pub left_of_late : (t : ℕ) → Late J D s t → 0 < left J s (D.cut t) t
  left_of_late t (i, j, l, d, h) = go (eq-zero-or-pos (left J s (D.cut t) t))
    where
      go : (left J s (D.cut t) t ≡ 0) ⊎ (0 < left J s (D.cut t) t) → 0 < left J s (D.cut t) t
      go (inr p) = p
      go (inl e) = absurd (omega (arith, done_of_none_left J s (D.cut t) t i j l ((D.cut_law i j t l).1 d) (omega (arith, D.rel_due i j l)) e))

module _ (J : Jobs) (D : Dues J) (s : ℕ → ℕ → ℕ) (R : Run J s) where
  left_of_over : (t : ℕ) → Over J D t → 0 < left J s (D.cut t) t
  left_of_over t (u, l, h) =
      let k = D.cut t in
      omega (arith, sum_backlog (arrive J k) u t (omega arith), left_is J s R k t, arrived J k t, arrived J k u, demand_arrives J D u t)

  over_of_left : (t : ℕ) → 0 < left J s (D.cut t) t → Over J D t
  over_of_left t h =
      let k = D.cut t in
      let (u, b) = busy_from (arrive J k) t (omega (arith, left_is J s R k t)) in
      (u, b.early, omega (arith, b.exact, left_is J s R k t, arrived J k t, arrived J k u, demand_arrives J D u t))

  -- At each instant: some job due by t is not done at t, exactly if some interval that ends at t asks too much.
  pub late_iff_over : (t : ℕ) → Late J D s t ↔ Over J D t
  late_iff_over t = (λ h. over_of_left t (left_of_late J D s t h), λ h. late_of_left J D s t (left_of_over t h))

  -- The run meets every deadline exactly if no interval asks too much.
  pub met_iff :
      Met J D s
      ↔ ((t1 t2 : ℕ) → t1 < t2 → demand J D t1 t2 ≤ t2 - t1)
  met_iff = (λ h t1 t2 l. fwd h t1 t2 l (dec_le _ _), λ h i j l. bwd h i j l (dec_le _ _))
    where
      fwd : Met J D s → (t1 t2 : ℕ) → t1 < t2 → Dec (demand J D t1 t2 ≤ t2 - t1) → demand J D t1 t2 ≤ t2 - t1
      fwd h t1 t2 l (yes p) = p
      fwd h t1 t2 l (no p) =
          let (i, j, b, d, q) = (late_iff_over t2).1 (t1, l, omega arith) in
          absurd (omega (arith, h i j b, served_mono J s R i b (D.due i j) t2 d))

      bwd : ((t1 t2 : ℕ) → t1 < t2 → demand J D t1 t2 ≤ t2 - t1) → (i j : ℕ) → i < J.n → Dec (J.cost i * suc j ≤ s (D.due i j) i)
          → J.cost i * suc j ≤ s (D.due i j) i
      bwd h i j l (yes p) = p
      bwd h i j l (no p) =
          let (u, a, q) = (late_iff_over (D.due i j)).0 (i, j, l, le_refl _, omega arith) in
          absurd (omega (arith, h u (D.due i j) a))

  -- Where it does, every job finishes, after its release and by its deadline.
  pub finishes : Met J D s → (i j : ℕ) → i < J.n → (f : ℕ) × DoneFirst J s i j f × (J.rel i j < f) × (f ≤ D.due i j)
  finishes met i j l =
      let (f, h, d, c) = first_done J s R i j l (D.due i j) (met i j l) in
      (f, d, c.0, h)
