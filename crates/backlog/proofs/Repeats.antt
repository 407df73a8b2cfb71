-- THE STATE REPEATS (`repeats`): without overload, from one round after the start on, as much is left of a job as will be of its twin a round later.
use Rattle.std.specs.Prelude.{◌≡◌, refl, ◌≢◌, ◌↔◌, ℕ, zero, suc, ◌+◌, ◌-◌, ◌*◌, ◌≤◌, ◌<◌, min}
use Rattle.std.proofs.Common.{sym, ap, ◌∙◌, mul-pos, mul-le-mul_left, arith}
use Rattle.std.proofs.Math.Nat.{min-eq_left}
use Rattle.std.proofs.Math.Decide.{dec_lt}
use Rattle.counting.specs.Sum.{sum_by}
use Rattle.counting.specs.Below.{below, below_most, below_at, below_same, grows_lt, work_le}
use Rattle.backlog.specs.Streams.{Jobs, Run, released, work, left, left_of, work_at}
use Rattle.backlog.specs.Left.{served_le}
use Rattle.backlog.specs.System.{System, size, cost_of, release_of, due_of, spread, key_of}
use Rattle.backlog.proofs.Keys.{standing_low}
use Rattle.backlog.proofs.System.{jobs}
use Rattle.backlog.specs.Shift.{Cycle, Light}
use Rattle.backlog.proofs.Shift.{release_later, key_later, left_later}

-- What is left of job j of stream i: its whole cost until it is served.
abbrev pub rest_of : Jobs → (ℕ → ℕ → ℕ) → ℕ → ℕ → ℕ → ℕ
rest_of J s t i j = min (J.cost i) (J.cost i * suc j - s t i)

-- With p slots for the jobs before it and q with it.
part : (c p q r s : ℕ) → q ≡ p + c → q ≤ r → min q r - min s q ≡ (min p r - min s p) + min c (q - s)
part c p q r s e h = let g : p ≤ r = omega arith in rw (min-eq_left h, min-eq_left g) (core c p q s e)
  where
    core : (c p q s : ℕ) → q ≡ p + c → q - min s q ≡ (p - min s p) + min c (q - s)
    core c p q s e = omega arith

module _ (J : Jobs) (s : ℕ → ℕ → ℕ) where
  -- The work up to the key of a job is the work before it and the rest of the job itself.
  job_left : (t i j κ : ℕ) → i < J.n → suc κ ≡ J.key i j → J.rel i j < t → left J s (J.key i j) t ≡ left J s κ t + rest_of J s t i j
  unfolding left
  job_left t i j κ l e r = sum_by J.n (left_of J (J.key i j) t (s t)) (left_of J κ t (s t)) i (rest_of J s t i j) l own other
    where
      before : below (J.key i) (suc κ) ≡ j
      before = rw e (below_at (J.key i) (J.key_grows i l) j)

      own : left_of J (J.key i j) t (s t) i ≡ left_of J κ t (s t) i + rest_of J s t i j
      own =
          let w : work J κ i ≡ J.cost i * j = ap (λ (x : ℕ). J.cost i * x) before in
          rw (work_at J i j l, w)
          (part (J.cost i) (J.cost i * j) (J.cost i * suc j) (released J t i) (s t i) (omega arith)
          (work_le (J.rel i) (J.rel_grows i l) (J.cost i) t j r))

      other : (k : ℕ) → k < J.n → k ≢ i → left_of J (J.key i j) t (s t) k ≡ left_of J κ t (s t) k
      other k q d = rw same
        where
          apart : (b : ℕ) → J.key k b ≢ J.key i j
          apart b v = d (J.key_apart k b i j q l v)

          same : below (J.key k) (suc (J.key i j)) ≡ below (J.key k) (suc κ)
          same = sym (below_same (J.key k) (J.key_grows k q) (suc κ) (suc (J.key i j)) (omega arith) (λ b h. omega (arith, apart b)))

  -- Nothing is left of a job exactly if it is done.
  rest_done : (t i j : ℕ) → i < J.n → (rest_of J s t i j ≡ 0) ↔ (J.cost i * suc j ≤ s t i)
  rest_done t i j l = (λ e. omega (arith, J.cost_pos i l), λ h. omega arith)

key_pos : (S : System) (i j : ℕ) → i < size S → 0 < key_of S i j
key_pos S i j l = let some : 0 < spread S = omega (arith, standing_low S i l) in omega (arith, mul-pos (due_pos i j l) some)
  where
    due_pos : (i j : ℕ) → i < size S → 0 < due_of S i j
    due_pos i j l = omega (arith, S.deadline_pos i l)

module _ (S : System) (Y : Cycle S) (light : Light S Y) (s : ℕ → ℕ → ℕ) (R : Run (jobs S) s) where
  -- Of a job that is not released nothing is served.
  whole_before : (t i j : ℕ) → i < size S → t ≤ release_of S i j → rest_of (jobs S) s t i j ≡ cost_of S i
  whole_before t i j l h =
      omega (
        arith,
        served_le (jobs S) s R t i l,
        mul-le-mul_left (cost_of S i)
            (below_most (release_of S i) ((jobs S).rel_grows i l) t j (λ k m. grows_lt (release_of S i) ((jobs S).rel_grows i l) k j (omega arith))),
      )

  -- What is left of a job, from one round after the start on, is left of its twin a round later.
  pub repeats : (t i j : ℕ) → i < size S → Y.start + Y.round ≤ t → rest_of (jobs S) s t i j ≡ rest_of (jobs S) s (t + Y.round) i (j + Y.times i)
  repeats t i j l h = go (dec_lt (release_of S i j) t) (key_of S i j) refl
    where
      go : Dec (release_of S i j < t) → (k : ℕ) → key_of S i j ≡ k → rest_of (jobs S) s t i j ≡ rest_of (jobs S) s (t + Y.round) i (j + Y.times i)
      go (no r) k e = whole_before t i j l (omega arith) ∙ sym (whole_before (t + Y.round) i (j + Y.times i) l (omega (arith, release_later S Y i l j)))
      go (yes r) zero e = absurd (omega (arith, key_pos S i j l))
      go (yes r) (suc κ) e =
          let f : suc (κ + spread S * Y.round) ≡ key_of S i (j + Y.times i) = omega (arith, key_later S Y i l j) in
          let k : left (jobs S) s (key_of S i (j + Y.times i)) (t + Y.round) ≡ left (jobs S) s (key_of S i j + spread S * Y.round)
          (t + Y.round) = ap (λ (x : ℕ). left (jobs S) s x (t + Y.round)) (key_later S Y i l j) in
          omega (
            arith,
            job_left (jobs S) s t i j κ l (sym e) r,
            job_left (jobs S) s (t + Y.round) i (j + Y.times i) (κ + spread S * Y.round) l f (omega (arith, release_later S Y i l j)),
            left_later S Y s R light κ t h,
            left_later S Y s R light (key_of S i j) t h,
          )

  -- So one is done exactly if the other is a round later.
  pub repeats_done : (t i j : ℕ) → i < size S → Y.start + Y.round ≤ t → (cost_of S i * suc j ≤ s t i)
      ↔ (cost_of S i * suc (j + Y.times i) ≤ s (t + Y.round) i)
  repeats_done t i j l h = (
    λ d. (rest_done (jobs S) s (t + Y.round) i (j + Y.times i) l).0 (sym (repeats t i j l h) ∙ (rest_done (jobs S) s t i j l).1 d),
    λ d. (rest_done (jobs S) s t i j l).0 (repeats t i j l h ∙ (rest_done (jobs S) s (t + Y.round) i (j + Y.times i) l).1 d),
  )
