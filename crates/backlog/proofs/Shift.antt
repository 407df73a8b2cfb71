-- ONE ROUND LATER (`left_later`): without overload, from one round after the start on, as much is left then as now, up to a key that is a round later.
use Rattle.std.specs.Prelude.{◌≡◌, ◌⊎◌}
use Rattle.std.proofs.Common.{sym, ap, subst, inl, inr, le_antisymm, eq-zero-or-pos, mul-le-mul_left, sub-add_cancel, suc-add, mul-le-mul_right}
use Prim.Native.Nat.{ℕ, suc, ◌+◌, ◌-◌, ◌*◌, ◌≤◌, ◌<◌, min}
use Rattle.std.proofs.Math.Decide.{dec_le}
use native.Mathlib.Omega.{arith}
use Rattle.counting.specs.Sum.{sum_add, sum_le_add}
use Rattle.counting.specs.Below.{below, below_later, below_later_le, below_later_or}
use Rattle.backlog.specs.Queue.{sum_backlog, busy_from, Busy}
use Rattle.backlog.specs.Streams.{Jobs, Run, released, work, left, arrive, released_mono, arrivals, arrived}
use Rattle.backlog.specs.Left.{left_is}
use Rattle.backlog.specs.System.{System, size, offset_of, cost_of, period_of, release_of, spread, key_of}
use Rattle.backlog.proofs.System.{jobs}
use Rattle.backlog.specs.Shift.{Cycle, load_of, Light}

-- For one task: w the class work and w' that of the later class, r and r' what is released, u and u' what was earlier, m the work of a round.
up : (w w' m r r' u u' : ℕ) → (w ≡ 0) ⊎ (w' ≡ w + m) → (r ≡ 0) ⊎ (r' ≡ r + m) → u' ≤ u + m → u' ≤ r' → min w r + min w' u' ≤ min w' r' + min w u
up w w' m r r' u u' a d f g = go a d
  where
    go : (w ≡ 0) ⊎ (w' ≡ w + m) → (r ≡ 0) ⊎ (r' ≡ r + m) → min w r + min w' u' ≤ min w' r' + min w u
    go (inl x) y = omega arith
    go (inr x) (inl y) = omega arith
    go (inr x) (inr y) = omega arith

down : (w w' m r r' u u' : ℕ) → (w ≡ 0) ⊎ (w' ≡ w + m) → w' ≤ w + m → r' ≡ r + m → u' ≡ u + m → min w' r' + min w u ≤ min w r + min w' u'
down w w' m r r' u u' (inl x) b c d = omega arith
down w w' m r r' u u' (inr x) b c d = omega arith

across : (w w' m r r' u : ℕ) → w' ≤ w + m → r' ≤ r + m → u ≤ r → min w' r' + min w u ≤ (min w r + min w' u) + m
across w w' m r r' u a c d = omega arith

-- None, or m more one round later: so the work of them too.
scaled : (c m : ℕ) {a b : ℕ} → (a ≡ 0) ⊎ (b ≡ a + m) → (c * a ≡ 0) ⊎ (c * b ≡ c * a + c * m)
scaled c m (inl e) = inl (rw e (omega arith))
scaled c m (inr e) = inr (rw e (omega arith))

module _ (S : System) (Y : Cycle S) where
  abbrev J : Jobs
  J = jobs S

  -- A round has a job of each task, and no period is longer.
  pub times_pos : (i : ℕ) → i < size S → 0 < Y.times i
  times_pos i l =
      elim (eq-zero-or-pos (Y.times i)) [ inl e ↦ absurd (omega (arith, Y.round_pos, Y.common i l, ap (λ (x : ℕ). x * period_of S i) e)) | inr p ↦ p ]

  pub period_le_round : (i : ℕ) → i < size S → period_of S i ≤ Y.round
  period_le_round i l = omega (arith, Y.common i l, mul-le-mul_right (period_of S i) (times_pos i l))

  pub release_later : (i : ℕ) → i < size S → (j : ℕ) → release_of S i (j + Y.times i) ≡ release_of S i j + Y.round
  release_later i l j = omega (arith, Y.common i l)

  pub key_later : (i : ℕ) → i < size S → (j : ℕ) → key_of S i (j + Y.times i) ≡ key_of S i j + spread S * Y.round
  key_later i l j = omega (arith, ap (λ (x : ℕ). spread S * x) (Y.common i l))

  class_later_le : (i κ : ℕ) → i < size S → work J (κ + spread S * Y.round) i ≤ work J κ i + cost_of S i * Y.times i
  class_later_le i κ l =
      omega (
        arith,
        mul-le-mul_left (cost_of S i)
            (subst (λ (x : ℕ). below (key_of S i) x ≤ below (key_of S i) (suc κ) + Y.times i) (suc-add κ (spread S * Y.round))
            (below_later_le (key_of S i) (J.key_grows i l) (Y.times i) (spread S * Y.round) (key_later i l) (suc κ))),
      )

  class_later : (i κ : ℕ) → i < size S → (work J κ i ≡ 0) ⊎ (work J (κ + spread S * Y.round) i ≡ work J κ i + cost_of S i * Y.times i)
  class_later i κ l =
      scaled (cost_of S i) (Y.times i) (subst (λ (x : ℕ). (below (key_of S i) (suc κ) ≡ 0)
      ⊎ (below (key_of S i) x ≡ below (key_of S i) (suc κ) + Y.times i)) (suc-add κ (spread S * Y.round)) (below_later_or (key_of S i)
      (J.key_grows i l) (Y.times i) (spread S * Y.round) (key_later i l) (suc κ)))

  rel_later_le : (i t : ℕ) → i < size S → released J (t + Y.round) i ≤ released J t i + cost_of S i * Y.times i
  rel_later_le i t l =
      omega (arith, mul-le-mul_left (cost_of S i) (below_later_le (release_of S i) (J.rel_grows i l) (Y.times i) Y.round (release_later i l) t))

  rel_later_from : (i t : ℕ) → i < size S → offset_of S i ≤ t → released J (t + Y.round) i ≡ released J t i + cost_of S i * Y.times i
  rel_later_from i t l h =
      omega (arith, ap (λ (x : ℕ). cost_of S i * x) (below_later (release_of S i) (J.rel_grows i l) (Y.times i) Y.round (release_later i l) t (omega arith)))

  rel_later : (i t : ℕ) → i < size S → (released J t i ≡ 0) ⊎ (released J (t + Y.round) i ≡ released J t i + cost_of S i * Y.times i)
  rel_later i t l = scaled (cost_of S i) (Y.times i) (below_later_or (release_of S i) (J.rel_grows i l) (Y.times i) Y.round (release_later i l) t)

  arr_up : (κ t u : ℕ) → u ≤ t → arrivals J κ t + arrivals J (κ + spread S * Y.round) (u + Y.round) ≤ arrivals J (κ + spread S * Y.round)
      (t + Y.round) + arrivals J κ u
  arr_up κ t u h =
      sum_le_add (size S) _ _ _ _
      (λ i l. up _ _ _ _ _ _ _ (class_later i κ l) (rel_later i t l) (rel_later_le i u l) (released_mono J i l (u + Y.round) (t + Y.round) (omega arith)))

  arr_down : (κ t u : ℕ) → u ≤ t → Y.start ≤ u → arrivals J (κ + spread S * Y.round) (t + Y.round) + arrivals J κ u ≤ arrivals J κ t + arrivals J
      (κ + spread S * Y.round) (u + Y.round)
  arr_down κ t u h f =
      sum_le_add (size S) _ _ _ _ (λ i l. down _ _ _ _ _ _ _ (class_later i κ l) (class_later_le i κ l) (rel_later_from i t l (omega (
        arith,
        Y.starts i l,
      ))) (rel_later_from i u l (omega (arith, Y.starts i l))))

  arr_across : Light S Y → (κ t u : ℕ) → u ≤ t → arrivals J (κ + spread S * Y.round) (t + Y.round) + arrivals J κ u
      ≤ (arrivals J κ t + arrivals J (κ + spread S * Y.round) u) + Y.round
  unfolding load_of
  arr_across light κ t u h =
      omega (
        arith,
        light,
        sum_add (size S) (λ i. min (work J κ i) (released J t i)) (λ i. min (work J (κ + spread S * Y.round) i) (released J u i)),
        sum_le_add (size S) _ _ _ _ (λ i l. across _ _ _ _ _ _ (class_later_le i κ l) (rel_later_le i t l) (released_mono J i l u t h)),
      )

-- The backlog of a busy period is at most that of another interval, if no more arrives in it, but for the slots that it is longer.
compare : (J : Jobs) (s : ℕ → ℕ → ℕ) → Run J s → (κ κ' t t' u u' : ℕ) → Busy (arrive J κ) t u → u' ≤ t'
    → arrivals J κ t + arrivals J κ' u' ≤ (arrivals J κ' t' + arrivals J κ u) + ((t - u) - (t' - u')) → t' - u' ≤ t - u → left J s κ t ≤ left J s κ' t'
compare J s R κ κ' t t' u u' b h more shorter =
    omega (
      arith,
      b.exact,
      left_is J s R κ t,
      left_is J s R κ' t',
      sum_backlog (arrive J κ') u' t' h,
      arrived J κ t,
      arrived J κ u,
      arrived J κ' t',
      arrived J κ' u',
    )

module _ (S : System) (Y : Cycle S) (s : ℕ → ℕ → ℕ) (R : Run (jobs S) s) where
  abbrev lft : ℕ → ℕ → ℕ
  lft κ t = left (jobs S) s κ t

  -- What is left now is left a round later.
  pub left_up : (κ t : ℕ) → left (jobs S) s κ t ≤ left (jobs S) s (κ + spread S * Y.round) (t + Y.round)
  left_up κ t = go (eq-zero-or-pos (lft κ t))
    where
      go : (lft κ t ≡ 0) ⊎ (0 < lft κ t) → lft κ t ≤ lft (κ + spread S * Y.round) (t + Y.round)
      go (inl e) = omega arith
      go (inr p) =
          let (u, b) = busy_from (arrive (jobs S) κ) t (omega (arith, left_is (jobs S) s R κ t)) in
          compare (jobs S) s R κ (κ + spread S * Y.round) t (t + Y.round) u (u + Y.round) b (omega (arith, b.early))
          (omega (arith, arr_up S Y κ t u (omega (arith, b.early)))) (omega arith)

  -- And from one round after the start on no more is, without overload.
  left_down : Light S Y → (κ t : ℕ) → Y.start + Y.round ≤ t → left (jobs S) s (κ + spread S * Y.round) (t + Y.round) ≤ left (jobs S) s κ t
  left_down light κ t h = go (eq-zero-or-pos (lft (κ + spread S * Y.round) (t + Y.round)))
    where
      from : (u : ℕ) → Busy (arrive (jobs S) (κ + spread S * Y.round)) (t + Y.round) u → Dec (u ≤ t) → lft (κ + spread S * Y.round) (t + Y.round) ≤ lft κ t
      from u b (yes d) = compare (jobs S) s R (κ + spread S * Y.round) κ (t + Y.round) t u u b d (omega (arith, arr_across S Y light κ t u d)) (omega arith)
      from u b (no d) =
          moved (u - Y.round) (subst (λ (x : ℕ). Busy (arrive (jobs S) (κ + spread S * Y.round)) (t + Y.round) x)
          (sym (sub-add_cancel {n = u} {m = Y.round} (omega arith))) b) (omega (arith, b.early)) (omega arith)
        where
          moved : (v : ℕ) → Busy (arrive (jobs S) (κ + spread S * Y.round)) (t + Y.round) (v + Y.round) → v ≤ t → Y.start ≤ v
              → lft (κ + spread S * Y.round) (t + Y.round) ≤ lft κ t
          moved v b k f =
              compare (jobs S) s R (κ + spread S * Y.round) κ (t + Y.round) t (v + Y.round) v b k (omega (arith, arr_down S Y κ t v k f)) (omega arith)

      go : (lft (κ + spread S * Y.round) (t + Y.round) ≡ 0) ⊎ (0 < lft (κ + spread S * Y.round) (t + Y.round))
          → lft (κ + spread S * Y.round) (t + Y.round) ≤ lft κ t
      go (inl e) = omega arith
      go (inr p) =
          let (u, b) = busy_from (arrive (jobs S) (κ + spread S * Y.round)) (t + Y.round)
          (omega (arith, left_is (jobs S) s R (κ + spread S * Y.round) (t + Y.round))) in
          from u b (dec_le u t)

  -- So as much is left then as now.
  pub left_later : Light S Y → (κ t : ℕ) → Y.start + Y.round ≤ t → left (jobs S) s (κ + spread S * Y.round) (t + Y.round) ≡ left (jobs S) s κ t
  left_later light κ t h = le_antisymm (left_down light κ t h) (left_up κ t)
