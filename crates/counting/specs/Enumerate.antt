-- Numbers that pass a test as the values of a growing f: the j-th that passes is f j.
use Rattle.std.specs.Prelude.{◌≡◌, refl, ◌↔◌, Bool, ◌&&◌, leb}
use Rattle.std.proofs.Math.Path.{sym, ap}
use Rattle.std.proofs.Common.{◌∙◌, le_refl, le_antisymm}
use Prim.Native.Nat.{ℕ, zero, suc, ◌+◌, ◌-◌, ◌*◌, min, ◌≤◌, ◌<◌}
use Rattle.std.proofs.Math.Nat.{le_step, min-eq_left, min-eq_right}
use Rattle.std.proofs.Math.Decide.{dec_le, dec_lt}
use native.Mathlib.Omega.{arith}
use Rattle.std.proofs.Math.Dec.{T}
use Rattle.model.specs.Notation.{bit, count}
use Rattle.counting.specs.Count.{tests, and_iff, same_test, bit_yes, bit_no, count_more, dec_t}
use Rattle.counting.specs.Below.{Grows, below, below_none, below_below, below_mono, below_at, below_after, below_same, count_inside}

-- Below n, the numbers that pass the test p are the values of f.
abbrev pub Enumerates : (ℕ → Bool) → (ℕ → ℕ) → ℕ → Type 0
Enumerates p f n = (u : ℕ) → u < n → T (p u) ↔ ((j : ℕ) × (f j ≡ u))

module _ (p : ℕ → Bool) (f : ℕ → ℕ) (g : Grows f) (n : ℕ) (e : Enumerates p f n) where
  -- As many pass below u as values of f lie there.
  pub count_enumerated : (u : ℕ) → u ≤ n → count p u ≡ below f u
  unfolding count
  count_enumerated zero l = sym (below_none f)
  count_enumerated (suc u) l = at (dec_t (p u)) (count_enumerated u (omega arith))
    where
      at : Dec (T (p u)) → count p u ≡ below f u → count p u + bit (p u) ≡ below f (suc u)
      at (yes t) ih =
          let (j, q) = (e u l).0 t in
          let a : below f u ≡ j = ap (below f) (sym q) ∙ below_at f g j in
          let b : below f (suc u) ≡ suc j = ap (λ (x : ℕ). below f (suc x)) (sym q) ∙ below_after f g j in
          omega (arith, bit_yes (p u) t)
      at (no t) ih = omega (arith, bit_no (p u) t, below_same f g u (suc u) (omega arith) (λ j m. skipped j m (dec_lt (f j) u)))
        where
          skipped : (j : ℕ) → f j < suc u → Dec (f j < u) → f j < u
          skipped j m (yes h) = h
          skipped j m (no h) = absurd (t ((e u l).1 (j, omega arith)))

  -- One that passes is the value of f at the number of those before.
  pub enumerated_at : (u : ℕ) → u < n → T (p u) → f (count p u) ≡ u
  enumerated_at u l t =
      let (j, q) = (e u l).0 t in
      let a : below f u ≡ j = ap (below f) (sym q) ∙ below_at f g j in
      ap f (count_enumerated u (omega arith) ∙ a) ∙ q

-- Of the first m numbers, those that pass from `from` on and by d before `to`.
count_window : (p : ℕ → Bool) (from d to m : ℕ) → count (λ u. p u && (leb from u && leb (u + d) to)) m ≡ count p (min m (suc to - d)) - count p (min m from)
unfolding count
count_window p from d to zero = rw (min-eq_left {n = 0} {m = suc to - d} (omega arith), min-eq_left {n = 0} {m = from} (omega arith)) (omega arith)
count_window p from d to (suc m) = go (dec_le from m) (dec_lt m (suc to - d)) (count_window p from d to m)
  where
    now : T (p m && (leb from m && leb (m + d) to)) → T (p m) × (from ≤ m) × (m < suc to - d)
    now t =
        let (x, y) = (and_iff (p m) (leb from m && leb (m + d) to)).0 t in
        let (v, w) = (and_iff (leb from m) (leb (m + d) to)).0 y in (x, omega tests, omega tests)

    same : from ≤ m → m < suc to - d → (p m && (leb from m && leb (m + d) to)) ≡ p m
    same x y =
        same_test _ _ (λ t. (now t).0) (λ t. (and_iff (p m) (leb from m && leb (m + d) to)).1 (
          t,
          (and_iff (leb from m) (leb (m + d) to)).1 (omega tests, omega tests),
        ))

    go : Dec (from ≤ m) → Dec (m < suc to - d) → count (λ u. p u && (leb from u && leb (u + d) to)) m ≡ count p (min m (suc to - d)) - count p (min m from)
        → count (λ u. p u && (leb from u && leb (u + d) to)) m + bit (p m && (leb from m && leb (m + d) to))
        ≡ count p (min (suc m) (suc to - d)) - count p (min (suc m) from)
    go (yes x) (yes y) ih =
        rw (
          same x y,
          min-eq_left {n = suc m} {m = suc to - d} y,
          min-eq_right {n = from} {m = suc m} (omega arith),
          ih,
          min-eq_left {n = m} {m = suc to - d} (omega arith),
          min-eq_right {n = from} {m = m} x,
        ) (omega (arith, count_more p from m x))
    go (yes x) (no y) ih =
        rw (
          min-eq_right {n = suc to - d} {m = suc m} (omega arith),
          min-eq_right {n = from} {m = suc m} (omega arith),
          ih,
          min-eq_right {n = suc to - d} {m = m} (omega arith),
          min-eq_right {n = from} {m = m} x,
        ) (omega
        (arith, bit_no (p m && (leb from m && leb (m + d) to)) (λ t. y (now t).2)))
    go (no x) y ih =
        rw (min-eq_left {n = suc m} {m = from} (omega arith), ih, min-eq_left {n = m} {m = from} (omega arith))
        (omega (
          arith,
          bit_no (p m && (leb from m && leb (m + d) to)) (λ t. x (now t).1),
          count_more p (min m (suc to - d)) m (omega arith),
          count_more p (min (suc m) (suc to - d)) (suc m) (omega arith),
        ))

-- So of those that are the values of f as many lie in a window as values of f.
pub count_inside_enumerated : (p : ℕ → Bool) (f : ℕ → ℕ) (g : Grows f) (from d to : ℕ) → Enumerates p f to → 0 < d
    → count (λ u. p u && (leb from u && leb (u + d) to)) to ≡ count (λ j. leb from (f j) && leb (f j + d) to) to
count_inside_enumerated p f g from d to e pos =
    count_window p from d to to ∙ at (dec_le from to) ∙ sym (count_inside f (λ j. f j + d) g (λ j. omega (arith, g j)) (λ j. omega arith) from to)
  where
    earlier : below (λ j. f j + d) (suc to) ≡ below f (suc to - d)
    earlier =
        le_antisymm
        (below_below (λ j. f j + d) f (λ j. omega (arith, g j)) g (suc to) (suc to - d) (λ j l. omega arith))
        (below_below f (λ j. f j + d) g (λ j. omega (arith, g j)) (suc to - d) (suc to) (λ j l. omega arith))

    upto : (u : ℕ) → u ≤ to → count p u ≡ below f u
    upto = count_enumerated p f g to e

    at : Dec (from ≤ to) → count p (min to (suc to - d)) - count p (min to from) ≡ below (λ j. f j + d) (suc to) - below f from
    at (yes h) =
        rw (
          min-eq_right {n = suc to - d} {m = to} (omega arith),
          min-eq_right {n = from} {m = to} h,
          upto (suc to - d) (omega arith),
          upto from h,
          earlier,
        ) refl
    at (no h) =
        rw (
          min-eq_right {n = suc to - d} {m = to} (omega arith),
          min-eq_left {n = to} {m = from} (omega arith),
          upto (suc to - d) (omega arith),
          upto to (le_refl to),
          earlier,
        )
        (omega (arith, below_mono f g (suc to - d) to (omega arith), below_mono f g (suc to - d) from (omega arith)))

-- Of the numbers below n that pass one has j before it, if more than j pass.
pub passed_at : (p : ℕ → Bool) (n j : ℕ) → j < count p n → (u : ℕ) × (u < n) × T (p u) × (count p u ≡ j)
unfolding count
passed_at p zero j l = absurd (omega arith)
passed_at p (suc n) j l = go (dec_t (p n)) (dec_lt j (count p n)) (passed_at p n j)
  where
    go : Dec (T (p n)) → Dec (j < count p n) → (j < count p n → (u : ℕ) × (u < n) × T (p u) × (count p u ≡ j)) → (u : ℕ) × (u < suc n) × T (p u)
        × (count p u ≡ j)
    go t (yes h) ih = let (u, a, b, c) = ih h in (u, le_step a, b, c)
    go (yes t) (no h) ih = (n, le_refl (suc n), t, omega (arith, bit_yes (p n) t))
    go (no t) (no h) ih = absurd (omega (arith, bit_no (p n) t))

-- Those before a larger number that passes are more.
pub count_passed : (p : ℕ → Bool) (u v : ℕ) → T (p u) → u < v → count p u < count p v
unfolding count
count_passed p u v t l = omega (arith, count_more p (suc u) v l, bit_yes (p u) t)

-- So two that pass with as many before are one.
pub passed_same : (p : ℕ → Bool) (u v : ℕ) → T (p u) → T (p v) → count p u ≡ count p v → u ≡ v
passed_same p u v s t e = go (dec_lt u v) (dec_lt v u)
  where
    go : Dec (u < v) → Dec (v < u) → u ≡ v
    go (yes l) m = absurd (omega (arith, count_passed p u v s l))
    go (no l) (yes m) = absurd (omega (arith, count_passed p v u t m))
    go (no l) (no m) = omega arith

-- The numbers that pass below n in order, and then others, gap by gap.
abbrev onward : (p : ℕ → Bool) (gap n j : ℕ) → Dec (j < count p n) → ℕ
onward p gap n j (yes l) = (passed_at p n j l).0
onward p gap n j (no l) = n + suc (j - count p n) * gap

unfoldable pub nth : (ℕ → Bool) → ℕ → ℕ → ℕ → ℕ
nth p gap n j = onward p gap n j (dec_lt j (count p n))

module _ (p : ℕ → Bool) (gap : ℕ) where
  -- A value below n passes, with j before it.
  pub nth_passes : (n j : ℕ) → nth p gap n j < n → T (p (nth p gap n j)) × (count p (nth p gap n j) ≡ j)
  unfolding nth
  nth_passes n j h = go (dec_lt j (count p n)) h
    where
      go : (d : Dec (j < count p n)) → onward p gap n j d < n → T (p (onward p gap n j d)) × (count p (onward p gap n j d) ≡ j)
      go (yes l) x = let (u, a, t, c) = passed_at p n j l in (t, c)
      go (no l) x = absurd (omega arith)

  -- One that passes below n is the value at the number of those before.
  pub nth_at : (n u : ℕ) → u < n → T (p u) → nth p gap n (count p u) ≡ u
  unfolding nth
  nth_at n u l t = go (dec_lt (count p u) (count p n))
    where
      go : (d : Dec (count p u < count p n)) → onward p gap n (count p u) d ≡ u
      go (yes h) = let (v, a, s, c) = passed_at p n (count p u) h in passed_same p v u s t c
      go (no h) = absurd (omega (arith, count_passed p u n t l))

  pub nth_enumerates : (n : ℕ) → Enumerates p (nth p gap n) n
  nth_enumerates n u l = (λ t. (count p u, nth_at n u l t), λ (j, e). rw e at (nth_passes n j (omega arith)).0)

  -- If those that pass are a gap apart, so are they all.
  pub nth_apart : (n : ℕ) → ((u v : ℕ) → T (p u) → T (p v) → u < v → u + gap ≤ v) → (j : ℕ) → nth p gap n j + gap ≤ nth p gap n (suc j)
  unfolding nth
  nth_apart n far j = go (dec_lt j (count p n)) (dec_lt (suc j) (count p n))
    where
      go : (d : Dec (j < count p n)) (e : Dec (suc j < count p n)) → onward p gap n j d + gap ≤ onward p gap n (suc j) e
      go (yes l) (yes m) =
          let (u, a, s, c) = passed_at p n j l in
          let (v, b, t, d) = passed_at p n (suc j) m in
          far u v s t (elim (dec_lt u v) [ yes h ↦ h | no h ↦ absurd (omega (arith, count_more p v u (omega arith))) ])
      go (yes l) (no m) = let (u, a, s, c) = passed_at p n j l in omega arith
      go (no l) (yes m) = absurd (omega arith)
      go (no l) (no m) = let e : suc j - count p n ≡ suc (j - count p n) = omega arith in rw e (omega arith)

  -- What lies below n and n' is the same for both.
  pub nth_same : (n n' t j : ℕ) → t ≤ n → t ≤ n' → nth p gap n j < t → nth p gap n' j ≡ nth p gap n j
  nth_same n n' t j a b h = let (s, c) = nth_passes n j (omega arith) in ap (nth p gap n') (sym c) ∙ nth_at n' (nth p gap n j) (omega arith) s
