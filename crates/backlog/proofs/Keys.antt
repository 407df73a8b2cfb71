-- THE KEYS OF A TABLE'S JOBS (`keys_apart`): an earlier deadline has the lower key, ties go by the order, and no two tasks share one.
use Rattle.std.specs.Prelude.{◌≡◌, ◌↔◌, ℕ, suc, ◌+◌, ◌-◌, ◌*◌, ◌%◌, ◌≤◌, ◌<◌}
use Rattle.std.proofs.Common.{sym, ap, ◌∙◌, inl, inr, mul-le-mul_right, arith}
use Rattle.std.proofs.Math.Decide.{dec_le}
use Rattle.std.proofs.Math.Arith.{digits_mod}
use Rattle.counting.specs.Below.{Grows}
use Rattle.counting.specs.Search.{le_largest}
use Rattle.backlog.specs.Choice.{standing, Ahead}
use Rattle.backlog.specs.System.{System, size, period_of, spread, Apart, due_from, key_from}

module _ (S : System) where
  pub period_pos : (i : ℕ) → i < size S → 0 < period_of S i
  period_pos i l = omega (arith, S.deadline_pos i l, S.deadline_le i l)

  -- Every task stands below the spread.
  pub standing_low : (i : ℕ) → i < size S → standing S.rank i < spread S
  unfolding spread
  standing_low i l = omega (arith, S.size_le, le_largest (size S) S.rank i l)

  -- What comes no later has no larger key.
  pub keys_order : (rel : ℕ → ℕ → ℕ) (i j k m : ℕ) → i < size S → Ahead (due_from S rel i j) (standing S.rank i) (due_from S rel k m)
      (standing S.rank k) → key_from S rel i j ≤ key_from S rel k m
  keys_order rel i j k m l (inl a) = omega (arith, standing_low i l, mul-le-mul_right (spread S) a)
  keys_order rel i j k m l (inr (e, r)) = omega (arith, ap (λ (x : ℕ). x * spread S) e)

module _ (S : System) (rel : ℕ → ℕ → ℕ) (apart : Apart S rel) where
  pub dues_grow : (i : ℕ) → i < size S → Grows (due_from S rel i)
  dues_grow i l j = omega (arith, apart i j l, period_pos S i l)

  pub keys_grow : (i : ℕ) → i < size S → Grows (key_from S rel i)
  keys_grow i l j = let some : 0 < spread S = omega (arith, standing_low S i l) in omega (arith, mul-le-mul_right (spread S) (dues_grow i l j))

  pub keys_apart : (i j k l : ℕ) → i < size S → k < size S → key_from S rel i j ≡ key_from S rel k l → i ≡ k
  keys_apart i j k l a b e =
      let same : standing S.rank i ≡ standing S.rank k = sym (digits_mod (due_from S rel i j) (standing_low S i a))
      ∙ ap (λ (x : ℕ). x % spread S) e ∙ digits_mod (due_from S rel k l) (standing_low S k b) in
      omega (arith, S.size_le)

  pub keys_cut : (i j t : ℕ) → i < size S → (key_from S rel i j ≤ t * spread S + (spread S - 1)) ↔ (due_from S rel i j ≤ t)
  keys_cut i j t l = (λ h. under (due_from S rel i j) h (dec_le (due_from S rel i j) t), λ h. over (due_from S rel i j) h)
    where
      under : (d : ℕ) → d * spread S + standing S.rank i ≤ t * spread S + (spread S - 1) → Dec (d ≤ t) → d ≤ t
      under d h (yes p) = p
      under d h (no p) = let q : suc t ≤ d = omega arith in absurd (omega (arith, standing_low S i l, mul-le-mul_right (spread S) q))

      over : (d : ℕ) → d ≤ t → d * spread S + standing S.rank i ≤ t * spread S + (spread S - 1)
      over d h = omega (arith, standing_low S i l, mul-le-mul_right (spread S) h)
