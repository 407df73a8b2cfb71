-- FINISH (`finish`): a job is done first when, first after its release, no work up to its key is left.
use Rattle.std.specs.Prelude.{◌≡◌, ◌↔◌, ℕ, zero, suc, ◌*◌, ◌≤◌, ◌<◌}
use Rattle.std.proofs.Common.{le_refl, mul-pos, zero-lt-suc, lt_of_not-le, arith}
use Rattle.std.proofs.Math.Nat.{lt_of_mul-lt-mul_left}
use Rattle.std.proofs.Math.Decide.{dec_le}
use Rattle.model.specs.Notation.{Least}
use Rattle.counting.specs.Search.{least}
use Rattle.counting.specs.Below.{lt_below}
use Rattle.backlog.specs.Streams.{Jobs, Run, left}
use Rattle.backlog.specs.Left.{done_of_none_left, served_le, none_left_of_done}

-- Job j of stream i is done at t, and not before.
abbrev pub DoneFirst : Jobs → (ℕ → ℕ → ℕ) → ℕ → ℕ → ℕ → Type 0
DoneFirst J s i j = Least (λ t. J.cost i * suc j ≤ s t i)

module _ (J : Jobs) (s : ℕ → ℕ → ℕ) (R : Run J s) (i j : ℕ) (l : i < J.n) where
  -- It is done; no work up to its key is left after its release.
  abbrev Done : ℕ → Type 0
  Done t = J.cost i * suc j ≤ s t i

  abbrev NoneLeft : ℕ → Type 0
  NoneLeft t = (J.rel i j < t) × (left J s (J.key i j) t ≡ 0)

  left_of_first : (t : ℕ) → Least Done t → NoneLeft t
  left_of_first zero (d, f) = absurd (omega (arith, R.start i l, mul-pos (J.cost_pos i l) (zero-lt-suc j)))
  left_of_first (suc t) (d, f) = (
    (lt_below (J.rel i) (J.rel_grows i l) (suc t) j).0
        (lt_of_mul-lt-mul_left (J.cost i) (omega (arith, served_le J s R (suc t) i l, J.cost_pos i l))),
    none_left_of_done J s R t i j l (lt_of_not-le (f t (le_refl _))) d,
  )

  -- What is done by t was done first at some f up to t, after its release, and with no work left up to its key.
  pub first_done : (t : ℕ) → Done t → (f : ℕ) × (f ≤ t) × DoneFirst J s i j f × NoneLeft f
  first_done t d = let (f, h, q) = least Done (λ t. dec_le _ _) t d in (f, h, q, left_of_first f q)

  pub finish : (t : ℕ) → DoneFirst J s i j t ↔ Least NoneLeft t
  finish t = (fwd, bwd)
    where
      done_of_left : (u : ℕ) → NoneLeft u → Done u
      done_of_left u (r, e) = done_of_none_left J s (J.key i j) u i j l (le_refl _) r e

      fwd : Least Done t → Least NoneLeft t
      fwd (d, f) = (left_of_first t (d, f), λ u a c. f u a (done_of_left u c))

      bwd : Least NoneLeft t → Least Done t
      bwd (c, f) = (done_of_left t c, λ u a d. let (v, b, e, n) = first_done u d in f v (omega arith) n)
