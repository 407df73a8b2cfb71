-- EVERY JOB FINISHES (`ends_ever`), whether in time or not: only finitely much work comes before it.
use Rattle.std.specs.Prelude.{◌≡◌, ◌⊎◌, ℕ, suc, ◌+◌, ◌≤◌, ◌<◌, min}
use Rattle.std.proofs.Common.{inl, inr, eq-zero-or-pos, le_refl, arith}
use Rattle.std.proofs.Math.Decide.{dec_lt}
use Rattle.model.specs.Notation.{sum}
use Rattle.counting.specs.Sum.{sum_le}
use Rattle.backlog.specs.Queue.{busy_from}
use Rattle.backlog.specs.Streams.{Jobs, released, Run, work, left, arrive, arrived}
use Rattle.backlog.specs.Left.{left_is, done_of_none_left}
use Rattle.backlog.specs.Finish.{DoneFirst, first_done}

module _ (J : Jobs) (s : ℕ → ℕ → ℕ) (R : Run J s) where
  -- All work up to a key, and that no more of it ever arrives.
  abbrev total : ℕ → ℕ
  total κ = sum J.n (work J κ)

  arrived_le : (κ t : ℕ) → sum t (arrive J κ) ≤ total κ
  arrived_le κ t = omega (arith, arrived J κ t, sum_le J.n (λ i. min (work J κ i) (released J t i)) (work J κ) (λ i l. omega arith))

  -- So at some time after any other none of it is left.
  none_left_after : (κ u : ℕ) → (t : ℕ) × (u < t) × (left J s κ t ≡ 0)
  none_left_after κ u = go (suc (u + total κ)) (omega arith) (eq-zero-or-pos (left J s κ (suc (u + total κ))))
    where
      go : (t : ℕ) → u + total κ < t → (left J s κ t ≡ 0) ⊎ (0 < left J s κ t) → (t : ℕ) × (u < t) × (left J s κ t ≡ 0)
      go t far (inl e) = (t, omega arith, e)
      go t far (inr p) =
          let (v, b) = busy_from (arrive J κ) t (omega (arith, left_is J s R κ t)) in (
            v,
            elim (dec_lt u v) [ yes h ↦ h | no h ↦ absurd (omega (arith, b.exact, b.early, arrived_le κ t, left_is J s R κ t)) ],
            omega (arith, b.empty, left_is J s R κ v),
          )

  pub ends_ever : (i j : ℕ) → i < J.n → (f : ℕ) × DoneFirst J s i j f
  ends_ever i j l =
      let (t, after, none) = none_left_after (J.key i j) (J.rel i j) in
      let (f, h, d, c) = first_done J s R i j l t (done_of_none_left J s (J.key i j) t i j l (le_refl _) after none) in
      (f, d)
