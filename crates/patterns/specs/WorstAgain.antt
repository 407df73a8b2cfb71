-- NO LARGER RESPONSE (`worst_ever`): a walk that rests so notes no larger response later.
use Rattle.std.specs.Prelude.{◌≡◌, refl, List, ℕ, suc, ◌+◌, ◌-◌, ◌≤◌, ◌<◌, get_or}
use Rattle.std.proofs.Common.{sym, ap, ◌∙◌, le_refl, suc-add, arith, ext_get_or}
use Rattle.std.proofs.Math.Decide.{dec_lt, le_ind}
use Rattle.values.specs.declared.Table.{Table}
use Rattle.wellformed.specs.Ranges.{Ranged}
use Rattle.backlog.specs.Shift.{Cycle}
use Rattle.backlog.proofs.TableSystem.{tie_system}
use Rattle.backlog.specs.Walk.{walked}
use Rattle.model.specs.Run.{tie_order}
use Rattle.backlog.specs.WalkWorst.{worst_by}
use Rattle.backlog.proofs.WalkWorst.{worst_length, none_past, Noting, noting, leaving, notes}
use Rattle.patterns.specs.RoundAgain.{Same, Rests, owner_same, again}

module _ (t : Table) (r : Ranged t) where
  -- What is noted of a task never falls.
  grows : (i : ℕ) → i < t.count → (m n : ℕ) → m ≤ n → get_or (worst_by t m) i 0 ≤ get_or (worst_by t n) i 0
  grows i l m n h = le_ind (λ (x : ℕ). get_or (worst_by t m) i 0 ≤ get_or (worst_by t x) i 0) (le_refl _)
      (λ k p g. next k (notes t r (tie_order t) k i l) g) n h
    where
      next : (k : ℕ) → Noting t r (tie_order t) k i → get_or (worst_by t m) i 0 ≤ get_or (worst_by t k) i 0 → get_or (worst_by t m) i 0 ≤ get_or
          (worst_by t (suc k)) i 0
      next k (noting q z e) g = omega (arith, e)
      next k (leaving q e) g = omega (arith, e)

  module _ (Y : Cycle (tie_system t r)) (u : ℕ) (rests : Rests t r Y u) where
    -- What a slot notes was noted a round before.
    worst_next : (n : ℕ) → u ≤ n → worst_by t (suc (n + Y.round)) ≡ worst_by t (n + Y.round)
    worst_next n m = ext_get_or 0 _ _ (worst_length t (tie_order t) _ ∙ sym (worst_length t (tie_order t) _)) (λ i l. elim (dec_lt i t.count) [
      | yes p ↦ noted_before i p (notes t r (tie_order t) (n + Y.round) i p) (notes t r (tie_order t) n i p)
      | no p ↦ none_past t (tie_order t) _ i (omega arith) ∙ sym (none_past t (tie_order t) _ i (omega arith))
    ])
      where
        now : Same (walked t n) (walked t (n + Y.round))
        now = again t r Y u rests n m

        next : Same (walked t (suc n)) (walked t (suc (n + Y.round)))
        next = rw suc-add at (again t r Y u rests (suc n) (omega arith))

        noted_before : (i : ℕ) → i < t.count → Noting t r (tie_order t) (n + Y.round) i → Noting t r (tie_order t) n i
            → get_or (worst_by t (suc (n + Y.round))) i 0 ≡ get_or (worst_by t (n + Y.round)) i 0
        noted_before i l (leaving q e) x = e
        noted_before i l (noting q z e) (leaving p f) = absurd (p (owner_same t now ∙ q) (ap (λ (w : List ℕ). get_or w i 0) next.lefts ∙ z))
        noted_before i l (noting q z e) (noting p y f) =
            omega (arith, e, f, ap (λ (w : List ℕ). get_or w i 0) next.waits, grows i l (suc n) (n + Y.round) (omega (arith, Y.round_pos)))

    pub worst_ever : (n : ℕ) → u + Y.round ≤ n → worst_by t n ≡ worst_by t (u + Y.round)
    worst_ever n h = le_ind (λ (x : ℕ). worst_by t x ≡ worst_by t (u + Y.round)) refl step n h
      where
        step : (k : ℕ) → u + Y.round ≤ k → worst_by t k ≡ worst_by t (u + Y.round) → worst_by t (suc k) ≡ worst_by t (u + Y.round)
        step k l e =
            let f : k ≡ k - Y.round + Y.round = omega arith in
            ap (λ (x : ℕ). worst_by t (suc x)) f ∙ worst_next (k - Y.round) (omega arith) ∙ ap (worst_by t) (sym f) ∙ e
