-- THE IDLE INSTANT OF A LEAP (`idle_done`): while a job is open no instant is idle; the end of the last open one is; and with no job open the next instant is.
use Rattle.std.specs.Prelude.{◌≡◌, Bool, true, cond, ℕ, suc, ◌+◌, ◌≤◌, ◌<◌, T, ltb, eqb}
use Rattle.std.proofs.Common.{subst, ◌∙◌, le_refl, arith, lt-ltb, le-ltb, eqb→eq}
use Rattle.std.proofs.Math.Decide.{ℕ_discrete, dec_lt}
use Rattle.values.specs.declared.Table.{Table}
use Rattle.model.specs.Limits.{task_limit}
use Rattle.model.specs.Tasks.{round, load}
use Rattle.model.specs.Run.{tie_order}
use Rattle.model.specs.Dispatcher.{left_of}
use Rattle.model.specs.Idle.{idle_at}
use Rattle.counting.specs.Count.{is_true, every_iff, eq→eqb, same_test}
use Rattle.wellformed.specs.Ranges.{Ranged}
use Rattle.backlog.specs.Walk.{walked, Clear}
use Rattle.patterns.specs.WalkIdle.{walk_idle_at}
use Rattle.walks.specs.Tally.{idle_by, idle_then, idle_kept, idle_stays, idle_next}
use Rattle.leaps.specs.Leap.{L, owner, Within, Leapt, within_less, leap}

module _ (t : Table) (r : Ranged t) (light : load t ≤ round t) {n : ℕ} (clear : Clear t (suc n)) where
  abbrev o : ℕ
  o = owner t r n

  -- An instant is idle exactly if no task has a slot left.
  abbrev shut_at : ℕ → ℕ → Bool
  shut_at v i = eqb (left_of (walked t v) i) 0

  idle_shut : (v : ℕ) → Clear t v → T (idle_at t (tie_order t) v) → (i : ℕ) → i < t.count → left_of (walked t v) i ≡ 0
  idle_shut v c h i l = eqb→eq (left_of (walked t v) i) 0 ((every_iff (shut_at v) t.count).0 (rw (walk_idle_at t r v c) h) i l)

  shut_idle : (v : ℕ) → Clear t v → ((i : ℕ) → i < t.count → left_of (walked t v) i ≡ 0) → T (idle_at t (tie_order t) v)
  shut_idle v c h = subst T (walk_idle_at t r v c) ((every_iff (shut_at v) t.count).1 (λ i l. eq→eqb (left_of (walked t v) i) 0 (h i l)))

  -- Before the owner's job is done nothing is idle.
  never : (e : ℕ) → Within t r n e → o < t.count → (v : ℕ) → n < v → v ≤ e → v < n + L t r n o → T (idle_at t (tie_order t) v) → ⊥
  never e b l v a m s h = let x = leap t r n clear v a (within_less t r n v e m b) in omega (arith, x.rest l, idle_shut v x.clear h o l)

  pub idle_busy : (e : ℕ) → n < e → Within t r n e → o < t.count → e < n + L t r n o → idle_by t e ≡ idle_by t n
  idle_busy e a b l s = idle_stays t r light n e (omega arith) (λ v p q. never e b l v p q (omega arith))

  -- The owner's job is done at e: that is an idle instant if it was the last open one.
  pub idle_done : (e : ℕ) → n < e → Within t r n e → o < t.count → e ≡ n + L t r n o → (last : Bool)
      → (T last → (i : ℕ) → i < t.count → (o ≡ i → ⊥) → 0 < L t r n i → ⊥) → (((i : ℕ) → i < t.count → (o ≡ i → ⊥) → 0 < L t r n i → ⊥) → T last)
      → idle_by t e ≡ idle_then (idle_by t n) last e
  idle_done e a b l s last none only =
      idle_next t r light n e (omega arith) a (λ v p q. never e b l v p (omega arith) (omega arith)) last
      (same_test _ _ (λ h. only (λ i m q p. omega (arith, x.others i m q, idle_shut e x.clear h i m))) (λ h. shut_idle e x.clear (shut (none h))))
    where
      x : Leapt t r n e
      x = leap t r n clear e a b

      shut : ((i : ℕ) → i < t.count → (o ≡ i → ⊥) → 0 < L t r n i → ⊥) → (i : ℕ) → i < t.count → left_of (walked t e) i ≡ 0
      shut z i m = elim (ℕ_discrete o i) [
        | yes q ↦ rw (← q) (omega (arith, x.rest l))
        | no q ↦ elim (dec_lt 0 (L t r n i)) [ yes p ↦ absurd (z i m q p) | no p ↦ omega (arith, x.others i m q) ]
      ]

  -- No job is open: the next instant is idle.
  pub idle_rest : (e : ℕ) → n < e → Within t r n e → ((i : ℕ) → i < t.count → 0 < L t r n i → ⊥) → o ≡ task_limit
      → idle_by t e ≡ cond (ltb 0 (idle_by t n)) (idle_by t n) (suc n)
  idle_rest e a b shut none = elim (dec_lt 0 (idle_by t n)) [
    | yes p ↦ rw (lt-ltb 0 (idle_by t n) p) (idle_kept t n e (omega arith) p)
    | no p ↦ rw (le-ltb 0 (idle_by t n) (omega arith)) (idle_kept t (suc n) e a (omega (arith, next p)) ∙ next p)
  ]
    where
      x : Leapt t r n (suc n)
      x = leap t r n clear (suc n) (le_refl (suc n)) (within_less t r n (suc n) e a b)

      closed : (i : ℕ) → i < t.count → left_of (walked t (suc n)) i ≡ 0
      closed i l = elim (dec_lt 0 (L t r n i)) [ yes p ↦ absurd (shut i l p) | no p ↦ omega (arith, x.others i l (λ q. absurd (omega (arith, r.few)))) ]

      next : ¬ (0 < idle_by t n) → idle_by t (suc n) ≡ suc n
      next p =
          let e : idle_by t (suc n) ≡ cond (ltb 0 (idle_by t n)) (idle_by t n) (suc n) = idle_next t r light n (suc n) (omega arith) (le_refl (suc n))
          (λ v a b. absurd (omega arith)) true (is_true _ (shut_idle (suc n) x.clear closed)) in
          e ∙ rw (le-ltb 0 (idle_by t n) (omega arith))
