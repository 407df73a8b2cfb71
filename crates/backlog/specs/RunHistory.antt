-- THE RUN IS A HISTORY (`run_history`) with nothing reported, where each job is due by the next release and every deadline is met. So what is asked
-- of histories can be met.
use Rattle.std.specs.Prelude.{◌≡◌, refl, ◌≢◌, ℕ, zero, suc, ◌-◌, ◌*◌, ◌/◌, ◌≤◌, ◌<◌}
use Rattle.std.proofs.Common.{ap, inl, inr, arith}
use Rattle.std.proofs.Math.Nat.{div-eq_of_lt-le}
use Rattle.counting.specs.Below.{below, lt_below, below_none}
use Rattle.backlog.specs.Streams.{Run, SlotOf, released, Jobs}
use Rattle.backlog.specs.Left.{served_le, served_mono}
use Rattle.backlog.specs.Criterion.{Met, Dues, Constrained}
use Rattle.backlog.specs.Domination.{Releases, releases, open_key}
use Rattle.backlog.specs.History.{History, Goes}

module _ (J : Jobs) (D : Dues J) (constrained : Constrained J D) (s : ℕ → ℕ → ℕ) (R : Run J s) (met : Met J D s) where
  -- The jobs before the last one released are done.
  earlier_done : (t i j : ℕ) → i < J.n → below (J.rel i) (suc t) ≡ suc j → J.cost i * j ≤ s t i
  earlier_done t i zero l e = omega arith
  earlier_done t i (suc j) l e =
      let r : J.rel i (suc j) < suc t = (lt_below (J.rel i) (J.rel_grows i l) (suc t) (suc j)).0 (omega arith) in
      omega (arith, met i j l, served_mono J s R i l (D.due i j) t (omega (arith, constrained i j l)))

  -- A stream with released work to do is at the last job that is released.
  at_last : (t i : ℕ) → i < J.n → s t i < released J (suc t) i → s t i / J.cost i ≡ below (J.rel i) (suc t) - 1
  at_last t i l h = go (below (J.rel i) (suc t)) refl
    where
      go : (b : ℕ) → below (J.rel i) (suc t) ≡ b → s t i / J.cost i ≡ below (J.rel i) (suc t) - 1
      go zero e = absurd (omega (arith, ap (λ (y : ℕ). J.cost i * y) e))
      go (suc j) e =
          let v : J.cost i * (below (J.rel i) (suc t) - 1) ≡ J.cost i * j = ap (λ (y : ℕ). J.cost i * y) (omega arith) in
          div-eq_of_lt-le (J.cost i) (omega (arith, earlier_done t i j l e)) (omega (arith, ap (λ (y : ℕ). J.cost i * y) e))

  abbrev waiting : ℕ → ℕ → ℕ
  waiting t i = released J (suc t) i - s t i

  abbrev gave : ℕ → ℕ → ℕ
  gave t i = s (suc t) i - s t i

  pub run_history : History J D (λ t i. ⊥) (λ t i. released J t i - s t i) waiting gave
  run_history = record {
    start = λ i l. rw (below_none (J.rel i)) (omega arith);
    fresh = λ t i j l e. fresh t i j l e (releases J i t l);
    kept = λ t i l n. inl (kept t i n (releases J i t l));
    spent = λ t i l. omega (arith, served_le J s R (suc t) i l, served_mono J s R i l t (suc t) (omega arith));
    slot = λ t. slot t (R.slot t);
  }
    where
      fresh : (t i j : ℕ) → i < J.n → J.rel i j ≡ t → Releases J i t → waiting t i ≡ J.cost i
      fresh t i j l e (inr (n, q)) = absurd (n j e)
      fresh t i j l e (inl (k, q, a, b)) =
          omega (arith, earlier_done t i k l b, served_le J s R t i l, ap (λ (x : ℕ). J.cost i * x) a, ap (λ (x : ℕ). J.cost i * x) b)

      kept : (t i : ℕ) → ((j : ℕ) → J.rel i j ≢ t) → Releases J i t → waiting t i ≡ released J t i - s t i
      kept t i n (inl (k, q, a, b)) = absurd (n k q)
      kept t i n (inr (n', e)) = rw e

      slot : (t : ℕ) → SlotOf J t (s t) (s (suc t)) → Goes J waiting gave t
      slot t (inl d) = inl (λ i l. omega (arith, d.none i l))
      slot t (inr (k, d)) =
          inr (k, d.bound, omega (arith, d.ready), λ i l p. least_of i l (omega arith), omega (arith, d.one), λ i l e. omega (arith, d.rest i l e))
        where
          least_of : (i : ℕ) → i < J.n → s t i < released J (suc t) i → open_key J (suc t) k ≤ open_key J (suc t) i
          least_of i l p = omega (arith, d.least i l p, ap (J.key i) (at_last t i l p), ap (J.key k) (at_last t k d.bound d.ready))
