-- DECIDED UP TO A BOUND (`quick_decided`): if all instants beyond a bound and up to H have enough, those up to the bound decide the quick test.
use Rattle.std.specs.Prelude.{◌≡◌, ℕ, zero, suc, ◌+◌, ◌-◌, ◌*◌, ◌/◌, ◌≤◌, ◌<◌}
use Rattle.std.proofs.Math.Path.{refl}
use Rattle.std.proofs.Common.{◌∙◌, arith}
use Rattle.std.proofs.Math.Nat.{add-mul-div_right, div-mul_cancel, mul-add}
use Rattle.std.proofs.Math.Decide.{dec_le}
use Rattle.values.specs.declared.Table.{Table}
use Rattle.model.specs.Notation.{every}
use Rattle.model.specs.Tasks.{task, round, load}
use Rattle.model.specs.Patterns.{quick_pass}
use Rattle.counting.specs.Count.{tests, same_test, every_iff}
use Rattle.counting.specs.Sum.{sum_eq, sum_add}
use Rattle.wellformed.specs.Ranges.{Ranged}
use Rattle.wellformed.specs.Round.{round_pos, period_divides, share}
use Rattle.patterns.specs.Asked.{due_by, asked_of, asked}
use Rattle.patterns.proofs.Asked.{asked_none, quick_asked}
use Rattle.patterns.specs.Decided.{enough, EnoughBeyond}

module _ (t : Table) (r : Ranged t) where
  -- A round later the jobs of one round more are due.
  asked_later : (u : ℕ) → asked t (u + round t) ≡ asked t u + load t
  unfolding asked load
  asked_later u =
      sum_eq t.count (asked_of t (u + round t)) (λ i. asked_of t u i + share t (round t) i) each ∙ sum_add t.count (asked_of t u) (share t (round t))
    where
      each : (i : ℕ) → i < t.count → asked_of t (u + round t) i ≡ asked_of t u i + share t (round t) i
      each i l =
          let k = task t i in
          let later : u + round t + k.period - k.deadline ≡ u + k.period - k.deadline + round t / k.period * k.period = omega
          (arith, div-mul_cancel k.period (period_divides t r i l), (r.each i l).deadline_le) in
          rw (
            later,
            add-mul-div_right (u + k.period - k.deadline) (round t / k.period) (r.each i l).period_pos,
            mul-add k.cost (due_by k u) (round t / k.period),
          ) refl

  module _ (light : load t ≤ round t) (bound : ℕ) (beyond : EnoughBeyond t bound) where
    -- Round by round.
    everywhere : ((u : ℕ) → u ≤ bound → asked t u ≤ u) → (n u : ℕ) → u ≤ n → asked t u ≤ u
    everywhere h zero u l = let e : u ≡ 0 = omega arith in rw e (omega (arith, asked_none t r))
    everywhere h (suc n) u l = go (dec_le u bound) (dec_le u (round t)) (λ below. everywhere h n (u - round t) below)
      where
        go : Dec (u ≤ bound) → Dec (u ≤ round t) → (u - round t ≤ n → asked t (u - round t) ≤ u - round t) → asked t u ≤ u
        go (yes p) d ih = h u p
        go (no p) (yes q) ih = beyond u (omega arith) q
        go (no p) (no q) ih =
            let e : u - round t + round t ≡ u = omega arith in
            omega (arith, rw e at (asked_later (u - round t)), ih (omega (arith, round_pos t r)))

    pub quick_decided : quick_pass t ≡ every (enough t) (suc bound)
    quick_decided =
        same_test (quick_pass t) (every (enough t) (suc bound))
        (λ h. (every_iff (enough t) (suc bound)).1 (λ u l. omega (tests, ((quick_asked t r).0 h).1 u)))
        (λ h. (quick_asked t r).1 (light, λ u. everywhere (λ v l. omega (tests, (every_iff (enough t) (suc bound)).0 h v (omega arith))) u u (omega arith)))
