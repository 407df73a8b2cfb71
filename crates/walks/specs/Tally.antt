-- THE TALLY OF A WALK (`idle_next`): before slot n a walk has noted the worst responses and the first idle instant so far, and the latter goes on like this.
use Rattle.std.specs.Prelude.{◌≡◌, refl, List, Bool, true, false, cond, ℕ, ◌≤◌, ◌<◌, T, ltb, replicate}
use Rattle.std.proofs.Common.{sym, subst, ◌∙◌, arith, lt-ltb, le-ltb}
use Rattle.std.proofs.Math.Decide.{dec_le}
use Rattle.values.specs.declared.Table.{Table}
use Rattle.model.specs.Limits.{task_limit}
use Rattle.model.specs.Tasks.{round, load}
use Rattle.model.specs.Run.{tie_order}
use Rattle.model.specs.Idle.{idle_at, first_idle}
use Rattle.counting.specs.Search.{first_from, least_le}
use Rattle.wellformed.specs.Ranges.{Ranged}
use Rattle.backlog.specs.WalkWorst.{worst_by, worst_seen}
use Rattle.patterns.specs.FirstIdle.{first_idle_lem}

-- The first idle instant after 0 if it is at most n, and else 0.
unfoldable pub idle_by : Table → ℕ → ℕ
idle_by t n = let u = first_idle t (tie_order t) in cond (ltb n u) 0 u

-- The idle instant found before, or n if n is one, or 0.
abbrev pub idle_then : ℕ → Bool → ℕ → ℕ
idle_then idle here n = cond (ltb 0 idle) idle (cond here n 0)

pub idle_same : (idle : ℕ) → cond (ltb 0 idle) idle 0 ≡ idle
idle_same idle = elim (dec_le idle 0) [ yes p ↦ rw (le-ltb 0 idle p) (omega arith) | no p ↦ rw (lt-ltb 0 idle (omega arith)) ]

pub record Tally (t : Table) (n : ℕ) (worst : List ℕ) (idle : ℕ) : Type 0 where
  pub worsts : worst ≡ worst_by t n
  pub idles : idle ≡ idle_by t n

-- The first idle instant is after 0.
idle_later : (t : Table) → 0 < first_idle t (tie_order t)
unfolding first_idle
idle_later t = first_from (idle_at t (tie_order t)) 1 (round t)

pub tally_start : (t : Table) → Tally t 0 (replicate task_limit 0) 0
unfolding worst_seen idle_by
tally_start t = record { worsts = refl; idles = rw (lt-ltb 0 (first_idle t (tie_order t)) (idle_later t)) refl }

-- One that was found is the first, and one that was not found is later.
pub idle_is : (t : Table) (n : ℕ) → first_idle t (tie_order t) ≤ n → idle_by t n ≡ first_idle t (tie_order t)
unfolding idle_by
idle_is t n h = rw (le-ltb n (first_idle t (tie_order t)) h)

pub idle_none : (t : Table) (n : ℕ) → n < first_idle t (tie_order t) → idle_by t n ≡ 0
unfolding idle_by
idle_none t n h = rw (lt-ltb n (first_idle t (tie_order t)) h)

-- What was found is an instant up to n.
pub idle_by_lem : (t : Table) (n : ℕ) → 0 < idle_by t n → first_idle t (tie_order t) ≤ n
idle_by_lem t n h = elim (dec_le (first_idle t (tie_order t)) n) [ yes p ↦ p | no p ↦ absurd (omega (arith, idle_none t n (omega arith))) ]

-- What was found stays.
pub idle_kept : (t : Table) (n e : ℕ) → n ≤ e → 0 < idle_by t n → idle_by t e ≡ idle_by t n
idle_kept t n e l h = let p = idle_by_lem t n h in omega (arith, idle_is t n p, idle_is t e (omega arith))

module _ (t : Table) (r : Ranged t) (light : load t ≤ round t) (n e : ℕ) (l : n ≤ e) where
  abbrev u : ℕ
  u = first_idle t (tie_order t)

  -- The first idle instant is one.
  is_idle : T (idle_at t (tie_order t) u)
  is_idle = (first_idle_lem t r _ light).0.0.1

  -- No instant after n and up to e is idle.
  pub idle_stays : ((v : ℕ) → n < v → v ≤ e → T (idle_at t (tie_order t) v) → ⊥) → idle_by t e ≡ idle_by t n
  idle_stays none = elim (dec_le u n) [
    | yes p ↦ omega (arith, idle_is t n p, idle_is t e (omega arith))
    | no p ↦
        elim (dec_le u e) [ yes q ↦ absurd (none u (omega arith) q is_idle) | no q ↦ omega (arith, idle_none t n (omega arith), idle_none t e (omega arith)) ]
  ]

  -- None between n and e is, and it is known of e.
  pub idle_next : n < e → ((v : ℕ) → n < v → v < e → T (idle_at t (tie_order t) v) → ⊥) → (here : Bool) → idle_at t (tie_order t) e ≡ here
      → idle_by t e ≡ idle_then (idle_by t n) here e
  idle_next after none true h = elim (dec_le u n) [
    | yes p ↦ rw (idle_is t n p, lt-ltb 0 u (idle_later t)) (idle_is t e (omega arith))
    | no p ↦ elim (dec_le e u) [
      | no q ↦ absurd (none u (omega arith) (omega arith) is_idle)
      | yes q ↦
          (let m : u ≤ e = least_le (λ (v : ℕ). (0 < v) × T (idle_at t (tie_order t) v)) u e (first_idle_lem t r _ light).0
          (omega arith, subst T (sym h) tt) in rw (idle_none t n (omega arith)) (omega (arith, idle_is t e m)))
    ]
  ]
  idle_next after none false h = idle_stays all ∙ sym (idle_same (idle_by t n))
    where
      all : (v : ℕ) → n < v → v ≤ e → T (idle_at t (tie_order t) v) → ⊥
      all v a b x = elim (dec_le e v) [ no p ↦ none v a (omega arith) x | yes p ↦ (let q : v ≡ e = omega arith in subst T h (rw q at x)) ]
