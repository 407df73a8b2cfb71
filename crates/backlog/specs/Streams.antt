-- STREAMS OF JOBS (`arrived`), what a run of them does, and the class of a key: all class work that is released before t has arrived in the slots up to there.
use Rattle.std.specs.Prelude.{◌≡◌, ◌⊎◌, ◌≢◌, ◌↔◌}
use Rattle.std.proofs.Math.Path.{sym, ap}
use Rattle.std.proofs.Common.{◌∙◌, mul-le-mul_left, arith}
use Prim.Native.Nat.{ℕ, suc, ◌+◌, ◌-◌, ◌*◌, ◌/◌, ◌≤◌, ◌<◌, min, zero}
use Rattle.model.specs.Notation.{sum}
use Rattle.counting.specs.Below.{Grows, below, below_mono, work_lt, below_none, below_after}
use Rattle.counting.specs.Sum.{sum_eq, sum_add, sum_zero, sum_none}

-- n streams of jobs. Job j of stream i costs `cost i` slots, is released at `rel i j` and has the key `key i j`; a smaller key goes first.
pub record Jobs : Type 0 where
  pub n : ℕ
  pub cost : ℕ → ℕ
  pub rel : ℕ → ℕ → ℕ
  pub key : ℕ → ℕ → ℕ
  pub cost_pos : (i : ℕ) → i < n → 0 < cost i
  pub rel_grows : (i : ℕ) → i < n → Grows (rel i)
  pub key_grows : (i : ℕ) → i < n → Grows (key i)
  pub key_apart : (i j k l : ℕ) → i < n → k < n → key i j ≡ key k l → i ≡ k

-- The work of stream i that is released before t, and its work of key up to κ.
abbrev pub released : Jobs → ℕ → ℕ → ℕ
released J t i = J.cost i * below (J.rel i) t

abbrev pub work : Jobs → ℕ → ℕ → ℕ
work J κ i = J.cost i * below (J.key i) (suc κ)

-- The key of the job that stream i is at, with s of its slots served.
abbrev pub key_at : Jobs → ℕ → ℕ → ℕ
key_at J i s = J.key i (s / J.cost i)

-- What slot t does to the slots served, s before and s' after: it serves the pending stream of least key, or none is pending.
pub record Serves (J : Jobs) (t : ℕ) (s s' : ℕ → ℕ) (k : ℕ) : Type 0 where
  pub bound : k < J.n
  pub ready : s k < released J (suc t) k
  pub least : (i : ℕ) → i < J.n → s i < released J (suc t) i → key_at J k (s k) ≤ key_at J i (s i)
  pub one : s' k ≡ s k + 1
  pub rest : (i : ℕ) → i < J.n → i ≢ k → s' i ≡ s i

pub record Idles (J : Jobs) (t : ℕ) (s s' : ℕ → ℕ) : Type 0 where
  pub none : (i : ℕ) → i < J.n → released J (suc t) i ≤ s i
  pub rest : (i : ℕ) → i < J.n → s' i ≡ s i

abbrev pub SlotOf : Jobs → ℕ → (ℕ → ℕ) → (ℕ → ℕ) → Type 0
SlotOf J t s s' = Idles J t s s' ⊎ ((k : ℕ) × Serves J t s s' k)

-- A run serves nothing before slot 0, and then slot by slot.
pub record Run (J : Jobs) (s : ℕ → ℕ → ℕ) : Type 0 where
  pub start : (i : ℕ) → i < J.n → s 0 i ≡ 0
  pub slot : (t : ℕ) → SlotOf J t (s t) (s (suc t))

-- The class of a cut κ is the jobs of key up to κ. Its work that is released before t and not served; its work that is released at t.
abbrev pub left_of : Jobs → ℕ → ℕ → (ℕ → ℕ) → ℕ → ℕ
left_of J κ t s i = min (work J κ i) (released J t i) - min (s i) (work J κ i)

unfoldable pub left : Jobs → (ℕ → ℕ → ℕ) → ℕ → ℕ → ℕ
left J s κ t = sum J.n (left_of J κ t (s t))

abbrev pub arrive_of : Jobs → ℕ → ℕ → ℕ → ℕ
arrive_of J κ t i = min (work J κ i) (released J (suc t) i) - min (work J κ i) (released J t i)

unfoldable pub arrive : Jobs → ℕ → ℕ → ℕ
arrive J κ t = sum J.n (arrive_of J κ t)

-- All class work that is released before t.
abbrev pub arrivals : Jobs → ℕ → ℕ → ℕ
arrivals J κ t = sum J.n (λ i. min (work J κ i) (released J t i))

module _ (J : Jobs) where
  pub released_mono : (i : ℕ) → i < J.n → (t u : ℕ) → t ≤ u → released J t i ≤ released J u i
  released_mono i l t u h = mul-le-mul_left (J.cost i) (below_mono (J.rel i) (J.rel_grows i l) t u h)

  -- The class of a job's key has the work of its stream up to that job.
  pub work_at : (i j : ℕ) → i < J.n → work J (J.key i j) i ≡ J.cost i * suc j
  work_at i j l = ap (λ (x : ℕ). J.cost i * x) (below_after (J.key i) (J.key_grows i l) j)

  -- The job that a stream is at is in the class exactly if some class work of the stream is not served.
  pub in_class : (κ i : ℕ) → i < J.n → (s : ℕ) → (s < work J κ i) ↔ (key_at J i s ≤ κ)
  in_class κ i l s =
      let law = work_lt (J.key i) (J.key_grows i l) (J.cost i) (suc κ) s (J.cost_pos i l) in (λ h. omega (arith, law.0 h), λ h. law.1 (omega arith))

  -- All class work that is released before t has arrived in the slots up to there.
  pub arrived : (κ t : ℕ) → sum t (arrive J κ) ≡ arrivals J κ t
  unfolding sum arrive
  arrived κ zero = sym (sum_zero J.n _ (λ i l. rw (below_none (J.rel i)) (omega arith)))
  arrived κ (suc t) =
      ap (λ (x : ℕ). x + arrive J κ t) (arrived κ t)
      ∙ sym (sum_add J.n (λ i. min (work J κ i) (released J t i)) (arrive_of J κ t))
      ∙ sum_eq J.n _ _ (λ i l. omega (arith, released_mono i l t (suc t) (omega arith)))

  pub arrivals_none : (κ : ℕ) → arrivals J κ 0 ≡ 0
  arrivals_none κ = sym (sum_none (arrive J κ) ∙ arrived κ 0)
