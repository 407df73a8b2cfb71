-- THE FIRST RELEASES (`firsts_more`): task after task they are put into the queue of next releases.
use Rattle.std.specs.Prelude.{◌≡◌, ◌⊎◌, List, ℕ, ◌+◌, ◌<◌, replicate}
use Rattle.std.proofs.Common.{sym, ap, ◌∙◌, inl, inr, arith}
use Rattle.std.proofs.Math.Decide.{ℕ_discrete}
use Rattle.std.proofs.lemmas.List.{length-replicate}
use Rattle.values.specs.declared.Table.{Table}
use Rattle.model.specs.Limits.{task_limit}
use Rattle.model.specs.Tasks.{task, offset}
use Rattle.wellformed.specs.Ranges.{Ranged}
use Rattle.leaps.specs.Entry.{entry}
use Rattle.leaps.proofs.Entries.{entry_same}
use Rattle.leaps.specs.Queue.{Queue, inserted, alike, put_in}

-- The first releases of the tasks below i.
abbrev pub Firsts : Table → ℕ → ℕ → Type 0
Firsts t i x = (k : ℕ) × (k < i) × (x ≡ entry t (0 + offset (task t k)) k)

pub firsts_none : (t : Table) → Queue (Firsts t 0) (replicate task_limit 0) 0
firsts_none t = record {
  size = length-replicate {A = ℕ} task_limit 0;
  falls = λ a b h l. absurd (omega arith);
  sound = λ a l. absurd (omega arith);
  found = λ x (k, l, e). absurd (omega arith);
}

pub firsts_more : (t : Table) → Ranged t → (i : ℕ) {q : List ℕ} → i < t.count → Queue (Firsts t i) q i
    → Queue (Firsts t (i + 1)) (inserted q i (entry t (offset (task t i)) i)) (i + 1)
firsts_more t r i l w = alike (put_in w (omega (arith, r.few)) (entry t (offset (task t i)) i) fresh (i + 1) (omega arith)) to back
  where
    fresh : Firsts t i (entry t (offset (task t i)) i) → ⊥
    fresh (k, m, e) = omega (arith, (entry_same t r _ _ i k l (omega arith) e).0)

    here : entry t (offset (task t i)) i ≡ entry t (0 + offset (task t i)) i
    here = omega arith

    to : (x : ℕ) → (x ≡ entry t (offset (task t i)) i) ⊎ Firsts t i x → Firsts t (i + 1) x
    to x (inl e) = (i, omega arith, e ∙ here)
    to x (inr (k, m, e)) = (k, omega arith, e)

    back : (x : ℕ) → Firsts t (i + 1) x → (x ≡ entry t (offset (task t i)) i) ⊎ Firsts t i x
    back x (k, m, e) = elim (ℕ_discrete k i) [
      | yes q ↦ inl (e ∙ ap (λ (j : ℕ). entry t (0 + offset (task t j)) j) q ∙ sym here)
      | no q ↦ inr (k, omega arith, e)
    ]
