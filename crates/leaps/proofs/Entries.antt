-- AN ENTRY OF A QUEUE (`entry_order`): a time, below it a rank, and below that a task, so that one comparison goes by the time, then by the order of the tasks.
use Rattle.std.specs.Prelude.{◌≡◌, ℕ, ◌/◌, ◌%◌, ◌≤◌, ◌<◌}
use Rattle.std.proofs.Common.{sym, ap, ◌∙◌, inl, inr, arith}
use Rattle.std.proofs.Math.Decide.{dec_lt}
use Rattle.values.specs.declared.Table.{Table}
use Rattle.model.specs.Run.{tie_order}
use Rattle.wellformed.specs.Ranges.{Ranged}
use Rattle.backlog.specs.Choice.{standing, Ahead}
use Rattle.leaps.specs.Entry.{places, span, mark_of, entry}

module _ (t : Table) (r : Ranged t) where
  rank_small : (i : ℕ) → i < t.count → tie_order t i < 65536
  rank_small i l = omega (arith, (r.each i l).period_le)

  pub mark_small : (i : ℕ) → i < t.count → mark_of t i < span
  mark_small i l = omega (arith, r.few, rank_small i l)

  pub entry_task : (time i : ℕ) → i < t.count → entry t time i % places ≡ i
  entry_task time i l = omega (arith, r.few)

  pub entry_time : (time i : ℕ) → i < t.count → entry t time i / span ≡ time
  entry_time time i l = omega (arith, mark_small i l)

  -- Two entries are of one task only at one time.
  pub entry_same : (u v i k : ℕ) → i < t.count → k < t.count → entry t u i ≡ entry t v k → (i ≡ k) × (u ≡ v)
  entry_same u v i k l m e =
      (sym (entry_task u i l) ∙ ap (λ (x : ℕ). x % places) e ∙ entry_task v k m, sym (entry_time u i l) ∙ ap (λ (x : ℕ). x / span) e ∙ entry_time v k m)

  pub entry_order : (u v i k : ℕ) → i < t.count → k < t.count → entry t u i ≤ entry t v k → Ahead u (standing (tie_order t) i) v (standing (tie_order t) k)
  entry_order u v i k l m x =
      elim (dec_lt u v) [ yes p ↦ inl p | no p ↦ inr (omega (arith, mark_small i l, mark_small k m), omega (arith, mark_small i l, mark_small k m, r.few)) ]

  pub entry_le : (u v i k : ℕ) → i < t.count → k < t.count → entry t u i ≤ entry t v k → u ≤ v
  entry_le u v i k l m x = elim (entry_order u v i k l m x) [ inl p ↦ omega arith | inr p ↦ omega (arith, p.0) ]
