-- NONE GETS A SLOT AFTER ITS END (`none_after`): no slot goes to a job that is finished. Of any table that keeps its ranges.
use Rattle.std.specs.Prelude.{◌≡◌, refl, ◌⊎◌, ◌≢◌, Bool, true, cond, ℕ, zero, suc, ◌+◌, ◌-◌, ◌≤◌, ◌<◌, T}
use Rattle.std.proofs.Common.{sym, ◌∙◌, inl, inr, add-zero, add-suc, arith, eq-eqb}
use Rattle.values.specs.declared.Table.{Table}
use Rattle.model.specs.Tasks.{task, release}
use Rattle.model.specs.Run.{Order}
use Rattle.model.specs.History.{owner_at_by, said_done_by, had_by, FinishedBy}
use Rattle.wellformed.specs.Ranges.{Ranged}
use Rattle.backlog.specs.System.{System, release_of}
use Rattle.backlog.proofs.System.{jobs}
use Rattle.backlog.proofs.TableSystem.{system_of}
use Rattle.backlog.proofs.Stepping.{Fresh, Kept, finds, sound}
use Rattle.backlog.proofs.StepHistory.{open', ready, gave, step_history, Closing}
use Rattle.backlog.proofs.Had.{had_next, finished_iff}
use Rattle.backlog.proofs.NeverMore.{never_more}
use Rattle.counting.specs.Below.{between_none}

module _ (t : Table) (r : Ranged t) (rank : Order) (done : ℕ → Bool) where
  abbrev S : System
  S = system_of t r rank

  -- A report closes the job of its task, where none is released with it.
  report_closes : (u i : ℕ) → i < t.count → ((k : ℕ) → release (task t i) k ≢ u) → T (said_done_by t rank done i u) → ready t rank done u i ≡ 0
  report_closes u i l none h = go (finds t r rank done u i (sound t r rank done u) l)
    where
      empty : (b : Bool) → T b → cond b 0 (open' t rank done u i) ≡ 0
      empty true h = refl
      empty mathlib.Core.Bool.false h = elim h [ ]

      go : ((k : ℕ) × Fresh t r rank done u i k) ⊎ Kept t r rank done u i → ready t rank done u i ≡ 0
      go (inl (k, f)) = absurd (none k f.now)
      go (inr k) = elim k.left [
        | inl (e, d, n) ↦ e ∙ sym d ∙ empty (said_done_by t rank done i u) h
        | inr (e, c) ↦ e
      ]

  -- What is closed stays so up to the next release.
  closed_stays : (i j u d : ℕ) → i < t.count → release (task t i) j < u → u + d < release (task t i) (suc j) → ready t rank done u i ≡ 0
      → ready t rank done (u + d) i ≡ 0
  closed_stays i j u zero l a b z = rw (add-zero u) z
  closed_stays i j u (suc d) l a b z =
      let shut : open' t rank done (suc (u + d)) i ≡ 0 = omega
      (arith, (step_history t r rank done).spent (u + d) i l, closed_stays i j u d l a (omega arith) z) in
      rw (add-suc u d) (go shut
      ((step_history t r rank done).kept (suc (u + d)) i l
      (between_none (release_of S i) ((jobs S).rel_grows i l) (suc (u + d)) j (omega arith) (omega arith))))
    where
      go : open' t rank done (suc (u + d)) i ≡ 0 → Closing t r rank done (suc (u + d)) i → ready t rank done (suc (u + d)) i ≡ 0
      go shut (inl e) = e ∙ shut
      go shut (inr e) = e.0

  pub none_after : (n i j : ℕ) → i < t.count → release (task t i) j ≤ n → n < release (task t i) (suc j) → FinishedBy t rank done i j n
      → owner_at_by t rank done n ≡ i → ⊥
  none_after n i j l a b f e = go ((finished_iff t rank done i j n (omega arith)).0 f)
    where
      one : gave t rank done n i ≡ 1
      one = rw (eq-eqb (owner_at_by t rank done n) i e)

      go : (had_by t rank done i (release (task t i) j) n ≡ (task t i).cost)
          ⊎ ((u : ℕ) × (release (task t i) j < u) × (u ≤ n) × T (said_done_by t rank done i u)) → ⊥
      go (inl h) = omega (arith, h, one, had_next t rank done i (release (task t i) j) n a, never_more t r rank done i j (suc n) l (omega arith))
      go (inr (u, x, y, h)) =
          let d : u + (n - u) ≡ n = omega arith in
          let z = closed_stays i j u (n - u) l x (omega arith)
          (report_closes u i l (between_none (release_of S i) ((jobs S).rel_grows i l) u j x (omega arith)) h) in
          omega (arith, (step_history t r rank done).spent n i l, one, rw d at z)
