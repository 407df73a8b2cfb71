-- THE FIRST CHOICE IS FOUND (`first_choice`): the search for the kept tasks finds a choice wherever there is one, and of several the first in order;
-- else it tells the first task that is none.
use Rattle.std.specs.Prelude.{◌≡◌, ◌↔◌, Bool, true, false, cond, T, ltb, eqb, not}
use Rattle.std.proofs.Math.Path.{refl}
use Prim.Native.Nat.{ℕ, zero, suc, ◌/◌, ◌%◌, ◌^◌, ◌-◌, ◌≤◌, ◌<◌}
use Rattle.std.proofs.Common.{le_refl, ltb-true, ltb-false}
use Rattle.std.proofs.Math.Decide.{ℕ_discrete, dec_lt}
use native.Mathlib.Omega.{arith}
use Rattle.std.proofs.Math.Dec.{leb}
use Rattle.values.specs.declared.Task.{Task}
use Rattle.values.specs.declared.Table.{Table}
use Rattle.values.specs.declared.Easing.{Easing}
use Rattle.model.specs.Notation.{bit, some}
use Rattle.model.specs.Tasks.{task, is_button}
use Rattle.model.specs.Easing.{EasedTask, Eased, eases, searched_from, kept_as, unmatched, kept_set, easing, first_tasks}
use Rattle.counting.specs.Count.{tests, and_iff, eq→eqb}
use Rattle.counting.specs.Search.{first_from, first_before, first_passes}
use Rattle.counting.specs.Bits.{bits_at}

-- Two tests that are alike.
pub alike_iff : (p q : Bool) → T (cond p q (not q)) ↔ (q ≡ p)
alike_iff true true = (λ h. refl, λ e. tt)
alike_iff true false = (λ h. absurd h, λ e. let z : ◌≡◌ {A = ℕ} 0 1 = cc in absurd (omega arith))
alike_iff false true = (λ h. absurd h, λ e. let z : ◌≡◌ {A = ℕ} 0 1 = cc in absurd (omega arith))
alike_iff false false = (λ h. refl, λ e. tt)

-- The test of a task is the statement.
pub eases_iff : (a b : Task) → T (eases a b) ↔ EasedTask a b
eases_iff a b = (
  λ h. let w = simp and_iff at h in record {
    same_sort = (alike_iff (is_button a) (is_button b)).0 w.0;
    same_offset = omega tests;
    same_period = omega tests;
    lower_cost = omega tests;
    longer_deadline = omega tests;
  },
  λ e. simp and_iff (
    (alike_iff (is_button a) (is_button b)).1 e.same_sort,
    (eq→eqb _ _ e.same_offset, (eq→eqb _ _ e.same_period, (omega (tests, e.lower_cost), omega (tests, e.longer_deadline)))),
  ),
)

module _ (before after : Table) where
  -- What is found stands where its search begins, or later.
  pub from_le : (i : ℕ) → searched_from before after i ≤ kept_as before after i
  from_le i = first_from _ _ _

  -- The next search begins behind it, and so does every later one.
  pub behind : (i k : ℕ) → i < k → kept_as before after i < searched_from before after k
  unfolding searched_from
  behind i zero l = absurd (omega arith)
  behind i (suc k) l = elim (ℕ_discrete i k) [ yes e ↦ rw e (le_refl _) | no n ↦ omega (arith, behind i k (omega arith), from_le k) ]

  -- The first n tasks, each found to be one, are an easing.
  abbrev found : (n : ℕ) → ((i : ℕ) → i < n → kept_as before after i < before.count) → Eased before (first_tasks after n)
  found n low = record {
    kept = kept_as before after;
    in_order = λ i k l m. omega (arith, behind i k l, from_le k);
    of_before = low;
    each =
        λ i l. (eases_iff _ _).0
        (first_passes (λ k. eases (task before k) (task after i)) (searched_from before after i) (before.count - searched_from before after i)
        (omega (arith, low i l, from_le i)));
  }

  module _ (n : ℕ) (e : Eased before (first_tasks after n)) where
    -- Where a search begins no later than a choice has its task, it finds one no later.
    no_later : (i : ℕ) → i < n → searched_from before after i ≤ e.kept i → kept_as before after i ≤ e.kept i
    no_later i l h = elim (dec_lt (e.kept i) (kept_as before after i)) [
      | yes p ↦ absurd (first_before (λ k. eases (task before k) (task after i)) _ _ (e.kept i) h p ((eases_iff _ _).1 (e.each i l)))
      | no p ↦ omega arith
    ]

    begins : (i : ℕ) → i < n → searched_from before after i ≤ e.kept i
    unfolding searched_from
    begins zero l = omega arith
    begins (suc i) l = omega (arith, no_later i (omega arith) (begins i (omega arith)), e.in_order i (suc i) (le_refl (suc i)) l)

    pub first_in_order : (i : ℕ) → i < n → kept_as before after i ≤ e.kept i
    first_in_order i l = no_later i l (begins i l)

  -- What is told: the first task that is none, though those before it are an easing; or the first choice, of which bit k says whether task k is kept.
  abbrev pub Told : Easing → Type 0
  Told (Easing.Unmatched i) = (i < after.count) × Eased before (first_tasks after i) × (Eased before (first_tasks after (suc i)) → ⊥)
  Told (Easing.Kept set) =
      (e : Eased before after)
      × ((d : Eased before after) (i : ℕ) → i < after.count → e.kept i ≤ d.kept i)
      × ((k : ℕ) → k < before.count → set / 2 ^ k % 2 ≡ bit (some (λ i. eqb (e.kept i) k) after.count))

  pub first_choice : Told (easing before after)
  unfolding easing
  first_choice = go (ltb (unmatched before after) after.count) refl
    where
      earlier : (i : ℕ) → i < unmatched before after → kept_as before after i < before.count
      earlier i l =
          elim (dec_lt (kept_as before after i) before.count) [
            | yes p ↦ p
            | no p ↦ absurd
                (first_before (λ i. leb before.count (kept_as before after i)) 0 after.count i (omega arith) l (omega tests))
          ]

      go : (b : Bool) → ltb (unmatched before after) after.count ≡ b → Told
          (cond b (Easing.Unmatched (unmatched before after)) (Easing.Kept (kept_set before after)))
      go true q =
          let l = ltb-true (unmatched before after) after.count q in
          let none = first_passes (λ i. leb before.count (kept_as before after i)) 0 after.count (omega arith) in (
            l,
            found _ earlier,
            λ e. absurd (omega (
              tests,
              first_in_order (suc (unmatched before after)) e (unmatched before after) (le_refl _),
              e.of_before (unmatched before after) (le_refl _),
            )),
          )
      go false q =
          let all = ltb-false (unmatched before after) after.count q in
          (found after.count (λ i l. earlier i (omega arith)), λ d i l. first_in_order after.count d i l, λ k l. bits_at _ before.count k l)

  -- So a choice is told wherever there is one.
  pub eased_told : Eased before after → (set : ℕ) × (easing before after ≡ Easing.Kept set)
  eased_told e = go (easing before after) first_choice
    where
      go : (x : Easing) → Told x → (set : ℕ) × (x ≡ Easing.Kept set)
      go (Easing.Kept set) h = (set, refl)
      go (Easing.Unmatched m) (l, earlier, none) =
          absurd (none (record {
            kept = e.kept;
            in_order = λ i k a b. e.in_order i k a (omega arith);
            of_before = λ i a. e.of_before i (omega arith);
            each = λ i a. e.each i (omega arith);
          }))
