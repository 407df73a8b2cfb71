-- What the search for the kept tasks has found before its turn i, and what is told where it ends.
use Rattle.std.specs.Prelude.{◌≡◌, refl, Bool, true, false, cond, not, ℕ, ◌+◌, ◌^◌, ◌≤◌, ◌<◌}
use Rattle.std.proofs.Common.{sym, subst, ◌∙◌, add-one}
use Rattle.std.proofs.Math.Decide.{ℕ_discrete}
use native.Mathlib.Omega.{arith}
use borrow.Author.Tests.{lt-ltb, le-ltb}
use borrow.Author.Count.{below_more}
use Rattle.std.proofs.Math.Dec.{T, leb, eqb}
use Rattle.values.specs.declared.Task.{Task}
use Rattle.values.specs.declared.Table.{Table}
use Rattle.values.specs.declared.Easing.{Easing}
use Rattle.model.specs.Notation.{some, bits}
use Rattle.model.specs.Tasks.{task, is_button, offset}
use Rattle.model.specs.Easing.{EasedTask, eases, next_eased, searched_from, kept_as, unmatched, kept_set, easing}
use Rattle.counting.specs.Count.{tests, is_true, is_false, some_iff, same_test, bit_yes, eq→eqb}
use Rattle.counting.specs.Search.{first_is, first_none}
use Rattle.counting.specs.Bits.{bits_none, bits_more, bits_lt, bits_eq, bits_past}
use Rattle.backlog.specs.FirstChoice.{alike_iff, eases_iff, from_le, behind}

-- Task k is one that the first i tasks were found to be.
abbrev pub found_by : Table → Table → ℕ → ℕ → Bool
found_by before after i k = some (λ j. eqb (kept_as before after j) k) i

pub record Searching (before after : Table) (i kept from : ℕ) : Type 0 where
  pub from_is : from ≡ searched_from before after i
  pub within : from ≤ before.count
  pub all : (j : ℕ) → j < i → kept_as before after j < before.count
  pub kept_is : kept ≡ bits (found_by before after i) from

-- The test of a task by its comparisons.
pub not_eased : (a b : Task) → (EasedTask a b → ⊥) → false ≡ eases a b
not_eased a b h = sym (is_false (eases a b) (λ x. h ((eases_iff a b).0 x)))

-- The sort is looked at last.
pub eased_by : (a b : Task) (same : Bool) → same ≡ cond (is_button a) (is_button b) (not (is_button b)) → offset b ≡ offset a → b.period ≡ a.period
    → b.cost ≤ a.cost → a.deadline ≤ b.deadline → same ≡ eases a b
eased_by a b true e o p c d = sym (is_true (eases a b) ((eases_iff a b).1 (record {
  same_sort = (alike_iff (is_button a) (is_button b)).0 (subst T e tt);
  same_offset = o;
  same_period = p;
  lower_cost = c;
  longer_deadline = d;
})))
eased_by a b false e o p c d = not_eased a b (λ k. subst T (sym e) ((alike_iff (is_button a) (is_button b)).1 k.same_sort))

module _ (before after : Table) where
  pub begin : Searching before after 0 0 0
  unfolding searched_from
  begin = record { from_is = refl; within = omega arith; all = λ j l. absurd (omega arith); kept_is = bits_none _ }

  module _ {i kept from : ℕ} (s : Searching before after i kept from) where
    -- What is found next.
    pub next_is : {k : ℕ} → k ≡ next_eased before (task after i) from → k ≡ kept_as before after i
    next_is e = rw (← s.from_is) e

    -- Nothing from there on was found before.
    past : {m : ℕ} → from ≤ m → kept ≡ bits (found_by before after i) m
    past {m} h = s.kept_is ∙ sym (bits_past (found_by before after i) from m h (λ x a b t. none x a ((some_iff (λ j. eqb (kept_as before after j) x) i).0 t)))
      where
        none : (x : ℕ) → from ≤ x → (j : ℕ) × (j < i) × T (eqb (kept_as before after j) x) → ⊥
        none x a (j, l, q) = absurd (omega (tests, behind before after j i l, s.from_is))

    kept_below : {k : ℕ} → k ≡ kept_as before after i → kept ≡ bits (found_by before after i) k
    kept_below e = past (omega (arith, from_le before after i, s.from_is))

    pub kept_lt : {k x : ℕ} → k ≡ kept_as before after i → x ≡ k → kept < 2 ^ x
    kept_lt {k} e same = rw (same, kept_below e) (bits_lt (found_by before after i) k)

    -- A turn.
    pub turn : {k more next : ℕ} → k ≡ kept_as before after i → k < before.count → more ≡ kept + 2 ^ k → next ≡ k + 1 → Searching before after (i + 1) more next
    unfolding searched_from
    turn {k} {more} e l m behind-it = record {
      from_is = rw (add-one i) (omega arith);
      within = omega arith;
      all = below_more (λ (j : ℕ). kept_as before after j < before.count) i s.all (omega arith);
      kept_is =
          rw behind-it (bits_more (found_by before after (i + 1)) k
          (kept_below e ∙ bits_eq (found_by before after i) (found_by before after (i + 1)) k same)
          (rw (bit_yes (found_by before after (i + 1) k) here) (omega arith)));
    }
      where
        here : T (found_by before after (i + 1) k)
        here = (some_iff (λ j. eqb (kept_as before after j) k) (i + 1)).1 (i, omega arith, eq→eqb _ _ (sym e))

        same : (x : ℕ) → x < k → found_by before after i x ≡ found_by before after (i + 1) x
        same x below =
            same_test _ _
            (λ h. let (j, l, q) = (some_iff (λ j. eqb (kept_as before after j) x) i).0 h in (some_iff (λ j. eqb (kept_as before after j) x) (i + 1)).1
            (j, omega arith, q))
            (λ h. let (j, l, q) = (some_iff (λ j. eqb (kept_as before after j) x) (i + 1)).0 h in (some_iff (λ j. eqb (kept_as before after j) x) i).1
            (j, earlier j l q (ℕ_discrete j i), q))
          where
            earlier : (j : ℕ) → j < i + 1 → T (eqb (kept_as before after j) x) → Dec (j ≡ i) → j < i
            earlier j l q (yes p) = absurd (omega (tests, rw p at q))
            earlier j l q (no p) = omega arith

    -- A task that is none ends it.
    pub ended_none : {k : ℕ} → k ≡ kept_as before after i → i < after.count → before.count ≤ k → easing before after ≡ Easing.Unmatched i
    unfolding easing
    ended_none e l none = rw (here, lt-ltb i after.count l)
      where
        here : unmatched before after ≡ i
        here =
            first_is (λ j. leb before.count (kept_as before after j)) 0 after.count i (omega arith) (omega arith) (omega tests)
            (λ j a b h. absurd (omega (tests, s.all j b)))

    -- So do all tasks.
    pub ended_all : i ≡ after.count → easing before after ≡ Easing.Kept kept
    unfolding easing
    ended_all e = rw (here, le-ltb after.count after.count (omega arith), ← set)
      where
        here : unmatched before after ≡ after.count
        here =
            omega (
              arith,
              first_none (λ j. leb before.count (kept_as before after j)) 0 after.count
                  (λ j a b h. absurd (omega (tests, s.all j (omega arith)))),
            )

        set : kept ≡ kept_set before after
        set = past s.within ∙ rw e
