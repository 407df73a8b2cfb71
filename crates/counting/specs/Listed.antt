-- THE FIRST ENTRIES OF A LIST (`first_taken`): what holds of their numbers, in the words of the library for the list that they make.
use Rattle.std.proofs.Common.{◌≡◌, ◌∙◌, ap, refl, ℕ, zero, suc, ◌+◌, ◌≤◌, ◌<◌, List, [], ◌∷◌, length, get_or, take}
use Rattle.std.proofs.Common.{drop, Bool, true, false, ◌↔◌, arith, Some, None}
use Rattle.std.proofs.Common.{ltb-true, ltb-false}
use Rattle.std.proofs.Math.Dec.{T, ltb}
use Rattle.std.specs.List.{position, position_or_len, prefix_len, list_all, list_any}
use Rattle.model.specs.Notation.{first, every, some}
use Rattle.counting.specs.Count.{and_iff, same_test, every_iff, some_iff, or_left, or_right}
use Rattle.counting.specs.Search.{first_shift}

module _ {A : Type 0} (q : A → Bool) (d : A) where
  -- The test of entry k.
  abbrev pub passes : List A → ℕ → Bool
  passes xs k = q (get_or xs k d)

  -- The first of m entries from n on that passes.
  one_more : (x : A) (xs : List A) (m : ℕ) (b : Bool) → q x ≡ b → first (passes xs) 0 m ≡ position_or_len q (take m xs)
      → first (passes (x ∷ xs)) 0 (suc m) ≡ position_or_len q (x ∷ take m xs)
  unfolding first
  one_more x xs m true e h = rw (e, first, prefix_len)
  one_more x xs m false e h = rw (e, first, prefix_len) (first_shift (passes (x ∷ xs)) 0 m ∙ ap suc h ∙ omega arith)

  first_front : (xs : List A) (m : ℕ) → m ≤ length xs → first (passes xs) 0 m ≡ position_or_len q (take m xs)
  unfolding first
  first_front xs zero h = refl
  first_front [] (suc m) h = absurd (omega arith)
  first_front (x ∷ xs) (suc m) h = one_more x xs m (q x) refl (first_front xs m (omega arith))

  pub first_taken : (xs : List A) (n m : ℕ) → n + m ≤ length xs → first (passes xs) n m ≡ n + position_or_len q (take m (drop n xs))
  first_taken xs zero m h = first_front xs m (omega arith) ∙ omega arith
  first_taken [] (suc n) m h = absurd (omega arith)
  first_taken (x ∷ xs) (suc n) m h = first_shift (passes (x ∷ xs)) n m ∙ ap suc (first_taken xs n m (omega arith)) ∙ omega arith

  -- What `position` finds.
  pub position_some : (xs : List A) (k : ℕ) → position q xs ≡ Some k → (position_or_len q xs ≡ k) × (k < length xs)
  position_some xs k e = go (ltb (position_or_len q xs) (length xs)) refl
    where
      go : (b : Bool) → ltb (position_or_len q xs) (length xs) ≡ b → (position_or_len q xs ≡ k) × (k < length xs)
      go true t = let same : position_or_len q xs ≡ k = (let f = rw t at e in cc) in (same, omega (arith, same, ltb-true _ _ t))
      go false t = let f = rw t at e in let z : ◌≡◌ {A = ℕ} 0 1 = cc in absurd (omega arith)

  pub position_none : (xs : List A) → position q xs ≡ None → length xs ≤ position_or_len q xs
  position_none xs e = go (ltb (position_or_len q xs) (length xs)) refl
    where
      go : (b : Bool) → ltb (position_or_len q xs) (length xs) ≡ b → length xs ≤ position_or_len q xs
      go true t = let f = rw t at e in let z : ◌≡◌ {A = ℕ} 0 1 = cc in absurd (omega arith)
      go false t = ltb-false _ _ t

  -- Whether all of the first n pass, and whether one does.
  all_iff : (xs : List A) (n : ℕ) → n ≤ length xs → T (list_all q (take n xs)) ↔ ((k : ℕ) → k < n → T (passes xs k))
  all_iff xs zero h = (λ a k l. absurd (omega arith), λ a. tt)
  all_iff [] (suc n) h = absurd (omega arith)
  all_iff (x ∷ xs) (suc n) h =
      let (there, back) = all_iff xs n (omega arith) in
      let (split, join) = and_iff (q x) (list_all q (take n xs)) in
      (λ a k l. each (split a).0 (there (split a).1) k l, λ a. join (a 0 (omega arith), back (λ k l. a (suc k) (omega arith))))
    where
      each : T (q x) → ((k : ℕ) → k < n → T (passes xs k)) → (k : ℕ) → k < suc n → T (passes (x ∷ xs) k)
      each a b zero l = a
      each a b (suc k) l = b k (omega arith)

  pub every_taken : (xs : List A) (n : ℕ) → n ≤ length xs → list_all q (take n xs) ≡ every (passes xs) n
  every_taken xs n h =
      same_test _ _ (λ a. (every_iff (passes xs) n).1 ((all_iff xs n h).0 a)) (λ a. (all_iff xs n h).1 ((every_iff (passes xs) n).0 a))

  any_one : (xs : List A) (n k : ℕ) → n ≤ length xs → k < n → T (passes xs k) → T (list_any q (take n xs))
  any_one xs zero k h l a = absurd (omega arith)
  any_one [] (suc n) k h l a = absurd (omega arith)
  any_one (x ∷ xs) (suc n) zero h l a = or_left (q x) (list_any q (take n xs)) a
  any_one (x ∷ xs) (suc n) (suc k) h l a = or_right (q x) (list_any q (take n xs)) (any_one xs n k (omega arith) (omega arith) a)

  one_any : (xs : List A) (n : ℕ) → n ≤ length xs → T (list_any q (take n xs)) → (k : ℕ) × (k < n) × T (passes xs k)
  one_any xs zero h a = absurd a
  one_any [] (suc n) h a = absurd (omega arith)
  one_any (x ∷ xs) (suc n) h a = go (q x) refl (one_any xs n (omega arith))
    where
      go : (b : Bool) → q x ≡ b → (T (list_any q (take n xs)) → (k : ℕ) × (k < n) × T (passes xs k)) → (k : ℕ) × (k < suc n) × T (passes (x ∷ xs) k)
      go true e more = (0, omega arith, rw e tt)
      go false e more = let (k, l, b) = more (rw e at a) in (suc k, omega arith, b)

  pub some_taken : (xs : List A) (n : ℕ) → n ≤ length xs → list_any q (take n xs) ≡ some (passes xs) n
  some_taken xs n h =
      same_test _ _ (λ a. (some_iff (passes xs) n).1 (one_any xs n h a))
      (λ a. let (k, l, b) = (some_iff (passes xs) n).0 a in any_one xs n k h l b)
