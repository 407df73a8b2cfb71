-- Laws of tests and of counts.
use Rattle.std.specs.Prelude.{◌≡◌, refl, ◌⊎◌, ◌↔◌, Bool, true, false, not, ◌&&◌, ◌||◌, ℕ, zero, suc, ◌+◌, ◌-◌, min, ◌≤◌, ◌<◌, T, ltb, eqb}
use Rattle.std.proofs.Common.{sym, inl, inr, zero-le, arith, eq-eqb, lt-ltb, eqb-true, ltb-true, leb→le, le→leb, ltb→lt, lt→ltb, eqb→eq}
use Rattle.std.proofs.Math.Bool.{or-true}
use Rattle.std.proofs.Math.Decide.{ℕ_discrete, dec_le, dec_lt, le_ind}
use Rattle.std.proofs.Math.Dec.{eqb_refl}
use Rattle.model.specs.Notation.{bit, count, some, every}

-- How `omega` reads a test among the facts, and proves one.
pub ruleset tests = (arith, leb→le, ltb→lt, eqb→eq, le→leb, lt→ltb)

-- Two tests both hold.
pub and_iff : (a b : Bool) → T (a && b) ↔ (T a × T b)
and_iff true b = (λ t. (tt, t), λ h. h.1)
and_iff false b = (λ t. absurd t, λ h. h.0)

-- One of two tests that holds is enough.
pub or_left : (a b : Bool) → T a → T (a || b)
or_left true b h = tt
or_left false b h = elim h [ ]

pub or_right : (a b : Bool) → T b → T (a || b)
or_right true b h = tt
or_right false b h = h

-- A test that holds is true, and one that does not is false.
pub is_true : (b : Bool) → T b → b ≡ true
is_true true x = refl
is_true false x = absurd x

pub is_false : (b : Bool) → (T b → ⊥) → b ≡ false
is_false true x = absurd (x tt)
is_false false x = refl

-- Two tests that hold together are one.
pub same_test : (a b : Bool) → (T a → T b) → (T b → T a) → a ≡ b
same_test true true f g = refl
same_test true false f g = absurd (f tt)
same_test false true f g = absurd (g tt)
same_test false false f g = refl

-- It holds, or it does not.
pub dec_t : (b : Bool) → Dec (T b)
dec_t true = yes tt
dec_t false = no (λ x. x)

-- Equal numbers pass the test for it.
pub eq→eqb : (m n : ℕ) → m ≡ n → T (eqb m n)
eq→eqb m n e = rw e (eqb_refl n)

-- A number is x, or lies below n, exactly if the test for neither fails.
pub one_of_iff : (m x n : ℕ) → (not (eqb m x || ltb m n) ≡ false) ↔ ((m ≡ x) ⊎ (m < n))
one_of_iff m x n = (λ e. seen (eqb m x) (ltb m n) refl refl e, λ h. elim h [ inl e ↦ rw (eq-eqb m x e) | inr l ↦ rw (lt-ltb m n l, or-true) ])
  where
    seen : (a b : Bool) → eqb m x ≡ a → ltb m n ≡ b → not (a || b) ≡ false → (m ≡ x) ⊎ (m < n)
    seen true b p q e = inl (eqb-true m x p)
    seen false true p q e = inr (ltb-true m n q)
    seen false false p q e = let z : ◌≡◌ {A = ℕ} 0 1 = cc in absurd (omega arith)

-- What a test counts: 1 where it holds, and else 0.
pub bit_yes : (p : Bool) → T p → bit p ≡ 1
bit_yes true t = refl
bit_yes false t = absurd t

pub bit_no : (p : Bool) → (T p → ⊥) → bit p ≡ 0
bit_no true h = absurd (h tt)
bit_no false h = refl

-- Two tests that exclude one another, each of which gives a third.
pub bit_add : (p q r : Bool) → (T p → T q → ⊥) → (T p → T r) → (T q → T r) → bit p + bit q ≤ bit r
bit_add true true r x f g = absurd (x tt tt)
bit_add true false true x f g = omega arith
bit_add true false false x f g = absurd (f tt)
bit_add false true true x f g = omega arith
bit_add false true false x f g = absurd (g tt)
bit_add false false r x f g = zero-le

-- A test in front.
pub bit_and : (c p q r : Bool) → bit p + bit q ≤ bit r → bit (c && p) + bit (c && q) ≤ bit (c && r)
bit_and true p q r h = h
bit_and false p q r h = omega arith

-- Two tests that together count no more than a third.
pub count_add : (p q r : ℕ → Bool) (n : ℕ) → ((j : ℕ) → j < n → bit (p j) + bit (q j) ≤ bit (r j)) → count p n + count q n ≤ count r n
unfolding count
count_add p q r zero h = omega arith
count_add p q r (suc n) h = omega (arith, h n (omega arith), count_add p q r n (λ j l. h j (omega arith)))

-- A test that gives another is passed no more often.
pub count_le : (p q : ℕ → Bool) (n : ℕ) → ((j : ℕ) → j < n → T (p j) → T (q j)) → count p n ≤ count q n
count_le p q n h = omega (arith, count_add p (λ j. false) q n (λ j l. bit_add (p j) false (q j) (λ x y. y) (h j l) (λ x. absurd x)))

-- Two tests that agree are passed as often.
pub count_eq : (p q : ℕ → Bool) (n : ℕ) → ((j : ℕ) → j < n → p j ≡ q j) → count p n ≡ count q n
count_eq p q n h = omega (arith, count_le p q n (λ j l t. rw (h j l) at t), count_le q p n (λ j l t. rw (h j l) t))

-- A test that the numbers from a up to b pass, and no others: below n it is passed min b n - a times.
pub count_from : (p : ℕ → Bool) (a b n : ℕ) → ((j : ℕ) → j < n → T (p j) ↔ ((a ≤ j) × (j < b))) → count p n ≡ min b n - a
unfolding count
count_from p a b zero h = omega arith
count_from p a b (suc n) h =
    let ih = count_from p a b n (λ j l. h j (omega arith)) in
    let e = h n (omega arith) in
    elim (dec_le a n) [
      | yes x ↦ elim (dec_lt n b) [ yes y ↦ omega (arith, bit_yes (p n) (e.1 (x, y))) | no y ↦ omega (arith, bit_no (p n) (λ t. y (e.0 t).1)) ]
      | no x ↦ omega (arith, bit_no (p n) (λ t. x (e.0 t).0))
    ]

pub count_none : (p : ℕ → Bool) (n : ℕ) → ((j : ℕ) → j < n → T (p j) → ⊥) → count p n ≡ 0
count_none p n h = omega (arith, count_from p 0 0 n (λ j l. (λ x. absurd (h j l x), λ (a, b). absurd (omega arith))))

-- More numbers to look at, and so no fewer that pass.
pub count_more : (p : ℕ → Bool) (a b : ℕ) → a ≤ b → count p a ≤ count p b
unfolding count
count_more p a b h = le_ind (λ (m : ℕ). count p a ≤ count p m) (omega arith) (λ m l ih. omega arith) b h

-- If all pass, as many pass as are looked at, and never more.
pub count_all : (p : ℕ → Bool) (n : ℕ) → ((j : ℕ) → j < n → T (p j)) → count p n ≡ n
count_all p n h = omega (arith, count_from p 0 n n (λ j l. (λ x. (zero-le, l), λ x. h j l)))

pub count_bound : (p : ℕ → Bool) (n : ℕ) → count p n ≤ n
count_bound p n = omega (arith, count_le p (λ j. true) n (λ j l x. tt), count_all (λ j. true) n (λ j l. tt))

-- Some number below n passes; every one does.
pub some_iff : (p : ℕ → Bool) (n : ℕ) → T (some p n) ↔ ((k : ℕ) × (k < n) × T (p k))
unfolding count
some_iff p n = (λ h. find n (omega tests), λ h. back n h.0 h.1 h.2)
  where
    find : (m : ℕ) → 0 < count p m → (k : ℕ) × (k < m) × T (p k)
    find zero h = absurd (omega arith)
    find (suc m) h = at (p m) refl (find m)
      where
        at : (b : Bool) → p m ≡ b → (0 < count p m → (k : ℕ) × (k < m) × T (p k)) → (k : ℕ) × (k < suc m) × T (p k)
        at true e ih = (m, omega arith, rw e tt)
        at false e ih = let (k, l, t) = ih (omega (arith, bit_no (p m) (rw e (λ x. x)))) in (k, omega arith, t)

    back : (m k : ℕ) → k < m → T (p k) → T (some p m)
    back m k l t = omega (tests, count_more p (suc k) m l, bit_yes (p k) t)

pub every_iff : (p : ℕ → Bool) (n : ℕ) → T (every p n) ↔ ((k : ℕ) → k < n → T (p k))
unfolding count
every_iff p n = (λ h. all n (omega tests), λ h. eq→eqb _ _ (count_all p n h))
  where
    all : (m : ℕ) → count p m ≡ m → (k : ℕ) → k < m → T (p k)
    all zero e k l = absurd (omega arith)
    all (suc m) e k l = at (p m) refl (all m)
      where
        at : (b : Bool) → p m ≡ b → (count p m ≡ m → (k : ℕ) → k < m → T (p k)) → T (p k)
        at true q ih = elim (ℕ_discrete k m) [ yes x ↦ rw (x, q) tt | no x ↦ ih (omega (arith, bit_yes (p m) (rw q tt))) k (omega arith) ]
        at false q ih = absurd (omega (arith, bit_no (p m) (rw q (λ x. x)), count_bound p m))

-- A search that finds one that fails, or none; and one that finds one that passes, or none.
pub all_pass : (p : ℕ → Bool) (n : ℕ) → ((i : ℕ) → i < n → T (p i)) → true ≡ every p n
all_pass p n h = sym (is_true (every p n) ((every_iff p n).1 h))

pub one_fails : (p : ℕ → Bool) (n i : ℕ) → i < n → (T (p i) → ⊥) → false ≡ every p n
one_fails p n i l h = sym (is_false (every p n) (λ x. h ((every_iff p n).0 x i l)))

pub one_passes : (p : ℕ → Bool) (n i : ℕ) → i < n → T (p i) → true ≡ some p n
one_passes p n i l h = sym (is_true (some p n) ((some_iff p n).1 (i, l, h)))

pub none_passes : (p : ℕ → Bool) (n : ℕ) → ((i : ℕ) → i < n → T (p i) → ⊥) → false ≡ some p n
none_passes p n h = sym (is_false (some p n) (λ x. let (i, l, y) = (some_iff p n).0 x in h i l y))
