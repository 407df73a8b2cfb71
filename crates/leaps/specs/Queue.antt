-- A QUEUE (`put_in`): a list that falls, so that its last entry is the least. One more number is put in from behind.
use Rattle.std.specs.Prelude.{◌≡◌, refl, ◌⊎◌, List, Bool, true, false, ℕ, zero, suc, ◌-◌, ◌≤◌, ◌<◌, ltb, length, set}
use Rattle.std.proofs.Common.{sym, ap, subst, ◌∙◌, inl, inr, le_refl, arith, ltb-true, ltb-false, lt-ltb, le-ltb, length-set, get_or-set_same, get_or-set_other}
use Rattle.std.proofs.Math.Nat.{le_step}
use Rattle.std.proofs.Math.Decide.{ℕ_discrete, dec_lt}
use Rattle.model.specs.Limits.{task_limit}
use Rattle.slots.specs.Slot.{at}

-- The first m entries are those that have the property, each once, and they fall.
pub record Queue (P : ℕ → Type 0) (q : List ℕ) (m : ℕ) : Type 0 where
  pub size : length q ≡ task_limit
  pub falls : (a b : ℕ) → a < b → b < m → at q b < at q a
  pub sound : (a : ℕ) → a < m → P (at q a)
  pub found : (x : ℕ) → P x → (a : ℕ) × (a < m) × (at q a ≡ x)

-- The list with x put in among its first m entries: those that are smaller move up by one.
unfoldable pub inserted : List ℕ → ℕ → ℕ → List ℕ
inserted q zero x = set q 0 x
inserted q (suc m) x = elim (ltb (at q m) x) [ true ↦ inserted (set q (suc m) (at q m)) m x | false ↦ set q (suc m) x ]

-- The turns of the loop that does so: from j down, as long as the entry before is smaller.
pub inserted_none : (q : List ℕ) (j x : ℕ) → j ≤ 0 → set q j x ≡ inserted q j x
unfolding inserted
inserted_none q j x h = let e : j ≡ 0 = omega arith in rw e refl

inserted_suc : (q : List ℕ) (m x : ℕ) (b : Bool) → ltb (at q m) x ≡ b → inserted q
    (suc m) x ≡ elim b [ true ↦ inserted (set q (suc m) (at q m)) m x | false ↦ set q (suc m) x ]
unfolding inserted
inserted_suc q m x b e = rw (e, inserted)

module _ (q : List ℕ) (j x : ℕ) (pos : 0 < j) where
  whole : j ≡ suc (j - 1)
  whole = omega arith

  pub inserted_here : x ≤ at q (j - 1) → set q j x ≡ inserted q j x
  inserted_here h =
      ap (λ (k : ℕ). set q k x) whole ∙ sym (inserted_suc q (j - 1) x false (le-ltb (at q (j - 1)) x h)) ∙ ap (λ (k : ℕ). inserted q k x) (sym whole)

  pub inserted_below : at q (j - 1) < x → inserted (set q j (at q (j - 1))) (j - 1) x ≡ inserted q j x
  inserted_below h =
      ap (λ (k : ℕ). inserted (set q k (at q (j - 1))) (j - 1) x) whole ∙ sym (inserted_suc q (j - 1) x true (lt-ltb (at q (j - 1)) x h))
      ∙ ap (λ (k : ℕ). inserted q k x) (sym whole)

-- Where x went, and where the others are.
record Inserted (q : List ℕ) (m x : ℕ) (s : List ℕ) : Type 0 where
  size : length s ≡ length q
  place : ℕ
  upto : place ≤ m
  here : at s place ≡ x
  before : (a : ℕ) → a < place → at s a ≡ at q a
  behind : (a : ℕ) → place ≤ a → a < m → at s (suc a) ≡ at q a
  above : (a : ℕ) → suc a ≡ place → x ≤ at q a
  below : (a : ℕ) → place ≤ a → a < m → at q a < x
  past : (a : ℕ) → m < a → at s a ≡ at q a

is_inserted : (m : ℕ) (q : List ℕ) (x : ℕ) → m < length q → Inserted q m x (inserted q m x)
unfolding inserted
is_inserted zero q x l = record {
  size = length-set q 0 x;
  place = 0;
  upto = le_refl 0;
  here = get_or-set_same q 0 x 0 l;
  before = λ a h. absurd (omega arith);
  behind = λ a h k. absurd (omega arith);
  above = λ a h. absurd (omega arith);
  below = λ a h k. absurd (omega arith);
  past = λ a h. get_or-set_other q 0 a x 0 (omega arith);
}
is_inserted (suc m) q x l = go (ltb (at q m) x) refl (is_inserted m (set q (suc m) (at q m)) x (omega (arith, length-set q (suc m) (at q m))))
  where
    go : (b : Bool) → ltb (at q m) x ≡ b → Inserted (set q (suc m) (at q m)) m x (inserted (set q (suc m) (at q m)) m x)
        → Inserted q (suc m) x (elim b [ true ↦ inserted (set q (suc m) (at q m)) m x | false ↦ set q (suc m) x ])
    go false e i = record {
      size = length-set q (suc m) x;
      place = suc m;
      upto = le_refl (suc m);
      here = get_or-set_same q (suc m) x 0 l;
      before = λ a h. get_or-set_other q (suc m) a x 0 (omega arith);
      behind = λ a h k. absurd (omega arith);
      above = λ a h. let f : a ≡ m = omega arith in rw f (ltb-false _ _ e);
      below = λ a h k. absurd (omega arith);
      past = λ a h. get_or-set_other q (suc m) a x 0 (omega arith);
    }
    go true e i = record {
      size = i.size ∙ length-set q (suc m) (at q m);
      place = i.place;
      upto = le_step i.upto;
      here = i.here;
      before = λ a h. i.before a h ∙ same a (omega (arith, i.upto));
      behind = λ a h k. elim (ℕ_discrete a m) [
        | yes f ↦ rw f (i.past (suc m) (le_refl (suc m)) ∙ get_or-set_same q (suc m) (at q m) 0 l)
        | no f ↦ i.behind a h (omega arith) ∙ same a (omega arith)
      ];
      above = λ a h. omega (arith, i.above a h, same a (omega (arith, i.upto)));
      below = λ a h k. elim (ℕ_discrete a m) [ yes f ↦ rw f (ltb-true _ _ e) | no f ↦ omega (arith, i.below a h (omega arith), same a (omega arith)) ];
      past = λ a h. i.past a (omega arith) ∙ get_or-set_other q (suc m) a (at q m) 0 (omega arith);
    }
      where
        same : (a : ℕ) → a < suc m → at (set q (suc m) (at q m)) a ≡ at q a
        same a h = get_or-set_other q (suc m) a (at q m) 0 (omega arith)

module _ {P : ℕ → Type 0} {q : List ℕ} {m : ℕ} where
  -- The same numbers by another property.
  pub alike : {Q : ℕ → Type 0} → Queue P q m → ((x : ℕ) → P x → Q x) → ((x : ℕ) → Q x → P x) → Queue Q q m
  alike w to back = record { size = w.size; falls = w.falls; sound = λ a l. to (at q a) (w.sound a l); found = λ x p. w.found x (back x p) }

  -- The last entry is the least; without it, the larger ones are left.
  pub last_least : Queue P q m → 0 < m → (x : ℕ) → P x → at q (m - 1) ≤ x
  last_least w pos x p =
      let (a, l, e) = w.found x p in
      elim (dec_lt a (m - 1)) [
        | yes h ↦ omega (arith, w.falls a (m - 1) h (omega arith))
        | no h ↦ omega (arith, ap (at q) (let f : a ≡ m - 1 = omega arith in f))
      ]

  pub but_last : Queue P q m → 0 < m → Queue (λ x. P x × (at q (m - 1) < x)) q (m - 1)
  but_last w pos = record {
    size = w.size;
    falls = λ a b h l. w.falls a b h (omega arith);
    sound = λ a l. (w.sound a (omega arith), w.falls a (m - 1) l (omega arith));
    found =
        λ x (p, h). let (a, l, e) = w.found x p in
        (a, elim (dec_lt a (m - 1)) [ yes k ↦ k | no k ↦ absurd (omega (arith, ap (at q) (let f : a ≡ m - 1 = omega arith in f))) ], e);
  }

  -- A number more.
  pub put_in : Queue P q m → m < task_limit → (x : ℕ) → (P x → ⊥) → (k : ℕ) → k ≡ suc m → Queue (λ y. (y ≡ x) ⊎ P y) (inserted q m x) k
  put_in w few x fresh k e = rw e (go (inserted q m x) (is_inserted m q x (omega (arith, w.size))))
    where
      go : (s : List ℕ) → Inserted q m x s → Queue (λ y. (y ≡ x) ⊎ P y) s (suc m)
      go s i = record {
        size = i.size ∙ w.size;
        falls = falls;
        sound = sound;
        found = found;
      }
        where
          -- An entry before the place is larger than x; one behind it was there one earlier.
          larger : (a : ℕ) → a < i.place → x < at q a
          larger a l =
              elim (ℕ_discrete (suc a) i.place) [
                | yes e ↦ over a e
                | no e ↦ omega
                    (arith, w.falls a (i.place - 1) (omega arith) (omega (arith, i.upto)), over (i.place - 1) (omega arith))
              ]
            where
              over : (b : ℕ) → suc b ≡ i.place → x < at q b
              over b e =
                  elim (ℕ_discrete (at q b) x) [ yes f ↦ absurd (fresh (subst P f (w.sound b (omega (arith, i.upto))))) | no f ↦ omega (arith, i.above b e) ]

          moved : (a : ℕ) → i.place < a → a < suc m → at s a ≡ at q (a - 1)
          moved a h l = let e : a ≡ suc (a - 1) = omega arith in ap (at s) e ∙ i.behind (a - 1) (omega arith) (omega arith)

          falls : (a b : ℕ) → a < b → b < suc m → at s b < at s a
          falls a b h l = at_b (dec_lt b i.place) (ℕ_discrete b i.place)
            where
              at_a : i.place < b → Dec (a < i.place) → Dec (a ≡ i.place) → at s b < at s a
              at_a k (yes f) g = omega (arith, moved b k l, i.before a f, w.falls a (b - 1) (omega arith) (omega arith))
              at_a k (no f) (yes g) = omega (arith, moved b k l, ap (at s) g, i.here, i.below (b - 1) (omega arith) (omega arith))
              at_a k (no f) (no g) = omega (arith, moved b k l, moved a (omega arith) (omega arith), w.falls (a - 1) (b - 1) (omega arith) (omega arith))

              at_b : Dec (b < i.place) → Dec (b ≡ i.place) → at s b < at s a
              at_b (yes f) g = omega (arith, i.before b f, i.before a (omega arith), w.falls a b h (omega (arith, i.upto)))
              at_b (no f) (yes g) = omega (arith, ap (at s) g, i.here, i.before a (omega arith), larger a (omega arith))
              at_b (no f) (no g) = at_a (omega arith) (dec_lt a i.place) (ℕ_discrete a i.place)

          sound : (a : ℕ) → a < suc m → (at s a ≡ x) ⊎ P (at s a)
          sound a l = elim (dec_lt a i.place) [
            | yes f ↦ inr (rw (i.before a f) (w.sound a (omega (arith, i.upto))))
            | no f ↦
                elim (ℕ_discrete a i.place) [
                  | yes g ↦ inl (ap (at s) g ∙ i.here)
                  | no g ↦ inr (rw (moved a (omega arith) l) (w.sound (a - 1) (omega arith)))
                ]
          ]

          found : (y : ℕ) → (y ≡ x) ⊎ P y → (a : ℕ) × (a < suc m) × (at s a ≡ y)
          found y (inl e) = (i.place, omega (arith, i.upto), i.here ∙ sym e)
          found y (inr p) =
              let (a, l, e) = w.found y p in
              elim (dec_lt a i.place) [ yes f ↦ (a, le_step l, i.before a f ∙ e) | no f ↦ (suc a, omega arith, i.behind a (omega arith) l ∙ e) ]
