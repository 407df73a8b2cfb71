-- Numbers in words: the value of digits, and the faults of a row of numbers.
use Rattle.std.specs.Prelude.{◌≡◌, refl, ◌≢◌, Bool, true, false, cond, not, ◌&&◌, List, [], ◌∷◌}
use Rattle.std.specs.Prelude.{ℕ, zero, suc, ◌+◌, ◌-◌, ◌*◌, ◌≤◌, ◌<◌, leb, length, get_or, set, drop}
use Rattle.std.proofs.Math.Path.{sym}
use Rattle.std.proofs.Common.{ap, ◌∙◌, arith, lt-ltb, le-ltb, leb-true, length-set, drop-cons, drop-drop, get_or-drop, get_or-set_same, get_or-set_other}
use Rattle.std.proofs.Math.Decide.{ℕ_discrete}
use Rattle.std.specs.List.{list_all}
use Rattle.model.specs.PlainText.{is_gap, is_digit, words_of, all_digits, value_after, value, number_fault, or_else, numbers_fault, number}
use Rattle.pieces.specs.Marks.{length_to}
use Rattle.plaintext.specs.Words.{some_word, no_words}

-- A word as a number: its fault, or else its value, which is below the limit.
pub record NumberRead (limit : ℕ) (w : List ℕ) (fault v : ℕ) : Type 0 where
  pub fault_is : fault ≡ number_fault limit w
  pub value_is : fault ≡ 0 → v ≡ value w
  pub below : fault ≡ 0 → v < limit

-- Words as so many numbers: their first fault, or else their values, which are below the limit.
pub record NumbersRead (limit n : ℕ) (ws : List (List ℕ)) (fault : ℕ) (vs : List ℕ) : Type 0 where
  pub fault_is : fault ≡ numbers_fault limit n ws
  pub values : fault ≡ 0 → (i : ℕ) → i < n → get_or vs i 0 ≡ number ws i
  pub below : fault ≡ 0 → (i : ℕ) → i < n → get_or vs i 0 < limit

-- A word in which no byte but digits is found.
abbrev stranger : ℕ → Bool
stranger x = not (is_digit x)

pub all_digits_lem : (w : List ℕ) → length_to stranger w ≡ length w → all_digits w ≡ true
unfolding length_to all_digits
all_digits_lem [] e = refl
all_digits_lem (x ∷ w) e = go (is_digit x) (all_digits_lem w) e
  where
    go : (b : Bool) → (length_to stranger w ≡ length w → all_digits w ≡ true) → cond (not b) 0 (suc (length_to stranger w)) ≡ length (x ∷ w)
        → b && all_digits w ≡ true
    go true later h = later (omega arith)
    go false later h = absurd (omega arith)

-- The same by std's word for a test of all.
pub all_digits_is : (w : List ℕ) → list_all is_digit w ≡ all_digits w
unfolding all_digits
all_digits_is [] = refl
all_digits_is (x ∷ w) = rw (all_digits_is w)

pub a_stranger : (w : List ℕ) → length_to stranger w < length w → all_digits w ≡ false
unfolding length_to all_digits
a_stranger [] h = absurd (omega arith)
a_stranger (x ∷ w) h = go (is_digit x) (a_stranger w) h
  where
    go : (b : Bool) → (length_to stranger w < length w → all_digits w ≡ false) → cond (not b) 0 (suc (length_to stranger w)) < length (x ∷ w)
        → b && all_digits w ≡ false
    go true later l = later (omega arith)
    go false later l = refl

-- Two tests that both hold.
and_true : (a b : Bool) → a && b ≡ true → (a ≡ true) × (b ≡ true)
and_true true b e = (refl, e)
and_true false b e = let z : ◌≡◌ {A = ℕ} 0 1 = cc in absurd (omega arith)

-- A digit is a byte from 48 to 57.
pub digit_range : (x : ℕ) → is_digit x ≡ true → (48 ≤ x) × (x ≤ 57)
digit_range x e = let (low, high) = and_true (leb 48 x) (leb x 57) e in (leb-true 48 x low, leb-true x 57 high)

-- Each byte of a word of digits is one.
pub digit_at : (w : List ℕ) (i : ℕ) → all_digits w ≡ true → i < length w → is_digit (get_or w i 0) ≡ true
unfolding all_digits
digit_at [] i e h = absurd (omega arith)
digit_at (x ∷ w) zero e h = (and_true (is_digit x) (all_digits w) e).0
digit_at (x ∷ w) (suc i) e h = digit_at w i (and_true (is_digit x) (all_digits w) e).1 (omega arith)

-- A value does not fall with more digits.
value_grows : (n : ℕ) (w : List ℕ) → n ≤ value_after n w
unfolding value_after
value_grows n [] = omega arith
value_grows n (x ∷ w) = omega (arith, value_grows (10 * n + (x - 48)) w)

-- One more digit is read.
pub next_digit : (w : List ℕ) (i n : ℕ) → i < length w → value_after n (drop i w) ≡ value_after (10 * n + (get_or w i 0 - 48)) (drop (i + 1) w)
unfolding value_after
next_digit w i n h = let e : i + 1 ≡ suc i = omega arith in rw (e, drop-cons w i 0 h)

-- The number is read to its end, or is too large before that.
pub read_number : (limit : ℕ) (w : List ℕ) (v : ℕ) → all_digits w ≡ true → value w ≡ v → v < limit → NumberRead limit w 0 v
read_number limit w v digits e h = record { fault_is = rw (digits, e, lt-ltb v limit h); value_is = λ z. sym e; below = λ z. h }

pub too_large : (limit : ℕ) (w rest : List ℕ) (n v : ℕ) → all_digits w ≡ true → value w ≡ value_after n rest → limit ≤ n → NumberRead limit w 62 v
too_large limit w rest n v digits e h =
    record {
      fault_is = rw (digits, le-ltb (value w) limit (omega (arith, value_grows n rest)));
      value_is = λ z. absurd (omega arith);
      below = λ z. absurd (omega arith);
    }

pub no_number : (limit : ℕ) (w : List ℕ) (v : ℕ) → all_digits w ≡ false → NumberRead limit w 61 v
no_number limit w v e = record { fault_is = rw e; value_is = λ z. absurd (omega arith); below = λ z. absurd (omega arith) }

-- The first of two faults, where there is one and where there is none.
first_fault : (f g : ℕ) → f ≢ 0 → or_else f g ≡ f
first_fault zero g h = absurd (h refl)
first_fault (suc f) g h = refl

-- So far i of n numbers were read without a fault, and these bytes are left.
pub record Reading (limit n : ℕ) (ws : List (List ℕ)) (i : ℕ) (left vs : List ℕ) : Type 0 where
  pub order : i ≤ n
  pub room : n ≤ length vs
  pub rest : drop i ws ≡ words_of left
  pub same : numbers_fault limit n ws ≡ numbers_fault limit (n - i) (words_of left)
  pub values : (k : ℕ) → k < i → get_or vs k 0 ≡ number ws k
  pub below : (k : ℕ) → k < i → get_or vs k 0 < limit

pub start_reading : (limit n : ℕ) (s vs : List ℕ) → n ≤ length vs → Reading limit n (words_of s) 0 s vs
start_reading limit n s vs h =
    let all : n - 0 ≡ n = omega arith in
    record { order = omega arith; room = h; rest = refl; same = rw all; values = λ k l. absurd (omega arith); below = λ k l. absurd (omega arith) }

module _ {limit n : ℕ} {ws : List (List ℕ)} {i : ℕ} {left vs : List ℕ} (r : Reading limit n ws i left vs) where
  due : i < n → numbers_fault limit n ws ≡ numbers_fault limit (suc (n - (i + 1))) (words_of left)
  due h = let more : n - i ≡ suc (n - (i + 1)) = omega arith in r.same ∙ rw more

  -- A number is due, and no word is left.
  pub too_few : {v : List ℕ} → i < n → words_of left ≡ [] → NumbersRead limit n ws 63 v
  unfolding numbers_fault
  too_few h e = record { fault_is = sym (due h ∙ rw e); values = λ z. absurd (omega arith); below = λ z. absurd (omega arith) }

  module _ {w : List ℕ} {f v : ℕ} (after : List ℕ) (h : i < n) (e : words_of left ≡ w ∷ words_of after) (read : NumberRead limit w f v) where
    here : numbers_fault limit n ws ≡ or_else f (numbers_fault limit (n - (i + 1)) (words_of after))
    unfolding numbers_fault
    here = due h ∙ rw (e, read.fault_is)

    -- The next word has a fault.
    pub faulty : {u : List ℕ} → f ≢ 0 → NumbersRead limit n ws f u
    faulty q = record { fault_is = sym (here ∙ first_fault f _ q); values = λ z. absurd (q z); below = λ z. absurd (q z) }

    -- The next word is a number.
    pub one_more : f ≡ 0 → Reading limit n ws (i + 1) after (set vs i v)
    one_more z = record {
      order = omega arith;
      room = omega (arith, length-set vs i v, r.room);
      rest = sym (drop-drop 1 i ws) ∙ rw (r.rest, e);
      same = here ∙ rw z;
      values = λ k l. by k l (λ x. x ≡ number ws k) (r.values k) (λ q. rw q (read.value_is z ∙ ap value (sym this)));
      below = λ k l. by k l (λ x. x < limit) (r.below k) (λ q. read.below z);
    }
      where
        this : get_or ws i [] ≡ w
        this = let at : i ≡ i + 0 = omega arith in ap (λ (m : ℕ). get_or ws m []) at ∙ sym (get_or-drop i ws 0 []) ∙ rw (r.rest, e)

        by : (k : ℕ) → k < i + 1 → (P : ℕ → Type 0) → (k < i → P (get_or vs k 0)) → (k ≡ i → P v) → P (get_or (set vs i v) k 0)
        by k l P old new = elim (ℕ_discrete k i) [
          | yes q ↦ rw (q, get_or-set_same vs i v 0 (omega (arith, r.room))) (new q)
          | no q ↦ rw (get_or-set_other vs i k v 0 q) (old (omega arith))
        ]

-- After the last number no word may be left.
no_limit : (limit : ℕ) (ws : List (List ℕ)) → numbers_fault limit 0 ws ≡ numbers_fault 0 0 ws
unfolding numbers_fault
no_limit limit [] = refl
no_limit limit (w ∷ ws) = refl

pub all_read : {limit n : ℕ} {ws : List (List ℕ)} {i f : ℕ} {left vs : List ℕ} → Reading limit n ws i left vs → n ≤ i
    → f ≡ numbers_fault 0 0 (words_of left) → NumbersRead limit n ws f vs
all_read {limit} {n} {ws} {i} {f} {left} r h e =
    let done : n - i ≡ 0 = omega arith in
    record {
      fault_is = e ∙ sym (r.same ∙ rw done (no_limit limit (words_of left)));
      values = λ z k l. r.values k (omega arith);
      below = λ z k l. r.below k (omega arith);
    }

-- Where there is a fault, nothing is said of the values.
pub no_values : {limit n : ℕ} {ws : List (List ℕ)} {f : ℕ} {vs us : List ℕ} → f ≢ 0 → NumbersRead limit n ws f vs → NumbersRead limit n ws f us
no_values h r = record { fault_is = r.fault_is; values = λ z. absurd (h z); below = λ z. absurd (h z) }

pub a_word_left : (s : List ℕ) → length_to (λ x. not (is_gap x)) s < length s → 63 ≡ numbers_fault 0 0 (words_of s)
unfolding numbers_fault
a_word_left s h = let (w, (ws, e)) = some_word s h in rw e

pub no_word_left : (s : List ℕ) → length s ≤ length_to (λ x. not (is_gap x)) s → 0 ≡ numbers_fault 0 0 (words_of s)
unfolding numbers_fault
no_word_left s h = rw (no_words s h)
