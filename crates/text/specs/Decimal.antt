-- A number in decimal: its last digit, how many digits it has, and how they are made, the last one first.
use Rattle.std.specs.Prelude.{◌≡◌, refl, List, [], ◌∷◌, ◌++◌, ℕ, zero, suc, ◌+◌, ◌-◌, ◌/◌, ◌%◌, ◌^◌, ◌≤◌, ◌<◌, length, drop, set}
use Rattle.std.proofs.Common.{sym, ◌∙◌, ap, pow-suc, arith, lt-ltb, le-ltb, append_assoc, length-append}
use Rattle.std.proofs.lemmas.List.{append-nil, drop-set, length-set, length-drop}
use Rattle.std.proofs.Math.ListN.{drop_of_length-le}
use Rattle.std.proofs.Math.Decide.{dec_le}
use Rattle.model.specs.Notation.{digits, decimal}

single : (e n : ℕ) → n < 10 → digits (suc e) n ≡ (48 + n) ∷ []
unfolding digits
single e n h = rw (lt-ltb n 10 h, digits)

several : (e n : ℕ) → 10 ≤ n → digits (suc e) n ≡ digits e (n / 10) ++ ((48 + n % 10) ∷ [])
unfolding digits
several e n h = rw (le-ltb n 10 h, digits)

-- How often to divide is only a limit: every one above the number gives the same digits.
enough : (e f n : ℕ) → n < e → n < f → digits e n ≡ digits f n
enough zero f n a b = absurd (omega arith)
enough (suc e) zero n a b = absurd (omega arith)
enough (suc e) (suc f) n a b =
    elim (dec_le 10 n) [
      | yes h ↦ several e n h ∙ rw (enough e f (n / 10) (omega arith) (omega arith)) (sym (several f n h))
      | no h ↦ single e n (omega arith) ∙ sym (single f n (omega arith))
    ]

pub one_digit : (n : ℕ) → n < 10 → decimal n ≡ (48 + n) ∷ []
unfolding decimal
one_digit n h = single n n h

pub last_digit : (n : ℕ) → 10 ≤ n → decimal n ≡ decimal (n / 10) ++ ((48 + n % 10) ∷ [])
unfolding decimal
last_digit n h = several n n h ∙ rw (enough n (suc (n / 10)) (n / 10) (omega arith) (omega arith))

-- The last digit is one more.
pub one_more : (n : ℕ) → 10 ≤ n → length (decimal n) ≡ length (decimal (n / 10)) + 1
one_more n h = rw (last_digit n h) (length-append (decimal (n / 10)) _)

-- A number below 10 ^ 1, 10 ^ 2, .. has at most 1, 2, .. digits.
pub short : (k n : ℕ) → n < 10 ^ suc k → length (decimal n) ≤ suc k
short zero n h = rw (one_digit n h) (omega arith)
short (suc k) n h =
    elim (dec_le 10 n) [
      | yes l ↦ omega (arith, one_more n l, short k (n / 10) (omega (arith, pow-suc 10 (suc k))))
      | no l ↦ rw (one_digit n (omega arith)) (omega arith)
    ]

-- A number of 64 bits takes at most so many bytes.
abbrev pub number_bytes : ℕ
number_bytes = 20

pub wide : (x : ℕ) → x < 2 ^ 64 → length (decimal x) ≤ number_bytes
wide x h = short 19 x (omega arith)

-- The last digits stand from `at` on, and those of `rest` are to come before them.
pub record Making (number at rest : ℕ) (bytes : List ℕ) : Type 0 where
  pub size : length bytes ≡ number_bytes
  pub at_le : at ≤ number_bytes
  pub made : decimal rest ++ drop at bytes ≡ decimal number

-- The start: all digits are to come.
pub make_none : {number : ℕ} {bytes : List ℕ} → length bytes ≡ number_bytes → Making number number_bytes number bytes
make_none {number} {bytes} h = record {
  size = h;
  at_le = omega arith;
  made = rw (drop_of_length-le bytes {i = number_bytes} (omega (arith, h))) (append-nil (decimal number));
}

some_digit : (n : ℕ) → 1 ≤ length (decimal n)
some_digit n = elim (dec_le 10 n) [
  | yes h ↦ omega (arith, one_more n h)
  | no h ↦ rw (one_digit n (omega arith)) (omega arith)
]

-- There is room for one digit more.
pub room : {number at rest : ℕ} {bytes : List ℕ} → number < 2 ^ 64 → Making number at rest bytes → 1 ≤ at
room {number} {at} {rest} {bytes} h m =
    omega (
      arith,
      m.size,
      m.at_le,
      ap length m.made,
      length-append (decimal rest) (drop at bytes),
      length-drop at bytes,
      wide number h,
      some_digit rest,
    )

-- A digit that is set stands before the others.
before : (bytes : List ℕ) (at digit : ℕ) → 1 ≤ at → at ≤ length bytes → drop (at - 1) (set bytes (at - 1) digit) ≡ digit ∷ drop at bytes
before bytes at digit some le = let e : at - 1 + 1 ≡ at = omega arith in drop-set bytes (at - 1) digit (omega arith) ∙ rw e refl

pub make_one : {number at rest : ℕ} {bytes : List ℕ} → 10 ≤ rest → 1 ≤ at → Making number at rest bytes
    → Making number (at - 1) (rest / 10) (set bytes (at - 1) (48 + rest % 10))
make_one {number} {at} {rest} {bytes} h some m = record {
  size = length-set bytes _ _ ∙ m.size;
  at_le = omega (arith, m.at_le);
  made = rw (before bytes at (48 + rest % 10) some (omega (arith, m.size, m.at_le)))
      (sym (append_assoc (decimal (rest / 10)) ((48 + rest % 10) ∷ []) (drop at bytes)) ∙ rw (← last_digit rest h) m.made);
}

pub make_first : {number at rest : ℕ} {bytes : List ℕ} → rest < 10 → 1 ≤ at → Making number at rest bytes
    → drop (at - 1) (set bytes (at - 1) (48 + rest)) ≡ decimal number
make_first {number} {at} {rest} {bytes} h some m =
    let e : (48 + rest) ∷ drop at bytes ≡ decimal number = rw (one_digit rest h) at m.made in
    before bytes at (48 + rest) some (omega (arith, m.size, m.at_le)) ∙ e
