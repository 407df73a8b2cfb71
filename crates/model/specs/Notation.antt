-- The words that the definitions use beside those of the library's Prelude: sums, counts, searches and texts.
-- None is of scheduling.
use Rattle.std.specs.Prelude.{Bool, true, false, List, [], ◌∷◌, ◌++◌, ℕ, zero, suc, ◌+◌, ◌*◌}
use Rattle.std.specs.Prelude.{◌/◌, ◌%◌, ◌^◌, max, ◌<◌, ltb, eqb, set}
use Prim.Native.String as string
use Prim.Native.Char.{code}

-- `cond p a b` of the library is a where the test p holds, and else b. A test counts 1 where it holds.
abbrev pub bit : Bool → ℕ
bit true = 1
bit false = 0

-- f 0 + f 1 + .. + f (n - 1).
unfoldable pub sum : ℕ → (ℕ → ℕ) → ℕ
sum zero f = 0
sum (suc n) f = sum n f + f n

-- The largest of f 0 to f (n - 1), or 0.
unfoldable pub largest : ℕ → (ℕ → ℕ) → ℕ
largest zero f = 0
largest (suc n) f = max (largest n f) (f n)

-- How many of the numbers below n pass the test p.
unfoldable pub count : (ℕ → Bool) → ℕ → ℕ
count p zero = 0
count p (suc n) = count p n + bit (p n)

-- Some number below n passes; every one does.
abbrev pub some : (ℕ → Bool) → ℕ → Bool
some p n = ltb 0 (count p n)

abbrev pub every : (ℕ → Bool) → ℕ → Bool
every p n = eqb (count p n) n

-- The first of the m numbers from n on that passes, or n + m.
unfoldable pub first : (ℕ → Bool) → ℕ → ℕ → ℕ
first p n zero = n
first p n (suc m) = elim (p n) [ true ↦ n | false ↦ first p (suc n) m ]

-- The last of the numbers below n that passes, or 0.
unfoldable pub last : (ℕ → Bool) → ℕ → ℕ
last p zero = 0
last p (suc n) = elim (p n) [ true ↦ n | false ↦ last p n ]

-- The number t has the property, and no smaller one has.
abbrev pub Least : (ℕ → Type 0) → ℕ → Type 0
Least P t = P t × ((u : ℕ) → u < t → P u → ⊥)

-- The numbers below n that pass, as a set of bits.
unfoldable pub bits : (ℕ → Bool) → ℕ → ℕ
bits p n = sum n (λ k. bit (p k) * 2 ^ k)

-- The number k is in a set of bits.
abbrev pub in_set : ℕ → ℕ → Bool
in_set s k = eqb (s / 2 ^ k % 2) 1

-- The list w with its entries below n replaced by f 0, f 1, ..; the others as they were.
unfoldable pub fill : {A : Type 0} → ℕ → (ℕ → A) → List A → List A
fill zero f w = w
fill (suc n) f w = set (fill n f w) n (f n)

-- The bytes of a text; a number in decimal.
unfoldable pub text : string.String → List ℕ
text string.[] = []
text (string.◌∷◌ c s) = code c ∷ text s

unfoldable pub digits : ℕ → ℕ → List ℕ
digits zero n = []
digits (suc enough) n = elim (ltb n 10) [
  | true ↦ (48 + n) ∷ []
  | false ↦ digits enough (n / 10) ++ ((48 + n % 10) ∷ [])
]

unfoldable pub decimal : ℕ → List ℕ
decimal n = digits (suc n) n
