-- When a state belongs to a table: the model's tests, at the numbers of one task.
use Rattle.std.specs.Prelude.{◌≡◌, Bool, not, ◌&&◌, ◌||◌, ℕ, ◌-◌, max, ◌<◌, leb, ltb}
use Rattle.std.proofs.Math.Decide.{dec_lt}
use Rattle.std.proofs.Common.{arith, lt-ltb, le-ltb, le-leb}
use Rattle.std.proofs.lemmas.Bool.{lt-leb}
use Rattle.values.specs.declared.Task.{Task}
use Rattle.model.specs.Tasks.{offset}

-- A task with this wait and these slots left does not belong to the table.
abbrev pub strange_at : Task → ℕ → ℕ → Bool
strange_at k wait left =
    ltb (max (offset k) k.period) wait
    || ltb k.cost left
    || (ltb 0 left && (ltb wait (k.period - k.deadline) || ltb (k.period - 1) wait))

-- Above the larger of two is above both.
pub above_both : (a b x : ℕ) → ltb (max a b) x ≡ (ltb a x && ltb b x)
above_both a b x = go (dec_lt a x) (dec_lt b x)
  where
    go : Dec (a < x) → Dec (b < x) → ltb (max a b) x ≡ (ltb a x && ltb b x)
    go (yes p) (yes q) = rw (lt-ltb (max a b) x (omega arith), lt-ltb a x p, lt-ltb b x q)
    go (yes p) (no q) = rw (le-ltb (max a b) x (omega arith), lt-ltb a x p, le-ltb b x (omega arith))
    go (no p) q = rw (le-ltb (max a b) x (omega arith), le-ltb a x (omega arith))

-- The two tests of an order.
pub at_least : (n x : ℕ) → leb n x ≡ not (ltb x n)
at_least n x = elim (dec_lt x n) [ yes p ↦ rw (lt-leb n x p, lt-ltb x n p) | no p ↦ rw (le-leb n x (omega arith), le-ltb x n (omega arith)) ]
