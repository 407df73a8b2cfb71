-- The loop has the members among those that it has passed.
use Rattle.std.proofs.Common.{◌≡◌, ℕ, Bool, ◌&&◌, ◌<◌, ◌^◌, ltb}
use Rattle.model.specs.Notation.{bits}
use Rattle.slots.proofs.members.Given as goal

abbrev pub invariant-loop-i : goal.invariant-loop-i
invariant-loop-i g l =
    (l.set < 2 ^ l.i) × ((p : ℕ → Bool) → ((k : ℕ) (b : Bool) → k < l.n → goal.F-post g l.is_member k b → b ≡ p k) → l.set ≡ bits (λ k. ltb k l.n && p k) l.i)
