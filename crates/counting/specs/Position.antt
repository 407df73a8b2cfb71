-- The first place in a list at which a test passes, or the length of the list.
use Rattle.std.specs.Prelude.{◌≡◌, Bool, not, List, ◌≤◌, length}
use Rattle.std.proofs.Common.{arith, lt-ltb, le-ltb}
use Rattle.std.proofs.Math.Decide.{dec_lt}
use Rattle.std.specs.List.{position, position_or_len}
use Rattle.std.specs.Option.{unwrap_or}
use Rattle.std.proofs.lemmas.List.Sums.{prefix_len-le-length}

pub position_or_length : {X : Type 0} (p : X → Bool) (l : List X) → unwrap_or (position p l) (length l) ≡ position_or_len p l
position_or_length p l =
    let le : position_or_len p l ≤ length l = prefix_len-le-length (λ x. not (p x)) l in
    elim (dec_lt (position_or_len p l) (length l)) [
      | yes h ↦ rw (lt-ltb (position_or_len p l) (length l) h)
      | no h ↦ rw (le-ltb (position_or_len p l) (length l) (omega arith)) (omega arith)
    ]
