-- A piece put into a buffer from a place on: one notion for every writer, and the law that joins two pieces.
use Rattle.std.specs.Prelude.{◌≡◌, refl, List, [], ◌∷◌, ◌++◌, ℕ, suc, ◌+◌, length, set}
use Rattle.std.proofs.Common.{sym, ◌∙◌, add-zero, arith, length-append}
use Rattle.std.proofs.lemmas.List.Edits.{sets}

-- The piece stands from `at` on, all else is as it was, and `next` is the place behind the piece.
pub record Put (piece : List ℕ) (at : ℕ) (before after : List ℕ) (next : ℕ) : Type 0 where
  pub bytes : after ≡ sets before at piece
  pub place : next ≡ at + length piece

sets_append : (a b l : List ℕ) (at : ℕ) → sets l at (a ++ b) ≡ sets (sets l at a) (at + length a) b
sets_append [] b l at = rw add-zero
sets_append (x ∷ a) b l at =
    let e : suc at + length a ≡ at + length (x ∷ a) = omega arith in
    sets_append a b (set l at x) (suc at) ∙ rw e

pub nothing : (at : ℕ) (l : List ℕ) → Put [] at l l at
nothing at l = record { bytes = refl; place = omega arith }

pub byte : (x at : ℕ) (l : List ℕ) → Put (x ∷ []) at l (set l at x) (at + 1)
byte x at l = record { bytes = refl; place = omega arith }

pub join : {a b before between after : List ℕ} {at middle next : ℕ} → Put a at before between middle → Put b middle between after next
    → Put (a ++ b) at before after next
join {a} {b} {before} {at = at} p q =
    record { bytes = q.bytes ∙ rw (p.place, p.bytes) (sym (sets_append a b before at)); place = omega (arith, length-append a b) }
