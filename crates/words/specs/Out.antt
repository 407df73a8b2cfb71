-- A piece put at the place of an `Out`, and the laws of pieces put one after another.
use Rattle.std.specs.Prelude.{◌≡◌, refl, List, [], ◌++◌, ℕ, ◌+◌, ◌≤◌, length}
use Rattle.std.proofs.Common.{◌∙◌, arith, length-append}
use Rattle.std.proofs.Math.Seq.{length-sets}
use Rattle.counting.specs.Put.{Put, nothing, join}
use Rattle.words.specs.declared.Out.{Out}

-- There is room for the piece.
pub record Fits (piece : List ℕ) (out : Out) : Type 0 where
  pub room : out.at + length piece ≤ length out.buffer.now

-- The piece stands from the old place on, the new place is behind it, and all else is as it was.
pub record Puts (piece : List ℕ) (old new : Out) : Type 0 where
  pub put : Put piece old.at old.buffer.now new.buffer.now new.at
  pub same_reference : new.buffer.ghost_name ≡ old.buffer.ghost_name

pub none : (out : Out) → Puts [] out out
none out = record { put = nothing _ _; same_reference = refl }

pub both : {a b : List ℕ} {old between new : Out} → Puts a old between → Puts b between new → Puts (a ++ b) old new
both p q = record { put = join p.put q.put; same_reference = q.same_reference ∙ p.same_reference }

-- Where two pieces fit one after the other, the first does, and the second where the first is put.
pub first : {a : List ℕ} (b : List ℕ) {out : Out} → Fits (a ++ b) out → Fits a out
first {a} b h = record { room = omega (arith, h.room, length-append a b) }

pub second : {a b : List ℕ} {old new : Out} → Puts a old new → Fits (a ++ b) old → Fits b new
second {a} {b} {old} p h =
    let place = p.put.place in
    let bytes = p.put.bytes in
    record { room = rw (place, bytes, length-sets old.buffer.now old.at a) (omega (arith, h.room, length-append a b)) }

-- What is no longer than a piece that fits does too.
pub within : {a b : List ℕ} {out : Out} → Fits a out → length b ≤ length a → Fits b out
within h le = record { room = omega (arith, h.room, le) }

-- A new `Out` has the room of its buffer.
pub fresh : {piece buffer : List ℕ} {out : Out} → out.at ≡ 0 → out.buffer.now ≡ buffer → length piece ≤ length buffer → Fits piece out
fresh at same h = record { room = rw (at, same) (omega (arith, h)) }
