-- Pieces of a text put into a buffer: the last parts of a line, and the bytes of a copy.
use Rattle.std.specs.Prelude.{◌≡◌, List, ◌++◌, ℕ, ◌+◌, ◌<◌, length, get_or, set, take}
use Rattle.std.proofs.Common.{append_assoc, add-one, arith, take-suc}
use Rattle.model.specs.Report.{line}
use Rattle.counting.specs.Put.{Put, byte, join}

-- The end of a line is the line of its last two parts.
pub line_end : (a b c : List ℕ) → line (a ++ b ++ c) ≡ a ++ line (b ++ c)
line_end a b c = simp append_assoc

-- The end of a line is put with its last two parts.
pub join_line : {a : List ℕ} (b c : List ℕ) {before between after : List ℕ} {at middle next : ℕ} → Put a at before between middle
    → Put (line (b ++ c)) middle between after next → Put (line (a ++ b ++ c)) at before after next
join_line b c p q = simp append_assoc (simp append_assoc at (join p q))

-- A turn of the loop that copies a text.
pub copied : {before now : List ℕ} {at : ℕ} (s : List ℕ) (i : ℕ) → i < length s → Put (take i s) at before now (at + i)
    → Put (take (i + 1) s) at before (set now (at + i) (get_or s i 0)) (at + (i + 1))
copied {now = now} {at = at} s i h p =
    let n : at + (i + 1) ≡ at + i + 1 = omega arith in
    rw (n, add-one i, take-suc s i 0) (join p (byte (get_or s i 0) (at + i) now))
