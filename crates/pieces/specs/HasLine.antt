-- Whether a text has a line: its first line has it, or the lines behind it (`first_line_is`, `later_lines`).
use Rattle.std.specs.Prelude.{◌≡◌, true, false, List, drop}
use Prim.Native.Nat.{ℕ, suc, ◌+◌, ◌≤◌, ◌<◌}
use Rattle.std.proofs.Math.Decide.{dec_lt}
use Rattle.std.proofs.Common.{arith}
use Rattle.std.proofs.Math.ListN.{length, take}
use Rattle.std.proofs.Math.Seq.{take_all}
use Rattle.model.specs.PlainText.{is_line_feed, lines_of, same}
use Rattle.model.specs.ReportRead.{has_line}
use Rattle.pieces.specs.Marks.{length_to, length_to_le}
use Rattle.pieces.specs.Pieces.{split_last, split_more}

module _ (s w : List ℕ) {n : ℕ} (e : n ≡ length_to is_line_feed s) where
  pub first_line_is : same (take n s) w ≡ true → has_line w (lines_of s) ≡ true
  unfolding has_line
  first_line_is h = elim (dec_lt (length_to is_line_feed s) (length s)) [
    | yes l ↦ rw (split_more is_line_feed s l, ← e, h)
    | no l ↦
        let all : length_to is_line_feed s ≡ length s = omega (arith, length_to_le is_line_feed s) in
        let whole : take n s ≡ s = take_all n s (omega (arith, e, all)) in
        rw (split_last is_line_feed s all, rw whole at h)
  ]

  pub no_line_left : same (take n s) w ≡ false → length s ≤ n → has_line w (lines_of s) ≡ false
  unfolding has_line
  no_line_left h l =
      let all : length_to is_line_feed s ≡ length s = omega (arith, length_to_le is_line_feed s, e) in
      let whole : take n s ≡ s = take_all n s l in
      rw (split_last is_line_feed s all, rw whole at h)

  pub later_lines : same (take n s) w ≡ false → n < length s → has_line w (lines_of s) ≡ has_line w (lines_of (drop (n + 1) s))
  unfolding has_line
  later_lines h l =
      let next : n + 1 ≡ suc (length_to is_line_feed s) = omega (arith, e) in
      rw (next, split_more is_line_feed s (omega (arith, e)), ← e, h)
