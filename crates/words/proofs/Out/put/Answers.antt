-- A part of the buffer is copied over.
use Rattle.std.proofs.Common.{◌≡◌, List, ℕ, ◌+◌, ◌≤◌, length, refl, sym, ◌∙◌, append_assoc, arith}
use borrow.Rule.Slice.PartMut.{put_mid}
use Rattle.std.proofs.lemmas.List.Edits.{sets-eq, paste_all}
use Rattle.std.proofs.lemmas.Slice.{put_mid-paste}
use Rattle.counting.specs.Put.{Put}
use Rattle.words.proofs.Out.put.Goals as goal

part_put : {before s t : List ℕ} {at k : ℕ} → at + length s ≤ length before → k ≡ length s → t ≡ s → Put s at before (put_mid at k before t) (at + length s)
part_put {before} {s} {t} {at} {k} h e f =
    let pasted = put_mid-paste at k before t s (length s) f (omega arith) refl in
    record { bytes = pasted ∙ paste_all before at s (length s) refl ∙ sym (rw append_assoc at (sets-eq s before at h)); place = refl }

pub returns : goal.returns
returns c = record { put = part_put (omega arith) (omega arith) c.copy_from_slice.ensures.after; same_reference = refl }
