-- The numbers of a body are the same in the file and in the part of it that was handed on.
use Rattle.std.specs.Prelude.{◌≡◌, List, Bool, true, false, ℕ, drop}
use Rattle.std.proofs.Common.{add_assoc, add-zero, get_or-drop}
use Rattle.model.specs.TableFile.{eight}
use Rattle.tablefile.specs.Reading.{body_in}

pub eight_part : (s : List ℕ) (from : ℕ) → eight (drop from s) 0 ≡ eight s from
eight_part s from = simp (get_or-drop, add_assoc, add-zero)

pub task_part : (button : Bool) (s : List ℕ) (from : ℕ) → body_in button (drop from s) 0 ≡ body_in button s from
task_part true s from = simp (get_or-drop, add_assoc, add-zero)
task_part false s from = simp (get_or-drop, add_assoc, add-zero)
