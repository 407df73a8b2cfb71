-- The invariant is `ReadSoFar`: reading on from here makes the form of the file. The measure is what is left of the file.
use Prim.Native.Nat.{◌-◌}
use lib.ListN.{length}
use Rattle.tablefile.proofs.ReadSoFar.{ReadSoFar}
use Rattle.tablefile.proofs.form_of.Given as goal

abbrev pub invariant-loop-why : goal.invariant-loop-why
invariant-loop-why l = ReadSoFar l.file l.budget l.table l.at

abbrev pub decreases-loop-why : goal.decreases-loop-why
decreases-loop-why l = length l.file - l.at
