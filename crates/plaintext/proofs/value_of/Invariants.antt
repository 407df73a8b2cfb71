-- The digits passed have this value, and it is not too large.
use Rattle.std.proofs.Common.{◌≡◌, ◌≤◌, length, drop}
use Rattle.model.specs.PlainText.{value_after}
use Rattle.plaintext.proofs.value_of.Given as goal

abbrev pub invariant-loop-byte : goal.invariant-loop-byte
invariant-loop-byte l = record {
  place : l.byte-index ≤ length l.word;
  small : l.value ≤ l.largest;
  same : value_after 0 l.word ≡ value_after l.value (drop l.byte-index l.word);
}
