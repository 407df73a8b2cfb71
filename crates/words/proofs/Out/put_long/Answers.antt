-- The eight bytes are those of the lower word, and then those of the upper one.
use Rattle.std.proofs.Common.{◌≡◌, ◌∙◌, ℕ, ◌/◌, ◌%◌, arith}
use Rattle.std.specs.Int.{w64, to_le_bytes}
use Rattle.model.specs.Limits.{word_limit}
use Rattle.model.specs.TableFile.{bytes_of, two_words}
use Rattle.words.proofs.Out.put_long.Goals as goal

long_bytes : (n : ℕ) → to_le_bytes w64 n ≡ bytes_of (two_words n)
unfolding bytes_of
long_bytes n =
    let lower : (n % word_limit % 256 ≡ n % 256) × (n % word_limit / 256 % 256 ≡ n / 256 % 256)
    × (n % word_limit / 65536 % 256 ≡ n / 65536 % 256) × (n % word_limit / 16777216 % 256 ≡ n / 16777216 % 256) =
    (omega arith, omega arith, omega arith, omega arith) in
    let upper : (n / word_limit / 256 ≡ n / 1099511627776) × (n / word_limit / 65536 ≡ n / 281474976710656)
    × (n / word_limit / 16777216 ≡ n / 72057594037927936) =
    (omega arith, omega arith, omega arith) in
    rw (lower.0, lower.1, lower.2, lower.3, upper.0, upper.1, upper.2)

pub put-requires : goal.put-requires
put-requires c = rw (c.to_le_bytes.ensures ∙ long_bytes c.args.number) c.requires

pub returns : goal.returns
returns c = rw (← (c.to_le_bytes.ensures ∙ long_bytes c.args.number)) c.put.ensures
