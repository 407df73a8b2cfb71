-- The words one after another.
use Rattle.std.proofs.Common.{◌≡◌, ℕ, ap, rules}
use Rattle.model.specs.Notation.{bit}
use Rattle.model.specs.TableFile.{bytes_of}
use Rattle.words.specs.Out.{both, first, second}
use Rattle.logbuffer.proofs.put_words.Goals as goal

pub put_word-requires : goal.put_word-requires
unfolding bytes_of
put_word-requires c =
    let opened : c.from.result ≡ bit c.args.reading.opened = search rules in
    rw opened (first _ c.requires)

pub put_word-requires-2 : goal.put_word-requires-2
unfolding bytes_of
put_word-requires-2 c =
    let opened : c.from.result ≡ bit c.args.reading.opened = search rules in
    let done : c.from-2.result ≡ bit c.args.reading.done = search rules in
    rw done (first _ (second (rw opened at c.put_word.ensures) c.requires))

pub put_word-requires-3 : goal.put_word-requires-3
unfolding bytes_of
put_word-requires-3 c =
    let opened : c.from.result ≡ bit c.args.reading.opened = search rules in
    let done : c.from-2.result ≡ bit c.args.reading.done = search rules in
    let number = ap (λ (t : ℕ × ℕ). t.0) c.told-number.ensures in
    rw number (first _ (second (rw done at c.put_word-2.ensures) (second (rw opened at c.put_word.ensures) c.requires)))

pub put_word-requires-4 : goal.put_word-requires-4
unfolding bytes_of
put_word-requires-4 c =
    let opened : c.from.result ≡ bit c.args.reading.opened = search rules in
    let done : c.from-2.result ≡ bit c.args.reading.done = search rules in
    let number = ap (λ (t : ℕ × ℕ). t.0) c.told-number.ensures in
    let place = ap (λ (t : ℕ × ℕ). t.1) c.told-number.ensures in
    rw place (second (rw number at c.put_word-3.ensures) (second (rw done at c.put_word-2.ensures) (second (rw opened at c.put_word.ensures) c.requires)))

pub returns : goal.returns
unfolding bytes_of
returns c =
    let opened : c.from.result ≡ bit c.args.reading.opened = search rules in
    let done : c.from-2.result ≡ bit c.args.reading.done = search rules in
    let number = ap (λ (t : ℕ × ℕ). t.0) c.told-number.ensures in
    let place = ap (λ (t : ℕ × ℕ). t.1) c.told-number.ensures in
    rw (← opened, ← done, ← number, ← place) (both c.put_word.ensures (both c.put_word-2.ensures (both c.put_word-3.ensures c.put_word-4.ensures)))
