use Rattle.std.proofs.Common.{◌≡◌, ◌^◌, ◌≤◌, ◌<◌, arith, rules, length, length-append}
use Rattle.model.specs.Limits.{report_bytes}
use Rattle.model.specs.Notation.{text}
use Rattle.model.specs.Report.{refusal_line}
use Rattle.model.specs.Values.{Refusal}
use Rattle.counting.specs.Put.{Put}
use Rattle.text.specs.Decimal.{wide}
use Rattle.words.specs.Out.{Fits, fresh}
use Rattle.report.specs.Put.{at_front}
use Rattle.report.proofs.write_refusal.Goals as goal

short : (r : Refusal) → r.number < 2 ^ 64 → r.place < 2 ^ 64 → length (refusal_line r) ≤ report_bytes
unfolding text
short r n p = simp length-append (omega (arith, wide r.number n, wide r.place p))

pub put_pair-requires : goal.put_pair-requires
unfolding text
put_pair-requires c =
    let number : c.from-number.result ≡ c.args.refusal.number = search rules in
    let place : c.from-place.result ≡ c.args.refusal.place = search rules in
    let told = c.args.refusal in
    let room : Fits (refusal_line told) c.new-out.result =
    fresh c.new-out.ensures.at c.new-out.ensures.buffer (omega (arith, short told (omega arith) (omega arith))) in
    rw (number, place) room

pub returns : goal.returns
unfolding text
returns c =
    let number : c.from-number.result ≡ c.args.refusal.number = search rules in
    let place : c.from-place.result ≡ c.args.refusal.place = search rules in
    let refusal = rw (number, place) at c.put_pair.ensures in
    let put = refusal.put in
    let same = refusal.same_reference in
    let end = put.place in
    let enough = short c.args.refusal (omega arith) (omega arith) in
    let at_end : Put (refusal_line c.args.refusal) 0 c.args.buffer.now _ c.at.result = grind arith in
    record { buffer_after = at_front at_end (omega arith); upper_bound = omega arith }
