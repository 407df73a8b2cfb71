use Rattle.std.proofs.Common.{arith, rules, get_or}
use mir.Val.{Fits as FitsWord}
use mir.Syntax.{w32}
use Rattle.model.specs.Notation.{text}
use Rattle.model.specs.Report.{report_of}
use Rattle.report.specs.Fits.{Printable}
use Rattle.report.specs.Put.{at_front}
use Rattle.report.proofs.Fits.{fits}
use Rattle.report.proofs.Pieces.{whole, from_load, from_quick, from_horizon, from_verdict, from_settled, whole_report}
use Rattle.words.specs.Out.{Fits, Puts, fresh, both, first, second}
use Rattle.report.proofs.write_report.Goals.{After-new-out, After-put_line, After-put_pair, After-put_quick}
use Rattle.report.proofs.write_report.Goals.{After-put_line-2, After-put_verdict, After-put_line-3}
use Rattle.report.proofs.write_report.Goals as goal

printable : (c : After-new-out) → Printable c.args.tasks c.args.answer c.args.verdict
printable c = record {
  tasks = omega arith;
  load = omega arith;
  round = omega arith;
  horizon = omega arith;
  settled = omega arith;
  worst = λ k h. let f : FitsWord w32 (get_or c.args.answer.worst k 0) = search rules in omega (arith, f);
  idle = omega arith;
  verdict = search rules;
}

at_tasks : (c : After-new-out) → Fits (whole c.args.tasks c.args.quick c.args.answer c.args.verdict) c.new-out.result
at_tasks c =
    let short = fits c.args.tasks c.args.quick c.args.answer c.args.verdict (printable c) in
    let long = c.requires.report_bytes_in_bounds in
    let room : Fits (report_of c.args.tasks c.args.quick c.args.answer c.args.verdict) c.new-out.result =
    fresh c.new-out.ensures.at c.new-out.ensures.buffer (omega (arith, short, long)) in
    rw (whole_report c.args.tasks c.args.quick c.args.answer c.args.verdict) at room

at_load : (c : After-put_line) → Fits (from_load c.args.tasks c.args.quick c.args.answer c.args.verdict) c.put_line.new.out
unfolding text
at_load c = second c.put_line.ensures (at_tasks (goal.at.After-put_line c).After-new-out)

at_quick : (c : After-put_pair) → Fits (from_quick c.args.tasks c.args.quick c.args.answer c.args.verdict) c.put_pair.new.out
unfolding text
at_quick c = second c.put_pair.ensures (at_load (goal.at.After-put_pair c).After-put_line)

at_horizon : (c : After-put_quick) → Fits (from_horizon c.args.tasks c.args.quick c.args.answer c.args.verdict) c.put_quick.new.out
unfolding text
at_horizon c = second c.put_quick.ensures (at_quick (goal.at.After-put_quick c).After-put_pair)

at_verdict : (c : After-put_line-2) → Fits (from_verdict c.args.tasks c.args.quick c.args.answer c.args.verdict) c.put_line-2.new.out
unfolding text
at_verdict c = second c.put_line-2.ensures (at_horizon (goal.at.After-put_line-2 c).After-put_quick)

at_settled : (c : After-put_verdict) → Fits (from_settled c.args.tasks c.args.quick c.args.answer c.args.verdict) c.put_verdict.new.out
unfolding text
at_settled c = second c.put_verdict.ensures (at_verdict (goal.at.After-put_verdict c).After-put_line-2)

pub put_line-requires : goal.put_line-requires
unfolding text
put_line-requires c = first _ (at_tasks (goal.at.put_line-requires c).After-new-out)

pub put_pair-requires : goal.put_pair-requires
unfolding text
put_pair-requires c = first _ (at_load (goal.at.put_pair-requires c).After-put_line)

pub put_quick-requires : goal.put_quick-requires
put_quick-requires c = first _ (at_quick (goal.at.put_quick-requires c).After-put_pair)

pub put_line-requires-2 : goal.put_line-requires-2
unfolding text
put_line-requires-2 c = first _ (at_horizon (goal.at.put_line-requires-2 c).After-put_quick)

pub put_verdict-requires : goal.put_verdict-requires
put_verdict-requires c = first _ (at_verdict (goal.at.put_verdict-requires c).After-put_line-2)

pub put_line-requires-3 : goal.put_line-requires-3
unfolding text
put_line-requires-3 c = first _ (at_settled (goal.at.put_line-requires-3 c).After-put_verdict)

pub put_details-requires-clause-room : goal.put_details-requires-clause-room
unfolding text
put_details-requires-clause-room c = second c.put_line-3.ensures (at_settled (goal.at.put_details-requires-clause-room c).After-put_verdict)

pub returns : goal.returns
unfolding text
returns c =
    let all = both c.put_line.ensures (both c.put_pair.ensures (both c.put_quick.ensures (both c.put_line-2.ensures
    (both c.put_verdict.ensures (both c.put_line-3.ensures c.put_details.ensures))))) in
    let told : Puts (whole c.args.tasks c.args.quick c.args.answer c.args.verdict) c.new-out.result c.put_details.new.out = all in
    let report = rw (← whole_report c.args.tasks c.args.quick c.args.answer c.args.verdict) at told in
    let put = report.put in
    let same = report.same_reference in
    let short = fits c.args.tasks c.args.quick c.args.answer c.args.verdict (printable (goal.at.returns c).After-new-out) in
    let place = put.place in
    record {
      buffer_after = at_front (grind arith) (omega arith);
      upper_bound = omega arith;
    }
