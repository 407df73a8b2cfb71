-- Reading on from the lines that are left makes the form of the text.
use Rattle.std.specs.Prelude.{Result, Ok, Err}
use Rattle.std.proofs.Common.{◌≡◌, ◌<◌, ◌+◌, ℕ, sym, ap, ◌∙◌, arith, rules, length, drop, length-drop}
use borrow.Author.Rules.{part_to_end}
use Rattle.std.specs.Option.{is_some, unwrap_or}
use Rattle.values.specs.declared.Fault.{Fault}
use Rattle.plaintext.specs.Faults.{said}
use Rattle.values.specs.declared.Entry.{Entry}
use Rattle.model.specs.PlainText.{is_line_feed, lines_of, largest_budget}
use Rattle.pieces.specs.Marks.{length_to}
use Rattle.plaintext.specs.Lines.{Reached, Follows, start, follows, last_line, later_line, text_ends}
use Rattle.plaintext.proofs.form_of.Goals.{After-line_of, Joined-entry, in-Nothing, in-Budget, in-OneTask}
use Rattle.plaintext.proofs.form_of.Goals as goal

pub loop-entry-init : goal.loop-entry-init
loop-entry-init c = record { part = omega arith; reached = start _ c.no_tasks-table.ensures }

-- The first line that is left ends here.
ended : (c : After-line_of) → c.find-end.result ≡ length_to is_line_feed c.loop-entry.left.now
ended c = c.find-end.ensures.value is_line_feed (λ x answer k. search rules)

-- What the line that was read leads to.
leads : (c : After-line_of) (l : Result Entry Fault) → c.line_of.result ≡ l
    → let b = c.loop-entry.budget in
    Follows c.args.text.now (is_some b) (unwrap_or b largest_budget) c.loop-entry.table c.min-line.result (drop 1 (lines_of c.loop-entry.left.now)) (said l)
leads c l e =
    follows c.loop-entry.left.now c.loop-entry.invariant.reached (said l) (omega arith)
    (rw (← ended c, ← c.is_some.ensures, ← c.content.ensures, ← e) (sym c.line_of.ensures))

-- Whatever it said, the lines behind it are left.
joined : (c : Joined-entry)
    → ((l : Result Entry Fault) → c.line_of.result ≡ l → let b = c.loop-entry.budget in
    Follows c.args.text.now (is_some b) (unwrap_or b largest_budget) c.loop-entry.table c.min-line.result (drop 1 (lines_of c.loop-entry.left.now)) (said l))
    → let b = c.match-entry.budget in
    Reached c.args.text.now (is_some b) (unwrap_or b largest_budget) c.match-entry.table c.min-line.result (drop 1 (lines_of c.loop-entry.left.now))
joined c told = elim c.match-entry.branch [
  | in-Nothing w ↦ rw (w.budget-is, w.table-is) (told (Ok Entry.Nothing) (c.in-Ok.is ∙ ap Ok w.in-Nothing.is))
  | in-Budget w ↦ rw (w.budget-is, w.table-is) (told (Ok (Entry.Budget w.in-Budget.slots)) (c.in-Ok.is ∙ ap Ok w.in-Budget.is))
  | in-OneTask w ↦
      rw (w.budget-is, w.table-is, w.with_task-table.ensures)
      (told (Ok (Entry.OneTask w.in-OneTask.task)) (c.in-Ok.is ∙ ap Ok w.in-OneTask.is)).1
]

pub with_task-table-requires : goal.with_task-table-requires
with_task-table-requires c =
    (leads (goal.at.with_task-table-requires c).After-line_of (Ok (Entry.OneTask c.in-OneTask.task)) (c.in-Ok.is ∙ ap Ok c.in-OneTask.is)).0

pub returns-in-Err : goal.returns-in-Err
returns-in-Err c =
    let told = leads (goal.at.returns-in-Err c).After-line_of (Err c.in-Err.fault) c.in-Err.is in
    rw (c.refused_file.ensures, c.new.ensures) told

pub returns-then-end-left : goal.returns-then-end-left
returns-then-end-left c =
    let place = goal.at.returns-then-end-left c in
    let here = ended place.After-line_of in
    let left = last_line c.loop-entry.left.now c.loop-entry.invariant.reached (omega arith) in
    rw c.unwrap_or.ensures (text_ends (rw left at (joined place.Joined-entry (leads place.After-line_of))))

pub loop-entry-preserved : goal.loop-entry-preserved
loop-entry-preserved c =
    let place = goal.at.loop-entry-preserved c in
    let left = c.loop-entry.left.now in
    let here = ended place.After-line_of in
    let inside : c.find-end.result < length left = omega arith in
    let rest : drop 1 (lines_of left) ≡ lines_of (drop (c.find-end.result + 1) left) =
    later_line left c.loop-entry.invariant.reached (omega arith) ∙ ap (λ (n : ℕ). lines_of (drop (n + 1) left)) (sym here) in
    rw part_to_end (record {
      part = simp length-drop (omega arith);
      reached = rw rest at (joined place.Joined-entry (leads place.After-line_of));
    })
