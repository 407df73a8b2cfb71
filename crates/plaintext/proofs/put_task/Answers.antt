-- The words stand one after another.
use Rattle.std.specs.Prelude.{◌++◌}
use Rattle.std.proofs.Common.{◌≡◌, List, ℕ, rules}
use Rattle.values.specs.declared.Sort.{Sort}
use Rattle.model.specs.Notation.{text, decimal}
use Rattle.model.specs.PlainText.{sort_text}
use Rattle.model.specs.Report.{line}
use Rattle.words.specs.Out.{Fits, both, first, second}
use Rattle.plaintext.specs.Texts.{pieces}
use Rattle.plaintext.proofs.put_task.Goals.{Start}
use Rattle.plaintext.proofs.put_task.Goals as goal

abbrev parts : Sort → ℕ → ℕ → ℕ → List ℕ
parts sort cost deadline period = (sort_text sort ++ decimal cost) ++ ((text " " ++ decimal deadline) ++ line (text " " ++ decimal period))

room : (c : Start) → Fits (parts c.args.task.sort c.args.task.cost c.args.task.deadline c.args.task.period) c.args.out.now
room c = rw (pieces c.args.task) at c.requires

pub put_name-requires : goal.put_name-requires
put_name-requires c = first _ (room (goal.at.put_name-requires c).Start)

pub put_number-requires : goal.put_number-requires
unfolding text
put_number-requires c =
    let middle : c.from.result ≡ c.args.task.deadline = search rules in
    rw middle (first _ (second c.put_name.ensures (room (goal.at.put_number-requires c).Start)))

pub put_line-requires : goal.put_line-requires
unfolding text
put_line-requires c =
    let before : c.from.result ≡ c.args.task.deadline = search rules in
    let period : c.from-2.result ≡ c.args.task.period = search rules in
    rw period (second (rw before at c.put_number.ensures) (second c.put_name.ensures (room (goal.at.put_line-requires c).Start)))

pub returns : goal.returns
unfolding text
returns c =
    let all = both c.put_name.ensures (both c.put_number.ensures c.put_line.ensures) in
    let deadline : c.from.result ≡ c.args.task.deadline = search rules in
    let period : c.from-2.result ≡ c.args.task.period = search rules in
    rw (pieces c.args.task) (rw (deadline, period) at all)
