-- The words of each sort stand one after another.
use Rattle.std.specs.Prelude.{◌++◌}
use Rattle.std.proofs.Common.{◌≡◌, append_assoc, rules}
use Rattle.model.specs.Notation.{text, decimal}
use Rattle.words.specs.Out.{Fits, both, first, second}
use Rattle.plaintext.proofs.put_name.Goals.{In-Periodic}
use Rattle.plaintext.proofs.put_name.Goals as goal

room : (c : In-Periodic) → Fits ((text "task " ++ decimal c.in-Periodic.offset) ++ (text " " ++ decimal c.args.cost)) c.args.out.now
room c = simp append_assoc (simp append_assoc at (rw c.in-Periodic.is at c.requires))

pub put_number-requires : goal.put_number-requires
unfolding text
put_number-requires c =
    let offset : c.from.result ≡ c.in-Periodic.offset = search rules in
    rw offset (first _ (room (goal.at.put_number-requires c).In-Periodic))

pub put_number-requires-in-Periodic : goal.put_number-requires-in-Periodic
unfolding text
put_number-requires-in-Periodic c =
    let offset : c.from.result ≡ c.in-Periodic.offset = search rules in
    let cost : c.from-in-Periodic.result ≡ c.args.cost = search rules in
    rw cost (second (rw offset at c.put_number.ensures) (room (goal.at.put_number-requires-in-Periodic c).In-Periodic))

pub put_number-requires-in-Button : goal.put_number-requires-in-Button
unfolding text
put_number-requires-in-Button c =
    let cost : c.from-in-Button.result ≡ c.args.cost = search rules in
    rw cost (rw c.in-Button.is at c.requires)

pub returns-in-Periodic : goal.returns-in-Periodic
unfolding text
returns-in-Periodic c =
    let offset : c.from.result ≡ c.in-Periodic.offset = search rules in
    let cost : c.from-in-Periodic.result ≡ c.args.cost = search rules in
    rw c.in-Periodic.is (simp append_assoc (both (rw offset at c.put_number.ensures) (rw cost at c.put_number-in-Periodic.ensures)))

pub returns-in-Button : goal.returns-in-Button
unfolding text
returns-in-Button c =
    let cost : c.from-in-Button.result ≡ c.args.cost = search rules in
    rw (c.in-Button.is) (rw cost at c.put_number-in-Button.ensures)
