-- The budget decides first; what was made aside is the text.
use mathlib.Core.Path.{ap, ◌∙◌}
use mathlib.Core.List.{List}
use Prim.Native.Nat.{ℕ}
use native.Mathlib.Omega.{arith}
use Rattle.model.specs.Writer.{fitted, tasks_of}
use Rattle.model.specs.PlainText.{text_of}
use Rattle.writer.specs.Records.{something}
use Rattle.plaintext.specs.Texts.{front}
use Rattle.plaintext.proofs.write_text.Goals as goal

pub returns : goal.returns
returns c =
    let whole = front c.put_text-bytes.ensures.put (omega (arith, c.put_text-bytes.ensures.upper_bound)) in
    something c.args.budget (text_of c.args.budget (tasks_of c.args.table)) c.args.buffer.now c.if-budget-eq0.false
    (c.copy_text.ensures ∙ ap (λ (bytes : List ℕ). fitted bytes c.args.buffer.now) whole)
