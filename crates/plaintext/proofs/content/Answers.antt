-- The comment is looked for in what stands before the end.
use Rattle.std.proofs.Common.{List, ℕ, get_or, [], sym, ap, ◌∙◌, rules, Bor}
use Rattle.model.specs.PlainText.{is_hash, split}
use Rattle.pieces.specs.Pieces.{first_piece}
use Rattle.plaintext.specs.Lines.{line_end}
use Rattle.plaintext.proofs.content.Goals as goal

pub returns : goal.returns
returns c =
    let line = ap (λ (l : Bor (List ℕ)). l.now) c.unwrap_or-line.ensures ∙ line_end c.args.line c.strip_suffix.result c.strip_suffix.ensures.cases in
    let hash = c.find.ensures.value is_hash (λ x answer k. search rules) in
    rw hash (sym (first_piece is_hash c.unwrap_or-line.result.now) ∙ ap (λ (l : List ℕ). get_or (split is_hash l) 0 []) line)
