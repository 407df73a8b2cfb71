use Rattle.tablefile.proofs.body_bytes.Goals as goal

pub returns-then-button : goal.returns-then-button
returns-then-button c = rw c.if-button.true

pub returns : goal.returns
returns c = rw c.if-button.false
