use native.Mathlib.Omega.{arith}
use Rattle.tablefile.proofs.task_in.Goals as goal

pub word_at-requires : goal.word_at-requires
word_at-requires c = omega (arith, rw c.if-button.true at c.requires)

pub word_at-requires-then-button : goal.word_at-requires-then-button
word_at-requires-then-button c = omega (arith, rw c.if-button.true at c.requires)

pub word_at-requires-then-button-2 : goal.word_at-requires-then-button-2
word_at-requires-then-button-2 c = omega (arith, rw c.if-button.true at c.requires)

pub returns-then-button : goal.returns-then-button
returns-then-button c = rw c.if-button.true (cc)

pub word_at-requires-2 : goal.word_at-requires-2
word_at-requires-2 c = omega (arith, rw c.if-button.false at c.requires)

pub word_at-requires-3 : goal.word_at-requires-3
word_at-requires-3 c = omega (arith, rw c.if-button.false at c.requires)

pub word_at-requires-4 : goal.word_at-requires-4
word_at-requires-4 c = omega (arith, rw c.if-button.false at c.requires)

pub word_at-requires-5 : goal.word_at-requires-5
word_at-requires-5 c = omega (arith, rw c.if-button.false at c.requires)

pub returns : goal.returns
returns c = rw c.if-button.false (cc)
