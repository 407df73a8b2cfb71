-- A release, and none.
use Rattle.std.proofs.Common.{sym, eq-eqb, ne_eqb}
use lib.Seq.{set-get_or}
use Rattle.slots.proofs.columns.Columns.renew.Goals as goal

pub returns-then-before-eq0 : goal.returns-then-before-eq0
returns-then-before-eq0 c = let z = eq-eqb _ _ c.if-before-eq0.true in (rw z, rw z, cc, cc)

pub returns-else-before-eq0 : goal.returns-else-before-eq0
returns-else-before-eq0 c = let z = ne_eqb _ _ c.if-before-eq0.false in (rw z, rw z, cc, sym (set-get_or _ _ _))
