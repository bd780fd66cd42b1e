use Rattle.std.proofs.Common.{eq-eqb, ne_eqb}
use Rattle.shortcut.proofs.modrm.places.Goals as goal

pub returns-then-b-eq193 : goal.returns-then-b-eq193
returns-then-b-eq193 c = rw (eq-eqb _ _ (c.if-b-eq193.true)) (c.number.ensures)

pub returns-then-b-eq209 : goal.returns-then-b-eq209
returns-then-b-eq209 c = rw (ne_eqb _ _ (c.if-b-eq193.false), eq-eqb _ _ (c.if-b-eq209.true))

pub returns : goal.returns
returns c = rw (ne_eqb _ _ (c.if-b-eq193.false), ne_eqb _ _ (c.if-b-eq209.false)) (c.read.ensures)
