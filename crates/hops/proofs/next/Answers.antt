use borrow.Author.Tests.{eq-eqb, ne_eqb}
use Rattle.hops.proofs.next.Goals as goal

pub returns-then-p-eq6 : goal.returns-then-p-eq6
returns-then-p-eq6 c = rw (eq-eqb _ _ c.if-p-eq6.true)

pub returns-else-p-eq6 : goal.returns-else-p-eq6
returns-else-p-eq6 c = rw (ne_eqb _ _ c.if-p-eq6.false)
