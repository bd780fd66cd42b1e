use Rattle.outcome.specs.Outcome.{stacked}
use Rattle.std.proofs.Common.{eq-eqb, ne_eqb}
use Rattle.outcome.proofs.restack.Goals as goal

pub returns-then-p-eq4 : goal.returns-then-p-eq4
unfolding stacked
returns-then-p-eq4 c = rw (eq-eqb _ _ c.if-p-eq4.true) c.put.ensures

pub returns-then-p : goal.returns-then-p
unfolding stacked
returns-then-p c = rw (ne_eqb _ _ c.if-p-eq4.false, c.if-p.true) (cc)

pub returns-else-p : goal.returns-else-p
unfolding stacked
returns-else-p c = rw (ne_eqb _ _ c.if-p-eq4.false, c.if-p.false)
