use Rattle.paging.proofs.Cases.{paged, unpaged}
use borrow.Author.Tests.{eq-eqb, ne_eqb}
use Rattle.paging.proofs.translate.Goals as goal

pub returns-then-c-eq1 : goal.returns-then-c-eq1
returns-then-c-eq1 c = paged _ _ _ _ _ (eq-eqb _ _ c.if-c-eq1.true) c.walk.ensures

pub returns : goal.returns
returns c = unpaged _ _ _ _ _ (ne_eqb _ _ c.if-c-eq1.false) c.flat.ensures
