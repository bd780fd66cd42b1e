-- `cells::copy` puts one byte more over each time, so that all are over at the end. Assumes nothing.
use Rattle.cells.proofs.Copying.{copied_none, copied_on}
use Rattle.cells.proofs.copy.Goals as goal

pub loop-k-init : goal.loop-k-init
loop-k-init c = copied_none _ _ _ _

pub loop-k-preserved : goal.loop-k-preserved
loop-k-preserved c = copied_on _ _ _ _ _ c.loop-k.invariant c.get-x.ensures c.put.ensures
