use Rattle.paging.proofs.Cases.{flat_at, flat_past}
use Rattle.paging.proofs.flat.Goals as goal

pub returns-then-mem-l : goal.returns-then-mem-l
returns-then-mem-l c = flat_past _ _ c.if-mem-l.true

pub returns : goal.returns
returns c = flat_at _ _ c.if-mem-l.false
