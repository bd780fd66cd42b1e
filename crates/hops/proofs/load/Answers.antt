use Rattle.hops.proofs.load.Goals as goal

pub returns-then-w : goal.returns-then-w
returns-then-w c = rw c.if-w.true c.dword.ensures

pub returns : goal.returns
returns c = rw c.if-w.false c.byte_at.ensures.0
