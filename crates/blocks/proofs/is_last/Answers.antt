use Rattle.blocks.proofs.is_last.Goals as goal

pub returns-then-f : goal.returns-then-f
returns-then-f c = rw c.if-f.true

pub returns : goal.returns
returns c = rw c.if-f.false
