use Rattle.std.proofs.Common.{refl}
use Rattle.strides.proofs.plain.settle.Goals as goal

pub returns-then-op : goal.returns-then-op
returns-then-op c = (rw c.if-op.true refl, c.onward.ensures)

pub returns : goal.returns
returns c = (rw c.if-op.false c.wrote.ensures.0, c.wrote.ensures.1)
