use Rattle.machine.specs.Record.{read_at}
use Rattle.machine.proofs.Registers.read_at.Goals as goal

pub returns-then-wide : goal.returns-then-wide
unfolding read_at
returns-then-wide c = rw (c.if-wide.true) (c.read.ensures)

pub returns : goal.returns
unfolding read_at
returns c = rw (c.if-wide.false) (c.read_byte.ensures)
