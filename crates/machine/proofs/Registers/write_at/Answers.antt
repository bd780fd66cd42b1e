use Rattle.machine.specs.Record.{write_at}
use Rattle.machine.proofs.Registers.write_at.Goals as goal

pub returns-then-wide : goal.returns-then-wide
unfolding write_at
returns-then-wide c = rw (c.if-wide.true) (c.with.ensures)

pub returns : goal.returns
unfolding write_at
returns c = rw (c.if-wide.false) (c.with_byte.ensures)
