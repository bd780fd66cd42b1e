use Rattle.machine.specs.Record.{write_at}
use Rattle.outcome.proofs.write.Goals as goal

pub returns-then-w : goal.returns-then-w
unfolding write_at
returns-then-w c = rw c.if-w.true c.put.ensures

pub returns : goal.returns
unfolding write_at
returns c = rw c.if-w.false (cc)
