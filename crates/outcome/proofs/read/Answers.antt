use Rattle.std.proofs.Common.{◌/◌, ◌%◌, ap, eq-eqb, ne_eqb}
use Rattle.machine.specs.Record.{read_at}
use Rattle.outcome.proofs.read.Goals as goal

pub returns-then-w : goal.returns-then-w
unfolding read_at
returns-then-w c = rw c.if-w.true c.register.ensures

pub returns-then-n-eq1 : goal.returns-then-n-eq1
unfolding read_at
returns-then-n-eq1 c = rw (c.if-w.false, eq-eqb _ _ c.if-n-eq1.true) (ap (λ x. x / 256 % 256) c.register-x.ensures)

pub returns : goal.returns
unfolding read_at
returns c = rw (c.if-w.false, ne_eqb _ _ c.if-n-eq1.false) (ap (λ x. x % 256) c.register-x.ensures)
