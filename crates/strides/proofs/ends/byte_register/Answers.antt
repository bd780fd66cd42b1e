use Rattle.strides.proofs.Parts.{high_read, low_read}
use Rattle.strides.proofs.ends.byte_register.Goals as goal

pub returns-then-n-eq1 : goal.returns-then-n-eq1
returns-then-n-eq1 c = high_read _ c.args.n _ c.register-x.ensures c.if-n-eq1.true

pub returns : goal.returns
returns c = low_read _ c.args.n _ c.register-x.ensures c.if-n-eq1.false
