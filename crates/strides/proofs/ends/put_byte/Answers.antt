use Rattle.strides.proofs.Parts.{high_put, low_put}
use Rattle.strides.proofs.ends.put_byte.Goals as goal

pub returns-then-n-eq1 : goal.returns-then-n-eq1
returns-then-n-eq1 c = high_put _ c.args.n _ c.register-old.ensures c.args.x c.requires.1 c.if-n-eq1.true c.put.ensures

pub returns : goal.returns
returns c = low_put _ c.args.n _ c.register-old.ensures c.args.x c.requires.1 c.if-n-eq1.false c.put-2.ensures
