use native.Mathlib.Omega.{arith}
use Rattle.blocks.proofs.Blocks.find.Goals as goal

pub returns-then-same : goal.returns-then-same
returns-then-same c = (omega arith, (omega arith, rw (← c.self.view_is) (c.same.ensures c.if-same.true)))
