use Rattle.alu.specs.Arithmetic.{operation}
use Rattle.outcome.specs.Outcome.{operated}
use Rattle.outcome.proofs.operate_at.Goals as goal

pub returns-in-1 : goal.returns-in-1
unfolding operated operation
returns-in-1 g c = rw (c.in-1.is, ← (g.met.W.Word.ors _ _).1 _ c.bitor.ensures) c.logic.ensures

pub returns-in-4 : goal.returns-in-4
unfolding operated operation
returns-in-4 g c = rw (c.in-4.is, ← (g.met.W.Word.ands _ _).1 _ c.bitand.ensures) c.logic-in-4.ensures

pub returns-in-6 : goal.returns-in-6
unfolding operated operation
returns-in-6 g c = rw (c.in-6.is, ← (g.met.W.Word.xors _ _).1 _ c.bitxor.ensures) c.logic-in-6.ensures

pub returns-in-8 : goal.returns-in-8
unfolding operated operation
returns-in-8 g c = rw (c.in-8.is, ← (g.met.W.Word.ands _ _).1 _ c.bitand-in-8.ensures) c.logic-in-8.ensures
